use Rattle.std.proofs.Common.{◌≡◌}
use Rattle.records.specs.Writes.{added}
use Rattle.records.proofs.Operations.{appends}
use Rattle.records.proofs.bytes.add_word.Goals as goal

pub returns : goal.returns
returns c =
    let bytes = c.args.bytes.now in
    let made : c.recount.new.bytes ≡ added bytes c.args.last c.args.word = cc in
    appends bytes _ c.args.word c.args.last _ c.requires.stands c.requires.room made c.open_record-r.ensures.last
