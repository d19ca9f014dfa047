use Rattle.std.proofs.Common.{length, sym, refl, ◌∙◌}
use Rattle.language.specs.Reading.{reading}
use Rattle.reader.proofs.Whole.{left_ok, left_err, filled}
use Rattle.reader.proofs.reading.read.Goals as goal

pub returns-then-is_err-clause-table : goal.returns-then-is_err-clause-table
returns-then-is_err-clause-table c =
    let w = c.write-read in
    let old = c.args.table.now in
    filled old w.new.table c.fill.new.self _ refl refl w.auto.table (c.fill.ensures.after (λ y e. e))
    ∙ sym (left_err (reading (length old) c.args.text.now) old w.new.table w.result w.ensures.written (sym c.is_err.ensures.value ∙ c.if-is_err.true))

pub returns-else-is_err-clause-table : goal.returns-else-is_err-clause-table
returns-else-is_err-clause-table c =
    let w = c.write-read in
    let old = c.args.table.now in
    left_ok (reading (length old) c.args.text.now) old w.new.table w.result w.ensures.written (sym c.is_err.ensures.value ∙ c.if-is_err.false) w.ensures.room
