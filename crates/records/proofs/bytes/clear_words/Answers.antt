use Rattle.std.proofs.Common.{rules}
use Rattle.records.proofs.Operations.{clears}
use Rattle.records.proofs.bytes.clear_words.Goals as goal

pub returns-then-count_in-eq0 : goal.returns-then-count_in-eq0
returns-then-count_in-eq0 c = clears c.args.bytes.now _ c.args.last c.requires (search rules)

pub returns : goal.returns
returns c = clears c.args.bytes.now _ c.args.last c.requires (search rules)
