use Rattle.grammar.proofs.Trees.{faithful, sized}
use Rattle.grammar.proofs.tables_stand.Goals as goal

pub returns : goal.returns
returns c = record { faithful = faithful; sized = sized }
