use Rattle.grammar.proofs.Examples.{examples}
use Rattle.grammar.proofs.examples_stand.Goals as goal

pub returns : goal.returns
returns c = examples
