use Rattle.simulation.proofs.Typed.{are_bound}
use Rattle.simulation.proofs.typed_rules_are_bound.Goals as goal

pub returns : goal.returns
returns c = are_bound
