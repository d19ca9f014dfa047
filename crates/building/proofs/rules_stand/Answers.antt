use Rattle.building.proofs.Trees.{rules_stand}
use Rattle.building.proofs.rules_stand.Goals as goal

pub returns : goal.returns
returns c = rules_stand
