use Rattle.std.proofs.Common.{length}
use Rattle.typing.proofs.walk.+type_of.Given as goal

abbrev pub decreases-type_of : goal.decreases-type_of
decreases-type_of l = length l.entries.now
