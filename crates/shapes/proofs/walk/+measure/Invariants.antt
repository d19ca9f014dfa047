use Rattle.std.proofs.Common.{length}
use Rattle.shapes.proofs.walk.+measure.Given as goal

abbrev pub decreases-measure : goal.decreases-measure
decreases-measure l = length l.entries.now
