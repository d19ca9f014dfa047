use Rattle.std.proofs.Common.{length}
use Rattle.reader.proofs.scope.+find_among.Given as goal

abbrev pub decreases-find_among : goal.decreases-find_among
decreases-find_among l = length l.names.now
