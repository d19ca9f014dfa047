use Rattle.std.proofs.Common.{length}
use Rattle.compiler.proofs.emit.+emit.Given as goal

abbrev pub decreases-emit : goal.decreases-emit
decreases-emit g l = length l.entries.now
