use Rattle.std.proofs.Common.{◌≡◌, ◌<◌}
use Rattle.records.specs.Layout.{reached}
use Rattle.records.proofs.record_memory.RecordMemory.walk.Given as goal

abbrev pub invariant-loop-i : goal.invariant-loop-i
invariant-loop-i l = (l.r ≡ reached l.self.bytes l._i) × (l.r < 64)
