use Rattle.std.proofs.Common.{◌≡◌, ℕ, length, get_or}
use Rattle.records.specs.Layout.{blank}
use Rattle.records.proofs.bytes.blank_bytes.Given as goal

abbrev pub invariant-loop-r : goal.invariant-loop-r
invariant-loop-r l = (length l.bytes ≡ 1024) × ((k : ℕ) → get_or l.bytes k 0 ≡ blank l.r k)
