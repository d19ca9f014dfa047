use Rattle.std.proofs.Common.{◌≡◌, ℕ, List, ◌++◌, drop}
use Rattle.listing.proofs.Listed.{Read}
use Rattle.listing.proofs.put_lines.Given as goal

abbrev pub invariant-loop-place : goal.invariant-loop-place
invariant-loop-place g l =
    (text : List ℕ) × Read (g.M.CodeMemory.listed l.memory) l.place text l.end × (l.out ≡ text ++ drop l.end l.initial.out)
