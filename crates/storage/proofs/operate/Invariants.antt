use Rattle.std.proofs.Common.{◌≡◌, length, take, drop}
use Rattle.storage.specs.Ledger.{ledger, ToldBelow}
use Rattle.storage.proofs.operate.Given as goal

abbrev pub invariant-loop-i : goal.invariant-loop-i
invariant-loop-i g l =
    (g.M.CodeMemory.room l.memory ≡ g.M.CodeMemory.room l.fn.memory) ×
    (g.M.CodeMemory.listed l.memory ≡ take (g.M.CodeMemory.room l.fn.memory) (ledger (take l.i l.operations))) ×
    ToldBelow (g.M.CodeMemory.room l.fn.memory) l.operations l.answers l.i ×
    (drop (length l.operations) l.answers ≡ drop (length l.operations) l.fn.answers)
