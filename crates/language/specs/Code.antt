-- The translation of a rule: its words, how many they are, how high the stack stands, and why it may be refused.
use Rattle.std.specs.Prelude.{ℕ, zero, suc, ◌+◌, max, cond, ◌||◌, List, [], ◌∷◌, ◌++◌, replicate, Some, None, Option, nat_lt}
use Rattle.refusal.specs.declared.Refusal.{Refusal}
use Rattle.refusal.specs.declared.Refusal.TheVariants.{TooHigh, BranchTooLong, MemoryFull}
use Rattle.bytecode.specs.Words.{plus}
use Rattle.bytecode.specs.declared.instruction.Instruction.{Instruction}
use Rattle.bytecode.specs.declared.instruction.Instruction.TheVariants.{Push, Consti, Acc, Popi, Branch, Branchif}
use Rattle.language.specs.Operators.{row_of, prefix_row_of}
use Rattle.language.specs.Tree.{Tree, number, truth, name, prefix, binary, choose, bind}

-- what a word of the stack holds: the value of a binding, or an operand that waits for the other
pub data Slot : Type 0 where
  bound : Slot
  waiting : Slot

-- how many words stand above the k-th binding from the top
abbrev pub above : List Slot → ℕ → ℕ
above [] k = 0
above (waiting ∷ s) k = above s k + 1
above (bound ∷ s) zero = 0
above (bound ∷ s) (suc k) = above s k + 1

-- how many words a tree becomes
abbrev pub long : Tree → ℕ
long (number k p) = 1
long (truth b p) = 1
long (name k p) = 1
long (prefix o p t) = long t + 3
long (binary o p t u) = long t + 1 + long u + 1
long (choose p t u v) = long t + 1 + long v + 1 + long u
long (bind p t u) = long t + 1 + long u + 1

-- the words of a tree over a stack, the top first; the condition of an if is followed by the else branch
abbrev pub code : List Slot → Tree → List Instruction
code s (number k p) = Consti k ∷ []
code s (truth b p) = Consti (plus (cond b 1 0)) ∷ []
code s (name k p) = Acc (above s k) ∷ []
code s (prefix o p t) = code s t ++ Push ∷ Consti (prefix_row_of o).constant ∷ (prefix_row_of o).instruction ∷ []
code s (binary o p t u) = code s t ++ Push ∷ (code (waiting ∷ s) u ++ (row_of o).instruction ∷ [])
code s (choose p t u v) =
    code s t ++ Branchif (plus (long v + 2)) ∷ (code s v ++ Branch (plus (long u + 1)) ∷ code s u)
code s (bind p t u) = code s t ++ Push ∷ (code (bound ∷ s) u ++ Popi 1 ∷ [])

-- the most words of its own that stand on the stack at once
abbrev pub tall : Tree → ℕ
tall (number k p) = 0
tall (truth b p) = 0
tall (name k p) = 0
tall (prefix o p t) = max (tall t) 1
tall (binary o p t u) = max (tall t) (tall u + 1)
tall (choose p t u v) = max (tall t) (max (tall u) (tall v))
tall (bind p t u) = max (tall t) (tall u + 1)

-- the first some
abbrev pub or_else : {X : Type 0} → Option X → Option X → Option X
or_else None y = y
or_else (Some x) y = Some x

-- the place of the first if in post-order whose then code has over 254 words or whose else code has over 253
abbrev pub wide : Tree → Option ℕ
wide (number k p) = None
wide (truth b p) = None
wide (name k p) = None
wide (prefix o p t) = wide t
wide (binary o p t u) = or_else (wide t) (wide u)
wide (choose p t u v) =
    or_else (wide t) (or_else (wide u) (or_else (wide v) (cond (nat_lt 254 (long u) || nat_lt 253 (long v)) (Some p) None)))
wide (bind p t u) = or_else (wide t) (wide u)

-- the eight fields stand below the rule's own words
abbrev pub field_slots : List Slot
field_slots = replicate 8 bound

abbrev pub height : Tree → ℕ
height t = 8 + tall t

abbrev pub translation : Tree → List Instruction
translation t = code field_slots t

abbrev pub branch_refusal : Option ℕ → ℕ → ℕ → Option Refusal
branch_refusal (Some p) n room = Some (BranchTooLong p)
branch_refusal None n room = cond (nat_lt room n) (Some (MemoryFull n)) None

-- why a tree is not translated into a memory with that room: its height, then its branches, then its length
abbrev pub refusal_of : ℕ → Tree → Option Refusal
refusal_of room t = cond (nat_lt 128 (height t)) (Some (TooHigh (height t))) (branch_refusal (wide t) (long t) room)
