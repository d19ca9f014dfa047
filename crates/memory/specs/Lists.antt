-- What appending a word to a list answers and leaves, where there is room for `room` words.
use Rattle.std.specs.Prelude.{ℕ, cond, List, [], ◌∷◌, ◌++◌, length, Ok, Err, Result, nat_lt}
use Rattle.refusal.specs.declared.Refusal.{Refusal}
use Rattle.refusal.specs.declared.Refusal.TheVariants.{MemoryFull}
use Rattle.bytecode.specs.declared.instruction.Word.{Word}

-- a refusal exactly when the list is full
abbrev pub answered : List Word → ℕ → Result (Unit {0}) Refusal
answered words room = cond (nat_lt (length words) room) (Ok tt) (Err (MemoryFull room))

abbrev pub appended : List Word → ℕ → Word → List Word
appended words room w = cond (nat_lt (length words) room) (words ++ w ∷ []) words
