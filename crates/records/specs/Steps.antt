-- What each step on the bytes comes to, for the memory that has them.
use Rattle.std.specs.Prelude.{◌≡◌, ℕ, ◌+◌, ◌/◌, ◌<◌, ◌≤◌, cond, List, [], Ok, Some, nat_lt, slice_index}
use Rattle.bytecode.specs.declared.instruction.Word.{Word}
use Rattle.std.specs.List.{slice_get}
use Rattle.records.specs.declared.cursor.Cursor.{Cursor}
use Rattle.memory.specs.Lists.{answered, appended}
use Rattle.records.specs.Layout.{first_free, count, records_for, reached, code, Formed, blank}
use Rattle.records.specs.Writes.{appended_in, cleared_in}

-- the bytes are a memory whose rule ends with record `last`
pub record Stands (bytes : List ℕ) (last : ℕ) : Type 0 where
  pub few : count bytes ≤ 315
  pub formed : ∥ Formed bytes ∥₁
  pub free : first_free bytes < 64
  pub near : last < 64
  pub ends : last ≡ reached bytes (records_for (count bytes))

-- who stands in the rule's chain stands there afterwards
pub record Stays (before bytes : List ℕ) : Type 0 where
  pub within : (index : ℕ) → index ≤ records_for (count before) → index ≤ records_for (count bytes)
  pub here : (r index : ℕ) → index ≤ records_for (count before) → r ≡ reached before index → r ≡ reached bytes index

-- one more word
pub record Appends (before : List ℕ) (w : Word) (bytes : List ℕ) (last : ℕ) : Type 0 where
  pub stands : Stands bytes last
  pub stays : Stays before bytes
  pub answer : Ok tt ≡ answered (code before) 315
  pub after : code bytes ≡ appended (code before) 315 w
  pub written : bytes ≡ appended_in before w

pub record Clears (before bytes : List ℕ) : Type 0 where
  pub stands : Stands bytes 0
  pub after : code bytes ≡ []
  pub written : bytes ≡ cleared_in before

-- a new memory
pub record Blank (bytes : List ℕ) : Type 0 where
  pub stands : Stands bytes 0
  pub after : code bytes ≡ []
  pub written : (k : ℕ) → slice_index bytes k ≡ blank 63 k

-- a word of the code, and the cursor where it was found
pub record Found (bytes : List ℕ) (place : ℕ) (w : Word) (at : Cursor) : Type 0 where
  pub there : place < count bytes
  pub word : Some w ≡ slice_get (code bytes) place
  pub index : at.index ≡ place / 5 + 1
  pub stands : at.record ≡ reached bytes at.index

-- where a reader stands in the chain after a place was read: past the end it does not move
abbrev pub index_after : List ℕ → ℕ → ℕ → ℕ
index_after bytes index place = cond (nat_lt place (count bytes)) (place / 5 + 1) index
