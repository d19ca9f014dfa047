-- The bytes that each operation leaves.
use Rattle.std.specs.Prelude.{ℕ, ◌+◌, ◌*◌, ◌/◌, ◌%◌, cond, List, ◌==◌, nat_lt, slice_set}
use Rattle.bytecode.specs.declared.instruction.Word.{Word}
use Rattle.memory.specs.Bytes.{put}
use Rattle.records.specs.Layout.{next, first_free, count, records_for, reached, spot}

-- the count, high byte first
abbrev pub recounted : List ℕ → ℕ → List ℕ
recounted bytes n = slice_set (slice_set bytes 2 (n / 256)) 3 (n % 256)

-- a word at the k-th place of record r, and the new count
abbrev pub filled : List ℕ → ℕ → ℕ → Word → ℕ → List ℕ
filled bytes r k w n = recounted (put bytes (spot r k) w) n

-- the free record `fresh` becomes the last of the rule, behind `last`, and its old next becomes the first free
abbrev pub taken : List ℕ → ℕ → ℕ → List ℕ
taken bytes last fresh = slice_set (slice_set (slice_set bytes 1 (next bytes fresh)) (16 * last) fresh) (16 * fresh) 0

-- the record where the next word goes: a fresh one if the count is a multiple of five, else the rule's last
abbrev pub last_after : List ℕ → ℕ → ℕ
last_after bytes last = cond (count bytes % 5 == 0) (first_free bytes) last

-- that record is then the rule's last
abbrev pub opened : List ℕ → ℕ → List ℕ
opened bytes last = cond (count bytes % 5 == 0) (taken bytes last (first_free bytes)) bytes

-- one more word
abbrev pub added : List ℕ → ℕ → Word → List ℕ
added bytes last w = filled (opened bytes last) (last_after bytes last) (count bytes % 5) w (count bytes + 1)

-- an append: nothing is written where 315 words stand
abbrev pub appended_in : List ℕ → Word → List ℕ
appended_in bytes w = cond (nat_lt (count bytes) 315) (added bytes (reached bytes (records_for (count bytes))) w) bytes

-- the rule's chain, up to `last`, stands before the free chain, and the rule has none
abbrev pub joined : List ℕ → ℕ → List ℕ
joined bytes last = slice_set (slice_set (slice_set bytes (16 * last) (first_free bytes)) 1 (next bytes 0)) 0 0

-- a clear: an empty memory stays as it is
abbrev pub emptied : List ℕ → ℕ → List ℕ
emptied bytes last = cond (count bytes == 0) bytes (recounted (joined bytes last) 0)

abbrev pub cleared_in : List ℕ → List ℕ
cleared_in bytes = emptied bytes (reached bytes (records_for (count bytes)))
