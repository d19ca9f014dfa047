-- A memory of 1024 bytes is 64 records of 16 bytes. Of record 0, byte 0 is the rule's first record, byte 1 the first
-- free record, bytes 2 and 3 are the number of words, high byte first, and the rest is 0. Of any other record, byte 0 is the next
-- record of its chain, 0 at the chain's end, and bytes 1 to 15 are five words.
use Rattle.std.specs.Prelude.{◌≡◌, ℕ, zero, suc, ◌+◌, ◌*◌, ◌/◌, ◌%◌, ◌<◌, ◌≤◌, cond, ◌&&◌, List, map, length, ◌==◌, ◌≢◌, nat_lt, slice_index}
use Rattle.std.specs.List.{range_with_len}
use Rattle.bytecode.specs.declared.instruction.Word.{Word}
use Rattle.memory.specs.Bytes.{word_at}

-- the record that r names as its next; record 0 so names the rule's first
abbrev pub next : List ℕ → ℕ → ℕ
next bytes r = slice_index bytes (16 * r)

abbrev pub first_free : List ℕ → ℕ
first_free bytes = slice_index bytes 1

abbrev pub count : List ℕ → ℕ
count bytes = 256 * slice_index bytes 2 + slice_index bytes 3

-- the number of records that n words take
abbrev pub records_for : ℕ → ℕ
records_for n = (n + 4) / 5

-- the record to which i links lead from record 0
abbrev pub reached : List ℕ → ℕ → ℕ
reached bytes zero = 0
reached bytes (suc i) = next bytes (reached bytes i)

-- the first byte of the k-th word of record r, from k = 0
abbrev pub spot : ℕ → ℕ → ℕ
spot r k = 16 * r + (3 * k + 1)

-- the word at a place of the code: five words to a record, the records in the order of their chain
abbrev pub code_at : List ℕ → ℕ → Word
code_at bytes place = word_at bytes (spot (reached bytes (place / 5 + 1)) (place % 5))

-- the code
abbrev pub code : List ℕ → List Word
code bytes = map (code_at bytes) (range_with_len 0 (count bytes))

-- One list of all records, `order`, begins with record 0, goes on with the n records of the rule, and ends with the
-- free ones; `place` finds a record in it, so each is there exactly once. Every record names the one behind it as its
-- next, but for the rule's last, which names 0, as the last of all does. The rest of record 0 is 0.
pub record Linked (bytes : List ℕ) (n : ℕ) (order place : ℕ → ℕ) : Type 0 where
  pub size : length bytes ≡ 1024
  pub rest : (k : ℕ) → 4 ≤ k → k < 16 → slice_index bytes k ≡ 0
  pub border : n < 64
  pub head : order 0 ≡ 0
  pub tail : order 64 ≡ 0
  pub within : (i : ℕ) → i < 64 → order i < 64
  pub found : (i : ℕ) → i < 64 → place (order i) ≡ i
  pub every : (r : ℕ) → r < 64 → (place r < 64) × (order (place r) ≡ r)
  pub links : (i : ℕ) → i < 64 → (i ≢ n) → next bytes (order i) ≡ order (i + 1)
  pub ends : next bytes (order n) ≡ 0
  pub free : first_free bytes ≡ order (n + 1)

-- the bytes are such a list of records, and the rule has as many as its words take
abbrev pub Formed : List ℕ → Type 0
Formed bytes = (order : ℕ → ℕ) × ((place : ℕ → ℕ) × Linked bytes (records_for (count bytes)) order place)

-- byte k of an empty memory in which the records 1 to i - 1 name the one of the next number
abbrev pub blank : ℕ → ℕ → ℕ
blank i k = cond (k == 1) 1 (cond (k % 16 == 0 && (nat_lt 0 k && nat_lt k (16 * i))) (k / 16 + 1) 0)
