-- The two chains as a reader of the bytes finds them, record by record until a next is 0.
use Rattle.std.specs.Prelude.{◌≡◌, ℕ, zero, suc, ◌+◌, ◌-◌, ◌<◌, ◌≤◌, cond, List, [], ◌∷◌, ◌++◌, length, ◌==◌, slice_index}
use Rattle.bytecode.specs.declared.instruction.Word.{Word}
use Rattle.records.specs.Layout.{next, first_free, count, records_for, Formed}
use Rattle.records.specs.Writes.{appended_in, cleared_in}

-- the chain from record r on, cut after so many records
abbrev pub chain : List ℕ → ℕ → ℕ → List ℕ
chain bytes zero r = []
chain bytes (suc most) r = cond (r == 0) [] (r ∷ chain bytes most (next bytes r))

-- a cut after 64 records cuts nothing off a chain without a cycle
abbrev pub rule_chain : List ℕ → List ℕ
rule_chain bytes = chain bytes 64 (next bytes 0)

abbrev pub free_chain : List ℕ → List ℕ
free_chain bytes = chain bytes 64 (first_free bytes)

abbrev pub times_in : ℕ → List ℕ → ℕ
times_in r [] = 0
times_in r (x ∷ xs) = cond (x == r) 1 0 + times_in r xs

-- Each record but 0 is in exactly one of the chains, once. The rule's chain is as long as its words need, and both
-- together have 63 records, so nothing else is in them and neither has a cycle. The rest of record 0 is 0.
pub record Sound (bytes : List ℕ) : Type 0 where
  pub once : (r : ℕ) → 0 < r → r < 64 → times_in r (rule_chain bytes ++ free_chain bytes) ≡ 1
  pub rule : length (rule_chain bytes) ≡ records_for (count bytes)
  pub free : length (free_chain bytes) ≡ 63 - records_for (count bytes)
  pub rest : (k : ℕ) → 4 ≤ k → k < 16 → slice_index bytes k ≡ 0

-- An append moves at most the border: the rule's chain followed by the free chain stays one and the same list.
abbrev pub AppendMoves : Type 0
AppendMoves =
    (bytes : List ℕ) (w : Word) →
    ∥ Formed bytes ∥₁ → rule_chain (appended_in bytes w) ++ free_chain (appended_in bytes w) ≡ rule_chain bytes ++ free_chain bytes

-- A clear leaves the rule no record, and the free chain begins with those that it had.
abbrev pub ClearMoves : Type 0
ClearMoves =
    (bytes : List ℕ) →
    ∥ Formed bytes ∥₁ → (rule_chain (cleared_in bytes) ≡ []) × (free_chain (cleared_in bytes) ≡ rule_chain bytes ++ free_chain bytes)
