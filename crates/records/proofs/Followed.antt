-- The chains that a reader follows are the two parts of the list of records.
use Rattle.std.proofs.Common.{◌≡◌, ℕ, zero, suc, ◌+◌, ◌-◌, ◌<◌, ◌≤◌, ◌≢◌, List, [], ◌∷◌, ◌++◌, map, length, sym, refl, ap, ◌∙◌, inl, inr, arith}
use mathlib.Core.List.{is_set}
use mathlib.Core.Logic.{∥∥₁_elim}
use native.Mathlib.Nat.{ℕ_set}
use Rattle.std.specs.List.{range_with_len}
use Rattle.std.proofs.lemmas.List.FromFn.{length-map-range_with_len}
use Rattle.std.proofs.lemmas.List.{map-append}
use Rattle.std.proofs.lemmas.Bool.Decides.{nat_tests}
use Rattle.std.proofs.lemmas.Bool.{cases_eq, cases_lt, cond-false, le-ltb}
use Rattle.records.specs.Layout.{next, count, Linked, Formed}
use Rattle.records.specs.Writes.{cleared_in}
use Rattle.records.specs.Chains.{chain, rule_chain, free_chain, times_in, Sound, AppendMoves, ClearMoves}
use Rattle.records.proofs.Links.{not_head}
use Rattle.records.proofs.Operations.{append_linked, clear_linked}

counting_parts : (a m k : ℕ) → range_with_len a (m + k) ≡ range_with_len a m ++ range_with_len (a + m) k
counting_parts a zero k =
    let p : 0 + k ≡ k = omega arith in let q : a + 0 ≡ a = omega arith in ap (range_with_len a) p ∙ ap (λ b. range_with_len b k) (sym q)
counting_parts a (suc m) k =
    let p : suc m + k ≡ suc (m + k) = omega arith in
    let q : (a + 1) + m ≡ a + suc m = omega arith in
    ap (range_with_len a) p ∙ (ap (λ xs. a ∷ xs) (counting_parts (a + 1) m k) ∙ ap (λ b. a ∷ (range_with_len (a + 1) m ++ range_with_len b k)) q)

module _ {bytes : List ℕ} {n : ℕ} {order place : ℕ → ℕ} (h : Linked bytes n order place) where
  goes_on : (most r : ℕ) → r ≢ 0 → chain bytes (suc most) r ≡ r ∷ chain bytes most (next bytes r)
  goes_on most r ne = grind (arith, nat_tests)

  stops : (most r : ℕ) → r ≡ 0 → chain bytes (suc most) r ≡ []
  stops most r e = grind (arith, nat_tests)

  -- behind the i-th record stand the k that are left of the rule's
  rule_from : (k i most : ℕ) → i + k ≡ n → k < most → chain bytes most (next bytes (order i)) ≡ map order (range_with_len (i + 1) k)
  rule_from k i zero e l = absurd (omega arith)
  rule_from zero i (suc most) e l =
      stops most (next bytes (order i)) (ap (λ j. next bytes (order j)) (let q : i ≡ n = omega arith in q) ∙ h.ends)
  rule_from (suc k) i (suc most) e l =
      let border = h.border in
      let link = h.links i (omega arith) (λ q. omega arith) in
      ap (chain bytes (suc most)) link ∙ (goes_on most (order (i + 1)) (not_head h (i + 1) (omega arith) (omega arith)) ∙ ap (λ xs. order (i + 1) ∷ xs) (rule_from k (i + 1) most (omega arith) (omega arith)))

  -- from the i-th record, a free one, to the end of all
  free_from : (k i most : ℕ) → i + k ≡ 64 → n < i → k < most → chain bytes most (order i) ≡ map order (range_with_len i k)
  free_from k i zero e p l = absurd (omega arith)
  free_from zero i (suc most) e p l = stops most (order i) (ap order (let q : i ≡ 64 = omega arith in q) ∙ h.tail)
  free_from (suc k) i (suc most) e p l =
      let link = h.links i (omega arith) (λ q. omega arith) in
      goes_on most (order i) (not_head h i (omega arith) (omega arith)) ∙ ap (λ xs. order i ∷ xs) (ap (chain bytes most) link ∙ free_from k (i + 1) most (omega arith) (omega arith) (omega arith))

  pub rule_order : rule_chain bytes ≡ map order (range_with_len 1 n)
  rule_order =
      let border = h.border in
      ap (λ r. chain bytes 64 (next bytes r)) (sym h.head) ∙ (rule_from n 0 64 (omega arith) border ∙ ap (λ a. map order (range_with_len a n)) (let q : 0 + 1 ≡ 1 = omega arith in q))

  pub free_order : free_chain bytes ≡ map order (range_with_len (n + 1) (63 - n))
  free_order =
      let border = h.border in
      ap (chain bytes 64) h.free ∙ free_from (63 - n) (n + 1) 64 (omega arith) (omega arith) (omega arith)

  -- both chains, one after the other, are the list without record 0
  pub both_order : rule_chain bytes ++ free_chain bytes ≡ map order (range_with_len 1 63)
  both_order =
      let border = h.border in
      let all : n + (63 - n) ≡ 63 = omega arith in
      let from : 1 + n ≡ n + 1 = omega arith in
      let parts = ap (λ k. map order (range_with_len 1 k)) (sym all) ∙ (ap (map order) (counting_parts 1 n (63 - n)) ∙ map-append order (range_with_len 1 n) (range_with_len (1 + n) (63 - n))) in
      ap (λ xs. xs ++ free_chain bytes) rule_order ∙ (ap (λ xs. map order (range_with_len 1 n) ++ xs) (free_order ∙ ap (λ a. map order (range_with_len a (63 - n))) (sym from)) ∙ sym parts)

  never_in :
      (r : ℕ) → r < 64 → (a k : ℕ) → a + k ≤ 64 → place r < a → times_in r (map order (range_with_len a k)) ≡ 0
  never_in r l a zero t p = refl
  never_in r l a (suc k) t p =
      let ne : order a ≢ r = λ e. (let q : a ≡ place r = sym (h.found a (omega arith)) ∙ ap place e in omega arith) in
      let rest = never_in r l (a + 1) k (omega arith) (omega arith) in
      grind (arith, nat_tests)

  once_in :
      (r : ℕ) → r < 64 → (a k : ℕ) → a + k ≤ 64 → a ≤ place r → place r < a + k → times_in r (map order (range_with_len a k)) ≡ 1
  once_in r l a zero t p q = absurd (omega arith)
  once_in r l a (suc k) t p q =
      elim (cases_eq (place r) a) [
        | inl e ↦
            let is : order a ≡ r = ap order (sym e) ∙ (h.every r l).1 in
            let rest = never_in r l (a + 1) k (omega arith) (omega arith) in
            grind (arith, nat_tests)
        | inr u ↦
            let ne : order a ≢ r = λ e. u (sym (sym (h.found a (omega arith)) ∙ ap place e)) in
            let rest = once_in r l (a + 1) k (omega arith) (omega arith) (omega arith) in
            grind (arith, nat_tests)
      ]

  once_in_chains : (r : ℕ) → 0 < r → r < 64 → times_in r (rule_chain bytes ++ free_chain bytes) ≡ 1
  once_in_chains r p l =
      let w = h.every r l in
      let ne : place r ≢ 0 = λ e. (let q : 0 ≡ r = sym h.head ∙ (ap order (sym e) ∙ w.1) in omega arith) in
      ap (times_in r) both_order ∙ once_in r l 1 63 (omega arith) (omega arith) (omega (arith, w.0))

  rule_length : length (rule_chain bytes) ≡ n
  rule_length = ap length rule_order ∙ length-map-range_with_len order 1 n

  free_length : length (free_chain bytes) ≡ 63 - n
  free_length = ap length free_order ∙ length-map-range_with_len order (n + 1) (63 - n)

pub sound : (bytes : List ℕ) → ∥ Formed bytes ∥₁ → Sound bytes
sound bytes f =
    record {
      once = λ r p l. ∥∥₁_elim f (ℕ_set _ _) (λ w. once_in_chains w.1.1 r p l);
      rule = ∥∥₁_elim f (ℕ_set _ _) (λ w. rule_length w.1.1);
      free = ∥∥₁_elim f (ℕ_set _ _) (λ w. free_length w.1.1);
      rest = λ k p q. ∥∥₁_elim f (ℕ_set _ _) (λ w. w.1.1.rest k p q);
    }

chains_set : (xs ys : List ℕ) (p q : xs ≡ ys) → p ≡ q
chains_set = is_set ℕ_set

pub append_moves : AppendMoves
append_moves bytes w f =
    ∥∥₁_elim f (chains_set _ _)
    (λ s.
    elim (cases_lt (count bytes) 315) [
      | inl less ↦ both_order (append_linked bytes s w less) ∙ sym (both_order s.1.1)
      | inr l ↦ ap (λ bs. rule_chain bs ++ free_chain bs) (cond-false _ _ bytes (le-ltb _ _ l))
    ])

pub clear_moves : ClearMoves
clear_moves bytes f =
    let none : rule_chain (cleared_in bytes) ≡ [] = ∥∥₁_elim f (chains_set _ _) (λ s. rule_order (clear_linked bytes s)) in
    (none, ∥∥₁_elim f (chains_set _ _) (λ s. free_order (clear_linked bytes s) ∙ sym (both_order s.1.1)))
