-- A new memory.
use Rattle.std.proofs.Common.{◌≡◌, ℕ, ◌+◌, ◌*◌, ◌<◌, ◌≤◌, cond, ltb, List, length, get_or, set, replicate, sym, refl, ap, ◌∙◌, subst, inl, inr, arith}
use Rattle.std.proofs.lemmas.List.{get_or-replicate, get_or_past, length-replicate}
use Rattle.std.proofs.lemmas.Bool.{cases_eq, cases_lt, cond-true, lt-ltb}
use Rattle.std.proofs.lemmas.Grind.{common_steps}
use Rattle.std.proofs.lemmas.Bool.Decides.{nat_tests}
use Rattle.records.specs.Layout.{next, count, records_for, Linked, Formed, blank}
use Rattle.records.specs.Steps.{Blank}
use Rattle.records.proofs.Operations.{no_code, stands_empty}

blank_link : (i r : ℕ) → 0 < r → r < i → blank i (16 * r) ≡ r + 1
blank_link i r p q = grind (arith, nat_tests)

blank_first : (zeros : List ℕ) → 1 < length zeros → ((k : ℕ) → get_or zeros k 0 ≡ 0) → (k : ℕ) → get_or (set zeros 1 1) k 0 ≡ blank 1 k
blank_first zeros l h k = grind (arith, common_steps, h k, cases_eq k 1)

pub blank_start : (k : ℕ) → get_or (set (replicate 1024 0) 1 1) k 0 ≡ blank 1 k
blank_start =
    blank_first (replicate 1024 0) (simp length-replicate (omega arith)) (λ k. elim (cases_lt k 1024) [ inl l ↦ get_or-replicate 1024 k 0 0 l | inr l ↦ get_or_past (replicate 1024 0) k 0 (simp length-replicate l) ])

-- one more record names the one of the next number
pub blank_more :
    (bytes : List ℕ) (r : ℕ) → 0 < r → 16 * r < length bytes →
    ((k : ℕ) → get_or bytes k 0 ≡ blank r k) → (k : ℕ) → get_or (set bytes (16 * r) (r + 1)) k 0 ≡ blank (r + 1) k
blank_more bytes r some l h k = grind (arith, common_steps, h k, cases_eq k (16 * r))

blank_rest : (i k : ℕ) → 4 ≤ k → k < 16 → blank i k ≡ 0
blank_rest i k p q = grind (arith, nat_tests)

-- the records are listed by their numbers
blank_linked : (bytes : List ℕ) → length bytes ≡ 1024 → ((k : ℕ) → get_or bytes k 0 ≡ blank 63 k) → Linked bytes 0 (λ i. cond (ltb i 64) i 0) (λ r. r)
blank_linked bytes size h =
    let order : ℕ → ℕ = λ i. cond (ltb i 64) i 0 in
    let is : (i : ℕ) → i < 64 → order i ≡ i = λ i l. cond-true _ _ _ (lt-ltb i 64 l) in
    record {
      size = size;
      rest = λ k p q. h k ∙ blank_rest 63 k p q;
      border = omega arith;
      head = refl;
      tail = refl;
      within = λ i l. subst (λ r. r < 64) (sym (is i l)) l;
      found = is;
      every = λ r l. (l, is r l);
      links = λ i l ne.
          ap (next bytes) (is i l) ∙ (h (16 * i) ∙ elim (cases_lt i 63) [ inl p ↦ blank_link 63 i (omega arith) p ∙ sym (is (i + 1) (omega arith)) | inr p ↦ let e : i ≡ 63 = omega arith in ap (λ j. blank 63 (16 * j)) e ∙ sym (ap (λ j. order (j + 1)) e) ]);
      ends = h 0;
      free = h 1;
    }

pub blank_bytes : (bytes : List ℕ) → length bytes ≡ 1024 → ((k : ℕ) → get_or bytes k 0 ≡ blank 63 k) → Blank bytes
blank_bytes bytes size h =
    let none : count bytes ≡ 0 = omega (arith, h 2, h 3) in
    let n : 0 ≡ records_for (count bytes) = sym (ap records_for none) in
    let order : ℕ → ℕ = λ i. cond (ltb i 64) i 0 in
    let formed : Formed bytes = (order, ((λ r. r), subst (λ k. Linked bytes k order (λ r. r)) n (blank_linked bytes size h))) in
    record { stands = stands_empty bytes none ∣ formed ∣₁; after = no_code bytes none; written = h }
