-- Appending, clearing and reading, on the bytes of a memory.
use Rattle.std.proofs.Common.{◌≡◌, ℕ, ◌+◌, ◌-◌, ◌*◌, ◌/◌, ◌%◌, ◌<◌, ◌≤◌, ltb, List, [], ◌∷◌, ◌++◌, map, length, get_or, Some, None, sym, refl, ap, ◌∙◌, subst, inl, inr, add-one, arith, length-set, length-take, length-drop}
use mathlib.Core.Logic.{∥∥₁_elim, ∥∥₁_map}
use native.Mathlib.Bridge.{le_prop}
use native.Mathlib.Nat.{ℕ_set}
use Rattle.std.specs.List.{slice_get, range_with_len}
use Rattle.std.proofs.lemmas.List.FromFn.{length-map-range_with_len, get_or-map-range_with_len}
use Rattle.std.proofs.lemmas.Option.{slice_get-get_or, slice_get_past}
use Rattle.std.proofs.lemmas.Bool.Decides.{nat_tests}
use Rattle.std.proofs.lemmas.Bool.{cases_eq, cond-true, lt-ltb}
use Rattle.bytecode.specs.declared.instruction.Word.{Word}
use Rattle.std.specs.Simd.{first_chunks}
use borrow.Rule.Slice.PartMut.{mid_of}
use Rattle.bytecode.specs.Words.{bytes_of}
use Rattle.memory.specs.Bytes.{word_at}
use Rattle.memory.proofs.Bytes.{alike, beside, part_word, copied_put, chunk_word}
use Rattle.records.specs.Layout.{next, first_free, count, records_for, reached, spot, code_at, code, Linked, Formed}
use Rattle.records.specs.Writes.{recounted, filled, taken, added, last_after, appended_in, joined, emptied, cleared_in}
use Rattle.records.specs.Steps.{Stands, Stays, Appends, Clears}
use Rattle.records.proofs.Links.{reached_order, same_links, inside, takes, joins}
use Rattle.records.proofs.Codes.{words_set, count_beside, count_back, fill_count, same_code_at, fills, fill_code}

-- what the check is told where a word is put
pub ruleset copies = (copied_put)

-- Reading.

pub length_code : (bytes : List ℕ) → length (code bytes) ≡ count bytes
length_code bytes = length-map-range_with_len (code_at bytes) 0 (count bytes)

pub size_formed : (bytes : List ℕ) → ∥ Formed bytes ∥₁ → length bytes ≡ 1024
size_formed bytes f = ∥∥₁_elim f (ℕ_set _ _) (λ w. w.1.1.size)

pub reached_within : (bytes : List ℕ) → ∥ Formed bytes ∥₁ → (i : ℕ) → i ≤ records_for (count bytes) → reached bytes i < 64
reached_within bytes f i l =
    ∥∥₁_elim f le_prop
    (λ w.
    let h = w.1.1 in let border = h.border in subst (λ r. r < 64) (sym (reached_order h i l)) (h.within i (omega arith)))

pub reached_next :
    (bytes : List ℕ) → ∥ Formed bytes ∥₁ →
    (i r : ℕ) → i < records_for (count bytes) → r ≡ reached bytes i → (next bytes r ≡ reached bytes (i + 1)) × (next bytes r < 64)
reached_next bytes f i r l e =
    let is : next bytes r ≡ reached bytes (i + 1) = ap (next bytes) e ∙ sym (ap (reached bytes) (add-one i)) in
    (is, subst (λ k. k < 64) (sym is) (reached_within bytes f (i + 1) (omega arith)))

pub free_within : (bytes : List ℕ) → ∥ Formed bytes ∥₁ → first_free bytes < 64
free_within bytes f =
    ∥∥₁_elim f le_prop
    (λ w.
    let h = w.1.1 in
    let border = h.border in
    let n : ℕ = records_for (count bytes) in
    elim (cases_eq n 63) [
      | inl e ↦ let z : first_free bytes ≡ 0 = h.free ∙ (ap (λ k. w.0 (k + 1)) e ∙ h.tail) in omega arith
      | inr u ↦ subst (λ r. r < 64) (sym h.free) (h.within (n + 1) (omega arith))
    ])

pub code_past : (bytes : List ℕ) (place : ℕ) → count bytes ≤ place → None ≡ slice_get (code bytes) place
code_past bytes place l = sym (slice_get_past (code bytes) place (rw length_code l))

-- what the check is told where the code is read
pub ruleset codes = (length_code, code_past)

-- the word of a chunk of three behind the first byte of a record
pub code_there :
    (bytes : List ℕ) (place r : ℕ) (x : Word) → length bytes ≡ 1024 → place < count bytes → r < 64 → r ≡ reached bytes (place / 5 + 1) →
    bytes_of x ≡ get_or (first_chunks 3 (length (mid_of (16 * r + 1) (16 * r + 16 - (16 * r + 1)) bytes) / 3) (mid_of (16 * r + 1) (16 * r + 16 - (16 * r + 1)) bytes)) (place % 5) [] →
    Some x ≡ slice_get (code bytes) place
code_there bytes place r x size l within e is =
    let part : List ℕ = mid_of (16 * r + 1) (16 * r + 16 - (16 * r + 1)) bytes in
    let kth : place % 5 < length part / 3 = simp (length-take, length-drop) (omega arith) in
    let s : x ≡ code_at bytes place = chunk_word part _ (place % 5) x kth is ∙ (part_word bytes (16 * r + 1) (16 * r + 16 - (16 * r + 1)) (3 * (place % 5)) (spot r (place % 5)) (omega arith) (omega arith) ∙ ap (λ k. word_at bytes (spot k (place % 5))) e) in
    let p = slice_get-get_or (code bytes) place x (rw length_code l) in
    let q = get_or-map-range_with_len (code_at bytes) 0 (count bytes) place place x l (omega arith) in
    ap (λ y. Some y) s ∙ (sym (ap (λ y. Some y) q) ∙ sym p)

-- Appending.

-- one more word, with the list of records that the bytes were given with
record Grows (bytes : List ℕ) (f : Formed bytes) (w : Word) (after : List ℕ) (last : ℕ) : Type 0 where
  pub more : count after ≡ count bytes + 1
  pub linked : Linked after (records_for (count bytes + 1)) f.0 f.1.0
  pub listed : code after ≡ code bytes ++ w ∷ []
  pub ends : last ≡ f.0 (records_for (count bytes + 1))

grows_open :
    (bytes : List ℕ) (f : Formed bytes) (w : Word) → (count bytes % 5 ≡ 0 → ⊥) →
    Grows bytes f w (filled bytes (f.0 (records_for (count bytes))) (count bytes % 5) w (count bytes + 1)) (f.0 (records_for (count bytes)))
grows_open bytes f w some =
    let h = f.1.1 in
    let c = count bytes in
    let n : ℕ = records_for c in
    let border = h.border in
    let after = filled bytes (f.0 n) (c % 5) w (c + 1) in
    let same : records_for (c + 1) ≡ n = omega arith in
    record {
      more = fill_count bytes (f.0 n) (c % 5) w (c + 1) h.size;
      linked = subst (λ k. Linked after k f.0 f.1.0) (sym same) (fills h c (c % 5) (omega arith) (omega arith) (omega arith) w);
      listed = fill_code h c (c % 5) (omega arith) (omega arith) (omega arith) w;
      ends = sym (ap f.0 same);
    }

grows_full :
    (bytes : List ℕ) (f : Formed bytes) (w : Word) → count bytes % 5 ≡ 0 → count bytes < 315 →
    Grows bytes f w (filled (taken bytes (f.0 (records_for (count bytes))) (f.0 (records_for (count bytes) + 1))) (f.0 (records_for (count bytes) + 1)) 0 w (count bytes + 1)) (f.0 (records_for (count bytes) + 1))
grows_full bytes f w none less =
    let h = f.1.1 in
    let c = count bytes in
    let n : ℕ = records_for c in
    let border = h.border in
    let order = f.0 in
    let base = taken bytes (order n) (order (n + 1)) in
    let after = filled base (order (n + 1)) 0 w (c + 1) in
    let one_more : records_for (c + 1) ≡ n + 1 = omega arith in
    let g : Linked base (n + 1) order f.1.0 = takes h (omega arith) in
    let before : (i : ℕ) → i < c → code_at base i ≡ code_at bytes i =
    λ i l.
    same_code_at h g i (omega arith) (omega arith)
    (λ r t is some p q.
    let lo : 16 * r < t = omega arith in
    let hi : t < 16 * r + 16 = omega arith in
    beside bytes 1 _ (16 * order n) _ (16 * order (n + 1)) 0 t (λ z. omega arith) (inside (order n) r t lo hi) (inside (order (n + 1)) r t lo hi)) in
    record {
      more = fill_count base (order (n + 1)) 0 w (c + 1) g.size;
      linked = subst (λ k. Linked after k order f.1.0) (sym one_more) (fills g c 0 (omega arith) (omega arith) (omega arith) w);
      listed = fill_code g c 0 (omega arith) (omega arith) (omega arith) w ∙ ap (λ xs. xs ++ w ∷ []) (alike (code_at base) (code_at bytes) c before);
      ends = sym (ap order one_more);
    }

grows :
    (bytes : List ℕ) (f : Formed bytes) (w : Word) (last : ℕ) →
    count bytes < 315 → last ≡ reached bytes (records_for (count bytes)) → Grows bytes f w (added bytes last w) (last_after bytes last)
grows bytes f w last less e =
    let h = f.1.1 in
    let c = count bytes in
    let n : ℕ = records_for c in
    let order = f.0 in
    let is : last ≡ order n = e ∙ reached_order h n (omega arith) in
    elim (cases_eq (c % 5) 0) [
      | inl z ↦
          let made = filled (taken bytes (order n) (order (n + 1))) (order (n + 1)) 0 w (c + 1) in
          let a : added bytes last w ≡ made = grind (arith, nat_tests, h.free) in
          let b : last_after bytes last ≡ order (n + 1) = grind (arith, nat_tests, h.free) in
          subst (λ bs. Grows bytes f w bs (last_after bytes last)) (sym a) (subst (λ r. Grows bytes f w made r) (sym b) (grows_full bytes f w z less))
      | inr u ↦
          let made = filled bytes (order n) (c % 5) w (c + 1) in
          let a : added bytes last w ≡ made = grind (arith, nat_tests) in
          let b : last_after bytes last ≡ order n = grind (arith, nat_tests) in
          subst (λ bs. Grows bytes f w bs (last_after bytes last)) (sym a) (subst (λ r. Grows bytes f w made r) (sym b) (grows_open bytes f w u))
    ]

-- the list of records stays
pub append_linked :
    (bytes : List ℕ) (f : Formed bytes) (w : Word) → count bytes < 315 →
    Linked (appended_in bytes w) (records_for (count bytes + 1)) f.0 f.1.0
append_linked bytes f w less =
    subst (λ bs. Linked bs (records_for (count bytes + 1)) f.0 f.1.0) (sym (cond-true _ _ _ (lt-ltb _ _ less))) (grows bytes f w _ less refl).linked

module _ (bytes after : List ℕ) (w : Word) (last fresh : ℕ) (s : Stands bytes last) (less : count bytes < 315)
    (is : after ≡ added bytes last w) (end : fresh ≡ last_after bytes last) where
  grew : (f : Formed bytes) → Grows bytes f w after fresh
  grew f =
      subst (λ bs. Grows bytes f w bs fresh) (sym is) (subst (λ k. Grows bytes f w (added bytes last w) k) (sym end) (grows bytes f w last less s.ends))

  append_more : count after ≡ count bytes + 1
  append_more = ∥∥₁_elim s.formed (ℕ_set _ _) (λ f. (grew f).more)

  append_formed : ∥ Formed after ∥₁
  append_formed = ∥∥₁_map s.formed (λ f. (f.0, (f.1.0, subst (λ n. Linked after n f.0 f.1.0) (sym (ap records_for append_more)) (grew f).linked)))

  append_ends : fresh ≡ reached after (records_for (count after))
  append_ends =
      ∥∥₁_elim s.formed (ℕ_set _ _)
      (λ f.
      let m : ℕ = records_for (count bytes + 1) in
      (grew f).ends ∙ (sym (reached_order (grew f).linked m (omega arith)) ∙ sym (ap (λ c. reached after (records_for c)) append_more)))

  append_stays : Stays bytes after
  append_stays =
      let more = append_more in
      record {
        within = λ index l. omega arith;
        here = λ r index l is.
            ∥∥₁_elim s.formed (ℕ_set _ _)
            (λ f. is ∙ (reached_order f.1.1 index l ∙ sym (reached_order (grew f).linked index (omega arith))));
      }

  append_code : code after ≡ code bytes ++ w ∷ []
  append_code = ∥∥₁_elim s.formed (words_set _ _) (λ f. (grew f).listed)

  pub appends : Appends bytes w after fresh
  appends =
      let more = append_more in
      let count_is = length_code bytes in
      let listed = append_code in
      record {
        stands =
            record {
              few = omega arith;
              formed = append_formed;
              free = free_within after append_formed;
              near = subst (λ r. r < 64) (sym append_ends) (reached_within after append_formed _ (omega arith));
              ends = append_ends;
            };
        stays = append_stays;
        answer = grind (arith, nat_tests);
        after = grind (arith, nat_tests);
        written = is ∙ (ap (λ k. added bytes k w) s.ends ∙ sym (cond-true (ltb (count bytes) 315) _ bytes (lt-ltb _ _ less)));
      }

-- Clearing.

pub no_code : (bytes : List ℕ) → count bytes ≡ 0 → code bytes ≡ []
no_code bytes e = ap (λ n. map (code_at bytes) (range_with_len 0 n)) e

-- no word, and the rule has no record
pub stands_empty : (bytes : List ℕ) → count bytes ≡ 0 → ∥ Formed bytes ∥₁ → Stands bytes 0
stands_empty bytes none f =
    record {
      few = omega arith;
      formed = f;
      free = free_within bytes f;
      near = omega arith;
      ends = sym (ap (λ c. reached bytes (records_for c)) none);
    }

record Empties (bytes : List ℕ) (f : Formed bytes) (after : List ℕ) : Type 0 where
  pub none : count after ≡ 0
  pub linked : Linked after 0 f.0 f.1.0

empties :
    (bytes : List ℕ) (f : Formed bytes) (last : ℕ) → last ≡ reached bytes (records_for (count bytes)) → Empties bytes f (emptied bytes last)
empties bytes f last e =
    let h = f.1.1 in
    let c = count bytes in
    let n : ℕ = records_for c in
    let order = f.0 in
    elim (cases_eq c 0) [
      | inl z ↦
          let a : emptied bytes last ≡ bytes = grind (arith, nat_tests) in
          subst (λ bs. Empties bytes f bs) (sym a) (record { none = z; linked = subst (λ k. Linked bytes k order f.1.0) (ap records_for z) h })
      | inr u ↦
          let is : last ≡ order n = e ∙ reached_order h n (omega arith) in
          let base = joined bytes (order n) in
          let a : emptied bytes last ≡ recounted base 0 = grind (arith, nat_tests) in
          let g = joins h (omega arith) in
          let size = h.size in
          let k : Linked (recounted base 0) 0 order f.1.0 = same_links g (recounted base 0) (simp length-set size) (λ j p q. count_beside base 0 j (λ z. omega arith) (λ z. omega arith)) (λ r l. count_beside base 0 (16 * r) (λ z. omega arith) (λ z. omega arith)) (count_beside base 0 1 (λ z. omega arith) (λ z. omega arith)) in
          subst (λ bs. Empties bytes f bs) (sym a) (record { none = count_back base 0 g.size; linked = k })
    ]

pub clear_linked : (bytes : List ℕ) (f : Formed bytes) → Linked (cleared_in bytes) 0 f.0 f.1.0
clear_linked bytes f = (empties bytes f _ refl).linked

pub clears :
    (bytes after : List ℕ) (last : ℕ) → Stands bytes last → after ≡ emptied bytes last → Clears bytes after
clears bytes after last s is =
    let did : (f : Formed bytes) → Empties bytes f after = λ f. subst (λ bs. Empties bytes f bs) (sym is) (empties bytes f last s.ends) in
    let none : count after ≡ 0 = ∥∥₁_elim s.formed (ℕ_set _ _) (λ f. (did f).none) in
    let formed : ∥ Formed after ∥₁ = ∥∥₁_map s.formed (λ f. (f.0, (f.1.0, subst (λ n. Linked after n f.0 f.1.0) (sym (ap records_for none)) (did f).linked))) in
    record {
      stands = stands_empty after none formed;
      after = no_code after none;
      written = is ∙ ap (emptied bytes) s.ends;
    }
