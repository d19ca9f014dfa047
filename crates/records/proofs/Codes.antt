-- What a write does to the words.
use Rattle.std.proofs.Common.{◌≡◌, ℕ, ◌+◌, ◌*◌, ◌/◌, ◌%◌, ◌<◌, ◌≤◌, ◌≢◌, List, [], ◌∷◌, ◌++◌, map, length, get_or, sym, refl, ap, ◌∙◌, inl, inr, arith, length-set}
use mathlib.Core.List.{is_set}
use base.Stored.{gnum, gcons, Coded, Coded-set}
use Rattle.std.specs.List.{range_with_len}
use Rattle.std.proofs.lemmas.List.FromFn.{map-range_with_len_more}
use Rattle.std.proofs.lemmas.Bool.{cases_eq}
use Rattle.std.proofs.lemmas.Grind.{common_steps}
use Rattle.bytecode.specs.declared.instruction.Word.{Word}
use Rattle.records.specs.Layout.{count, reached, spot, code_at, code, Linked}
use Rattle.memory.specs.Bytes.{word_at, put}
use Rattle.memory.proofs.Bytes.{same_word, alike, same_bytes, beside, put_back}
use Rattle.records.specs.Writes.{recounted, filled}
use Rattle.records.proofs.Links.{differ, not_head, reached_order, same_links, inside}

-- two lists of words are equal in at most one way
word_coded : Coded Word
word_coded =
    record { code = λ x. gcons (gnum x.opcode) (gcons (gnum x.sign) (gnum x.value)); inj = λ x y p. same_word x y (cc) (cc) (cc) }

pub words_set : (xs ys : List Word) (p q : xs ≡ ys) → p ≡ q
words_set = is_set (Coded-set word_coded)

-- the count's two bytes
pub count_beside : (bytes : List ℕ) (n j : ℕ) → j ≢ 2 → j ≢ 3 → get_or (recounted bytes n) j 0 ≡ get_or bytes j 0
count_beside bytes n j p q = grind (arith, common_steps)

pub count_back : (bytes : List ℕ) (n : ℕ) → length bytes ≡ 1024 → count (recounted bytes n) ≡ n
count_back bytes n size = grind (arith, common_steps)

-- a byte outside the word and the count
fill_beside :
    (bytes : List ℕ) (r k : ℕ) (w : Word) (n j : ℕ) →
    (spot r k ≤ j → j ≤ spot r k + 2 → ⊥) → j ≢ 2 → j ≢ 3 → get_or (filled bytes r k w n) j 0 ≡ get_or bytes j 0
fill_beside bytes r k w n j off p q =
    count_beside (put bytes (spot r k) w) n j p q ∙ beside bytes (spot r k) w.opcode (spot r k + 1) w.sign (spot r k + 2) w.value j (λ e. off (omega arith) (omega arith)) (λ e. off (omega arith) (omega arith)) (λ e. off (omega arith) (omega arith))

pub fill_count :
    (bytes : List ℕ) (r k : ℕ) (w : Word) (n : ℕ) → length bytes ≡ 1024 → count (filled bytes r k w n) ≡ n
fill_count bytes r k w n size =
    let size_put : length (put bytes (spot r k) w) ≡ 1024 = simp length-set size in
    count_back (put bytes (spot r k) w) n size_put

-- Two memories with one list of records have the same word at a place, if they have the same bytes there.
pub same_code_at :
    {bytes after : List ℕ} {n m : ℕ} {order place : ℕ → ℕ} →
    Linked bytes n order place →
    Linked after m order place →
    (i : ℕ) →
    i / 5 + 1 ≤ n →
    i / 5 + 1 ≤ m →
    ((r j : ℕ) → r ≡ order (i / 5 + 1) → 0 < r → spot r (i % 5) ≤ j → j ≤ spot r (i % 5) + 2 → get_or after j 0 ≡ get_or bytes j 0) →
    code_at after i ≡ code_at bytes i
same_code_at {bytes} {after} {n} {m} {order} {place} h g i p q same =
    let border = h.border in
    let at : ℕ = i / 5 + 1 in
    let r = order at in
    let ne = not_head h at (omega arith) (omega arith) in
    let some : 0 < r = omega arith in
    ap (λ x. word_at after (spot x (i % 5))) (reached_order g at q) ∙ (same_bytes bytes after (spot r (i % 5)) (λ j a b. same r j refl some a b) ∙ ap (λ x. word_at bytes (spot x (i % 5))) (sym (reached_order h at p)))

-- A word goes to the k-th place of the rule's last record, so that it is the word c of the code.
module _ {bytes : List ℕ} {n : ℕ} {order place : ℕ → ℕ} (h : Linked bytes n order place) (c k : ℕ) (some : 0 < n) (kth : k < 5)
    (at : c + 5 ≡ 5 * n + k) (w : Word) where
  pub fills : Linked (filled bytes (order n) k w (c + 1)) n order place
  fills =
      let size = h.size in
      let last = order n in
      let ne = not_head h n some h.border in
      same_links h (filled bytes last k w (c + 1)) (simp length-set size)
      (λ j p q. fill_beside bytes last k w (c + 1) j (λ a b. omega arith) (λ e. omega arith) (λ e. omega arith))
      (λ r l. fill_beside bytes last k w (c + 1) (16 * r) (λ a b. inside r last (16 * r) (omega arith) (omega arith) refl) (λ e. omega arith) (λ e. omega arith))
      (fill_beside bytes last k w (c + 1) 1 (λ a b. omega arith) (λ e. omega arith) (λ e. omega arith))

  fill_before : (i : ℕ) → i < c → code_at (filled bytes (order n) k w (c + 1)) i ≡ code_at bytes i
  fill_before i l =
      let border = h.border in
      let j : ℕ = i / 5 + 1 in
      same_code_at h fills i (omega arith) (omega arith)
      (λ r t is some p q.
      let off : spot (order n) k ≤ t → t ≤ spot (order n) k + 2 → ⊥ =
      λ a b.
      elim (cases_eq j n) [
        | inl e ↦ let same : r ≡ order n = is ∙ ap order e in omega arith
        | inr u ↦ let ne = differ h j n (omega arith) border u in ne (omega arith)
      ] in
      fill_beside bytes (order n) k w (c + 1) t off (λ e. omega arith) (λ e. omega arith))

  fill_here : code_at (filled bytes (order n) k w (c + 1)) c ≡ w
  fill_here =
      let border = h.border in
      let size = h.size in
      let last_in = h.within n border in
      let ne = not_head h n some border in
      let after = filled bytes (order n) k w (c + 1) in
      let j : c / 5 + 1 ≡ n = omega arith in
      let m : c % 5 ≡ k = omega arith in
      let s : ℕ = spot (order n) k in
      let is : reached after (c / 5 + 1) ≡ order n = ap (reached after) j ∙ reached_order fills n (omega arith) in
      let same : word_at after s ≡ word_at (put bytes s w) s = same_bytes (put bytes s w) after s (λ t a b. count_beside (put bytes s w) (c + 1) t (λ e. omega arith) (λ e. omega arith)) in
      ap (λ r. word_at after (spot r (c % 5))) is ∙ (ap (λ x. word_at after (spot (order n) x)) m ∙ (same ∙ put_back bytes s w (omega arith)))

  pub fill_code : code (filled bytes (order n) k w (c + 1)) ≡ map (code_at bytes) (range_with_len 0 c) ++ w ∷ []
  fill_code =
      let after = filled bytes (order n) k w (c + 1) in
      let a = ap (λ i. map (code_at after) (range_with_len 0 i)) (fill_count bytes (order n) k w (c + 1) h.size) in
      let b = map-range_with_len_more (code_at after) 0 c c (omega arith) in
      let d = alike (code_at after) (code_at bytes) c (λ i l. fill_before i (omega arith)) in
      let e = fill_here in
      a ∙ (b ∙ (ap (λ xs. xs ++ code_at after c ∷ []) d ∙ ap (λ y. map (code_at bytes) (range_with_len 0 c) ++ y ∷ []) e))
