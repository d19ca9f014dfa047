-- What is scanned at a place, by the bytes up to its end and one more.
use Rattle.std.proofs.Common.{◌≡◌, ℕ, zero, suc, ◌+◌, ◌-◌, ◌<◌, ◌≤◌, max, Bool, true, false, cond, eqb, List, [], ◌∷◌, length, get_or, take, drop, Option, sym, refl, ap, ◌∙◌, arith}
use Rattle.std.proofs.lemmas.List.{take-take, drop-take, get_or-take, length-take}
use Rattle.std.proofs.lemmas.Bool.{cond_both, eqb-false, or_left}
use Rattle.std.proofs.lemmas.Bool.Decides.{nat_tests}
use Rattle.language.specs.Reading.{is_last}
use Rattle.language.specs.Tokens.{lexeme_at, lexeme, after, begins, scanned, begun, numeral_at, word_at, longer, is_blank, is_digit, is_small, is_word, is_minus, mark_by, run_of}
use Rattle.language.specs.declared.token.TokenKind.{TokenKind}

-- texts that are the same at the front
fewer : (m n : ℕ) (xs ys : List ℕ) → m ≤ n → take n xs ≡ take n ys → take m xs ≡ take m ys
fewer m n xs ys h e = cc (take-take m n xs h, take-take m n ys h)

from_place : (q m n : ℕ) (xs ys : List ℕ) → q + m ≤ n → take n xs ≡ take n ys → take m (drop q xs) ≡ take m (drop q ys)
from_place q m n xs ys h e = cc (drop-take q m xs, drop-take q m ys, fewer (q + m) n xs ys h e)

same_byte : (i n : ℕ) (xs ys : List ℕ) → i < n → take n xs ≡ take n ys → get_or ys i 0 ≡ get_or xs i 0
same_byte i n xs ys h e = cc (get_or-take n ys i 0 h, get_or-take n xs i 0 h)

same_none : (n : ℕ) (xs ys : List ℕ) → 1 ≤ n → take n xs ≡ take n ys → eqb (length ys) 0 ≡ eqb (length xs) 0
same_none n xs ys h e = grind (arith, nat_tests, length-take n xs, length-take n ys, ap length e)

-- a run ends at the first byte that fails
same_run : (test : ℕ → Bool) (n : ℕ) (xs ys : List ℕ) → run_of test xs < n → take n xs ≡ take n ys → run_of test ys ≡ run_of test xs
same_run test zero xs ys h e = absurd (omega arith)
same_run test (suc n) [] [] h e = refl
same_run test (suc n) (x ∷ xs) (y ∷ ys) h e = grind (arith, same_run test n xs ys)
same_run test (suc n) _ _ h e = cc

same_front : (test : ℕ → Bool) (n : ℕ) (xs ys : List ℕ) → run_of test xs < n → take n xs ≡ take n ys → take (run_of test ys) ys ≡ take (run_of test xs) xs
same_front test n xs ys h e =
    let l : run_of test xs ≤ n = omega arith in
    cc (same_run test n xs ys h e, fewer (run_of test xs) n xs ys l e)

same_numeral : (negative : Bool) (n : ℕ) (xs ys : List ℕ) → run_of is_digit xs < n → take n xs ≡ take n ys → numeral_at negative ys ≡ numeral_at negative xs
same_numeral negative n xs ys h e = rw (same_front is_digit n xs ys h e, same_run is_digit n xs ys h e)

same_word : (n : ℕ) (xs ys : List ℕ) → run_of is_word xs < n → take n xs ≡ take n ys → word_at ys ≡ word_at xs
same_word n xs ys h e = rw (same_front is_word n xs ys h e, same_run is_word n xs ys h e)

same_if : (t : Bool) (x y u v : TokenKind × ℕ) (n : ℕ) → (cond t x y).1 < n → (x.1 < n → u ≡ x) → (y.1 < n → v ≡ y) → cond t u v ≡ cond t x y
same_if true x y u v n h f g = f h
same_if false x y u v n h f g = g h

same_begun : (b c n : ℕ) (xs ys : List ℕ) → 2 ≤ n → (begun b c xs).1 < n → take n xs ≡ take n ys → begun b c ys ≡ begun b c xs
same_begun b c n xs ys two h e =
    same_if (is_digit b) _ _ _ _ n h (λ l. same_numeral false n xs ys l e) (λ h.
    same_if (is_minus b c) _ _ _ _ n h (λ l.
    let m : run_of is_digit (drop 1 xs) < n - 1 = omega arith in
    let w : 1 + (n - 1) ≤ n = omega arith in
    ap longer (same_numeral true (n - 1) (drop 1 xs) (drop 1 ys) m (from_place 1 (n - 1) n xs ys w e))) (λ h.
    same_if (is_small b) _ _ _ _ n h (λ l. same_word n xs ys l e) (λ l. refl)))

pub same_scanned : (n : ℕ) (xs ys : List ℕ) → max 1 (scanned xs).1 < n → take n xs ≡ take n ys → scanned ys ≡ scanned xs
same_scanned n xs ys h e =
    let two : 2 ≤ n = omega arith in
    let one : 1 ≤ n = omega arith in
    let l : (scanned xs).1 < n = omega arith in
    rw (same_none n xs ys one e, same_byte 0 n xs ys one e, same_byte 1 n xs ys two e)
    (same_if (eqb (length xs) 0) _ _ _ _ n l (λ l. refl) (λ l. same_begun (get_or xs 0 0) (get_or xs 1 0) n xs ys two l e))

-- the token at or behind a place, and the place behind it
module _ (a b : List ℕ) (q n : ℕ) (reach : begins a q + max 1 (scanned (drop (begins a q) a)).1 < n) (same : take n a ≡ take n b) where
  pub same_begins : begins b q ≡ begins a q
  same_begins =
      let h : run_of is_blank (drop q a) < n - q = omega arith in
      let w : q + (n - q) ≤ n = omega arith in
      ap (λ i. q + i) (same_run is_blank (n - q) (drop q a) (drop q b) h (from_place q (n - q) n a b w same))

  same_scan : scanned (drop (begins a q) b) ≡ scanned (drop (begins a q) a)
  same_scan =
      let h : max 1 (scanned (drop (begins a q) a)).1 < n - begins a q = omega arith in
      let w : begins a q + (n - begins a q) ≤ n = omega arith in
      same_scanned (n - begins a q) (drop (begins a q) a) (drop (begins a q) b) h (from_place (begins a q) (n - begins a q) n a b w same)

  pub same_after : after b q ≡ after a q
  same_after = ap (λ i. i + (scanned (drop i b)).1) same_begins ∙ ap (λ t. begins a q + t.1) same_scan

  pub same_lexeme : lexeme b q ≡ lexeme a q
  same_lexeme =
      let w : begins a q + (scanned (drop (begins a q) a)).1 ≤ n = omega arith in
      let x : take (scanned (drop (begins a q) a)).1 (drop (begins a q) b) ≡ take (scanned (drop (begins a q) a)).1 (drop (begins a q) a) =
      sym (from_place (begins a q) (scanned (drop (begins a q) a)).1 n a b w same) in
      ap (lexeme_at b) same_begins
      ∙ (ap (λ t. record { kind = t.0; place = begins a q; text = take t.1 (drop (begins a q) b) }) same_scan
      ∙ ap (λ y. record { kind = (scanned (drop (begins a q) a)).0; place = begins a q; text = y }) x)
