-- Each token but the last takes a byte.
use Rattle.std.proofs.Common.{◌≡◌, ℕ, ◌<◌, ◌≤◌, Bool, true, false, eqb, List, [], ◌∷◌, length, get_or, drop, Option, refl, arith}
use Rattle.std.proofs.lemmas.Bool.{cond_both, eqb-false, or_left}
use Rattle.std.proofs.lemmas.Bool.Decides.{nat_tests}
use Rattle.language.specs.Reading.{is_last}
use Rattle.language.specs.Tokens.{lexeme, after, begins, scanned, is_digit, is_small, is_word, is_minus, mark_by, run_of}
use Rattle.language.specs.declared.token.TokenKind.{TokenKind}

abbrev Moves : TokenKind × ℕ → Type 0
Moves t = is_last t.0 ≡ false → 1 ≤ t.1

run_some : (test : ℕ → Bool) (bs : List ℕ) → (length bs ≡ 0 → ⊥) → test (get_or bs 0 0) ≡ true → 1 ≤ run_of test bs
run_some test [] h t = absurd (h refl)
run_some test (b ∷ bs) h t = rw t (omega arith)

mark_moves : (two one : Option TokenKind) → Moves (mark_by two one)
mark_moves two one l = grind arith

pub scanned_moves : (bs : List ℕ) → is_last (scanned bs).0 ≡ false → 1 ≤ (scanned bs).1
scanned_moves bs =
    cond_both (eqb (length bs) 0) _ _ Moves (λ e l. cc) (λ e.
    let some = eqb-false (length bs) 0 e in
    cond_both (is_digit (get_or bs 0 0)) _ _ Moves (λ t l. run_some is_digit bs some t) (λ f.
    cond_both (is_minus (get_or bs 0 0) (get_or bs 1 0)) _ _ Moves (λ t l. omega arith) (λ f.
    cond_both (is_small (get_or bs 0 0)) _ _ Moves (λ t l. run_some is_word bs some (or_left _ _ t)) (λ f. mark_moves _ _))))

pub token_moves : (text : List ℕ) (p : ℕ) → is_last (lexeme text p).kind ≡ false → p < after text p
token_moves text p l = let h = scanned_moves (drop (begins text p) text) l in omega arith
