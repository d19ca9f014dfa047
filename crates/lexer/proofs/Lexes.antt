-- The steps of the lexer give the tokens of the text.
use Rattle.std.proofs.Common.{◌≡◌, ℕ, ◌+◌, ◌-◌, ◌<◌, ◌≤◌, Bool, true, cond, ◌&&◌, eqb, List, length, get_or, take, drop, Some, None, Option, ap, ◌∙◌, arith}
use Rattle.std.proofs.lemmas.Bool.{cond_both, eqb-false}
use Rattle.std.proofs.lemmas.List.{take_rest, length-drop, get_or_past}
use Rattle.language.specs.Tokens.{run_of, is_blank, is_digit, is_small, is_word, is_minus, one_mark, mark_by, begun, scanned, Lexeme, lexeme, lexeme_at, begins, after}
use Rattle.language.specs.declared.token.TokenKind.{TokenKind}
use Rattle.language.specs.declared.token.TokenKind.TheVariants.{End}
use Rattle.lexer.proofs.Runs.{run_within}

one_within : (one : Option TokenKind) (n : ℕ) → 1 ≤ n → (mark_by None one).1 ≤ n
one_within (Some k) n h = h
one_within None n h = omega arith

two_within : (b : Bool) (k : TokenKind) (two one : Option TokenKind) (n : ℕ) → (b ≡ true → 2 ≤ n) → (mark_by two one).1 ≤ n → (mark_by (cond b (Some k) two) one).1 ≤ n
two_within b k two one n f h = cond_both b (Some k) two (λ t. (mark_by t one).1 ≤ n) f (λ _. h)

begun_within : (b c : ℕ) (bs : List ℕ) → 1 ≤ length bs → (0 < c → 1 < length bs) → (begun b c bs).1 ≤ length bs
begun_within b c bs some two =
    cond_both {A = TokenKind × ℕ} (is_digit b) _ _ (λ t. t.1 ≤ length bs) (λ t. run_within is_digit bs) (λ f.
    cond_both {A = TokenKind × ℕ} (is_minus b c) _ _ (λ t. t.1 ≤ length bs) (λ t. let h = run_within is_digit (drop 1 bs) in let l = length-drop 1 bs in omega arith) (λ f.
    cond_both {A = TokenKind × ℕ} (is_small b) _ _ (λ t. t.1 ≤ length bs) (λ t. run_within is_word bs) (λ f.
    two_within (eqb b 43 && eqb c 43) _ _ _ _ (λ e. grind arith) (two_within (eqb b 38 && eqb c 38) _ _ _ _ (λ e. grind arith) (two_within (eqb b 124 && eqb c 124) _ _ _ _ (λ e. grind arith) (two_within (eqb b 60 && eqb c 61) _ _ _ _ (λ e. grind arith) (one_within (one_mark b) _ some)))))))

-- a token ends within the text that it begins
pub scanned_within : (bs : List ℕ) → (scanned bs).1 ≤ length bs
scanned_within bs =
    cond_both {A = TokenKind × ℕ} (eqb (length bs) 0) (End, 0) _ (λ t. t.1 ≤ length bs) (λ e. omega arith) (λ e.
    let some = eqb-false (length bs) 0 e in
    begun_within (get_or bs 0 0) (get_or bs 1 0) bs (omega arith) (λ h. grind (arith, get_or_past)))

module _ (text : List ℕ) (at n : ℕ) (t : TokenKind × ℕ)
    (run : n ≡ run_of is_blank (take (length text - at) (drop at text)))
    (found : t ≡ scanned (take (length text - (at + n)) (drop (at + n) text))) where
  place_is : at + n ≡ begins text at
  place_is = ap (λ k. at + k) (run ∙ ap (run_of is_blank) (take_rest text at))

  token_is : t ≡ scanned (drop (at + n) text)
  token_is = found ∙ ap scanned (take_rest text (at + n))

  pub next_token : ◌≡◌ {A = Lexeme} (record { kind = t.0; place = at + n; text = take (at + n + t.1 - (at + n)) (drop (at + n) text) }) (lexeme text at)
  next_token =
      let wide : at + n + t.1 - (at + n) ≡ t.1 = omega arith in
      let part : ◌≡◌ {A = Lexeme} (record { kind = t.0; place = at + n; text = take (at + n + t.1 - (at + n)) (drop (at + n) text) }) (record { kind = t.0; place = at + n; text = take t.1 (drop (at + n) text) }) = ap (λ (k : ℕ). record { kind = t.0; place = at + n; text = take k (drop (at + n) text) }) wide in
      let kind : ◌≡◌ {A = Lexeme} (record { kind = t.0; place = at + n; text = take t.1 (drop (at + n) text) }) (lexeme_at text (at + n)) = ap (λ (u : TokenKind × ℕ). record { kind = u.0; place = at + n; text = take u.1 (drop (at + n) text) }) token_is in
      part ∙ (kind ∙ ap (lexeme_at text) place_is)

  pub next_place : at + n + t.1 ≡ after text at
  next_place = ap (λ (u : TokenKind × ℕ). at + n + u.1) token_is ∙ ap (λ q. q + (scanned (drop q text)).1) place_is

  pub next_within : at ≤ length text → at + n + t.1 ≤ length text
  next_within h =
      let blanks = run_within is_blank (drop at text) in
      let token = scanned_within (drop (at + n) text) in
      let one : t.1 ≡ (scanned (drop (at + n) text)).1 = ap (λ (u : TokenKind × ℕ). u.1) token_is in
      let a = length-drop at text in
      let b = length-drop (at + n) text in
      let e : n ≡ run_of is_blank (drop at text) = run ∙ ap (run_of is_blank) (take_rest text at) in
      omega arith
