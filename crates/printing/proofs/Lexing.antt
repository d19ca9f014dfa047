-- The tokens of a text of words with a blank behind each.
use Rattle.std.proofs.Common.{◌≡◌, ℕ, zero, suc, ◌+◌, ◌<◌, ◌≤◌, false, List, [], ◌∷◌, ◌++◌, length, take, drop, sym, refl, ap, ◌∙◌, arith}
use Rattle.std.specs.List.{AllByRecursion}
use Rattle.std.proofs.lemmas.List.{take_at, drop_at, drop-drop, length-append}
use Rattle.language.specs.Reading.{is_last, tokens_from, tokens}
use Rattle.language.specs.Tokens.{Lexeme, begins, scanned, is_blank, run_of}
use Rattle.language.specs.declared.token.TokenKind.{TokenKind}
use Rattle.language.specs.declared.token.TokenKind.TheVariants.{End}
use Rattle.printing.specs.Printing.{line}

-- what a word scans as before a blank
abbrev pub kind_of : List ℕ → TokenKind
kind_of w = (scanned (w ++ 32 ∷ [])).0

-- a word that is one token
pub record Good (w : List ℕ) : Type 0 where
  pub scans : (rest : List ℕ) → scanned (w ++ 32 ∷ rest) ≡ (kind_of w, length w)
  pub more : is_last (kind_of w) ≡ false
  pub dark : (rest : List ℕ) → run_of is_blank (w ++ 32 ∷ rest) ≡ 0

pub good_append : (us vs : List (List ℕ)) → AllByRecursion Good us → AllByRecursion Good vs → AllByRecursion Good (us ++ vs)
good_append [] vs g h = h
good_append (u ∷ us) vs g h = (g.0, good_append us vs g.1 h)

abbrev pub lex : ℕ → List ℕ → Lexeme
lex p w = record { kind = kind_of w; place = p; text = w }

-- the tokens of words from a place on, and the place behind them
abbrev pub lexed : ℕ → List (List ℕ) → List Lexeme
lexed p [] = []
lexed p (w ∷ ws) = lex p w ∷ lexed (p + length w + 1) ws

abbrev pub reach : ℕ → List (List ℕ) → ℕ
reach p [] = p
reach p (w ∷ ws) = reach (p + length w + 1) ws

pub lexed_append : (p : ℕ) (us vs : List (List ℕ)) → lexed p (us ++ vs) ≡ lexed p us ++ lexed (reach p us) vs
lexed_append p [] vs = refl
lexed_append p (u ∷ us) vs = ap (λ ts. lex p u ∷ ts) (lexed_append (p + length u + 1) us vs)

abbrev pub finish : ℕ → Lexeme
finish p = record { kind = End; place = p; text = [] }

-- the token that begins a text, at a place
abbrev first : ℕ → List ℕ → Lexeme
first q bs = record { kind = (scanned bs).0; place = q; text = take (scanned bs).1 bs }

no_blank : (ws : List (List ℕ)) → AllByRecursion Good ws → run_of is_blank (line ws) ≡ 0
no_blank [] g = refl
no_blank (w ∷ ws) g = g.0.dark (line ws)

pub lexes : (ws : List (List ℕ)) → AllByRecursion Good ws → (n : ℕ) (text : List ℕ) (p q : ℕ) → begins text p ≡ q → drop q text ≡ line ws → length ws < n →
    tokens_from n text p ≡ lexed q ws ++ finish (reach q ws) ∷ []
lexes ws g zero text p q b e l = absurd (omega arith)
lexes [] g (suc n) text p q b e l = simp (b, e)
lexes (w ∷ ws) g (suc n) text p q b e l =
    let s = g.0.scans (line ws) in
    let t = take_at w (32 ∷ line ws) (length w) refl in
    let d : drop (q + length w) text ≡ 32 ∷ line ws = sym (drop-drop (length w) q text) ∙ (ap (drop (length w)) e ∙ drop_at w (32 ∷ line ws) (length w) refl) in
    let o : drop (q + length w + 1) text ≡ line ws = sym (drop-drop 1 (q + length w) text) ∙ ap (drop 1) d in
    let c : begins text (q + length w) ≡ q + length w + 1 = rw d (ap (λ n. q + length w + (n + 1)) (no_blank ws g.1)) in
    let m : length ws < n = omega arith in
    let r = lexes ws g.1 n text (q + length w) (q + length w + 1) c o m in
    let k = g.0.more in
    simp (b, e, s, t, k, r)

-- each word has its blank
few : (ws : List (List ℕ)) → length ws ≤ length (line ws)
few [] = omega arith
few (w ∷ ws) = let h = few ws in omega (arith, length-append w (32 ∷ line ws))

pub line_lexes : (ws : List (List ℕ)) → AllByRecursion Good ws → tokens (line ws) ≡ lexed 0 ws ++ finish (reach 0 ws) ∷ []
line_lexes ws g =
    let h = few ws in
    lexes ws g (length (line ws) + 1) (line ws) 0 0 (ap (λ n. 0 + n) (no_blank ws g)) refl (omega arith)
