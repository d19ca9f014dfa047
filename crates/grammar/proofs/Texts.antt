-- Tokens have at most one tree, and the laws over texts.
use Rattle.std.proofs.Common.{◌≡◌, ℕ, zero, suc, ◌+◌, ◌<◌, ◌≤◌, min, Bool, true, false, eqb, ltb, List, [], ◌∷◌, ◌++◌, length, get_or, drop, Ok, Err, Option, Result, sym, refl, ap, ◌∙◌, subst, inl, inr, arith}
use Rattle.std.proofs.lemmas.List.{drop_all}
use Rattle.std.proofs.lemmas.Bool.{cond-false, cond_both, both_ways, eqb-false, or_left, cases_lt, ltb-false, le-ltb}
use Rattle.std.proofs.lemmas.Bool.Decides.{nat_tests}
use Rattle.refusal.specs.declared.Refusal.{Refusal}
use Rattle.refusal.specs.declared.Refusal.TheVariants.{TextTooLong, TooManyEntries}
use Rattle.language.specs.Fold.{State, duly, feed, feeds, followed, fresh}
use Rattle.language.specs.Reading.{is_last, tokens_from, parse, fitted}
use Rattle.language.specs.Tokens.{Lexeme, lexeme, after, begins, scanned, is_digit, is_small, is_word, is_minus, mark_by, run_of}
use Rattle.language.specs.Tree.{flatten}
use Rattle.language.specs.declared.entry.Entry.{Entry}
use Rattle.language.specs.declared.frame.Due.{Due}
use Rattle.language.specs.declared.token.TokenKind.{TokenKind}
use Rattle.language.specs.declared.token.TokenKind.TheVariants.{End}
use Rattle.grammar.specs.Laws.{Endless, Means, Unambiguous, TextSound, TextExact, TextComplete, TextUnambiguous, TextRefused, Read, ReadingSound, ReadingComplete}
use Rattle.grammar.proofs.Bounds.{closed}
use Rattle.grammar.proofs.Completes.{complete}
use Rattle.grammar.proofs.Sounds.{err_ok, fed, sound}
use Rattle.grammar.proofs.Trees.{faithful}
use Rattle.language.proofs.Lengths.{length-flatten}
use Rattle.language.proofs.Scanning.{token_moves}

abbrev an_end : Lexeme
an_end = record { kind = End; place = 0; text = [] }

pub unambiguous : Unambiguous
unambiguous ts t u r q = faithful t u (cc (complete ts an_end t r refl, complete ts an_end u q refl))

-- behind the text there is only the end
past_end : (text : List ℕ) (p : ℕ) → length text ≤ p → (lexeme text p).kind ≡ End
past_end text p h =
    let le : length text ≤ begins text p = omega arith in
    ap (λ y. (scanned y).0) (drop_all (begins text p) text le)

-- the tokens of a text are some and the last
record Split (ts : List Lexeme) : Type 0 where
  front : List Lexeme
  last : Lexeme
  whole : ts ≡ front ++ last ∷ []
  endless : Endless front
  ends : is_last last.kind ≡ true

split : (n : ℕ) (text : List ℕ) (p : ℕ) → 1 ≤ n → length text + 1 ≤ p + n → Split (tokens_from n text p)
split zero text p h l = absurd (omega arith)
split (suc n) text p h l =
    cond_both (is_last (lexeme text p).kind) _ _ Split (λ b. record { front = []; last = lexeme text p; whole = refl; endless = tt; ends = b })
    (λ b.
    let inner : p < length text =
    elim (cases_lt p (length text)) [ inl i ↦ i | inr i ↦ absurd (both_ways _ b (ap is_last (past_end text p i))) ] in
    let next = token_moves text p b in
    let s = split n text (after text p) (omega arith) (omega arith) in
    record {
      front = lexeme text p ∷ s.front;
      last = s.last;
      whole = cc;
      endless = ((λ e. both_ways _ b (ap is_last e)), s.endless);
      ends = s.ends;
    })

-- a last token that is not refused is the end
last_stands : (d : Due) (s : State) (k : TokenKind) (p : ℕ) (x : List ℕ) (es : List Entry) → is_last k ≡ true →
    followed (duly d s k p x) (λ u. feeds u []) ≡ Ok es → k ≡ End
last_stands d s k p x es l e = grind arith

ends_there : (ts : List Lexeme) (s : State) (e : Lexeme) (es : List Entry) → is_last e.kind ≡ true → feeds s (ts ++ e ∷ []) ≡ Ok es → e.kind ≡ End
ends_there [] s e es l h = last_stands s.due s e.kind e.place e.text es l h
ends_there (x ∷ ts) s e es l h = let f = fed (feed s x) (λ u. feeds u (ts ++ e ∷ [])) es h in ends_there ts f.next.0 e f.rest l f.then

pub text_sound : TextSound
text_sound text es h =
    let s = split (length text + 1) text 0 (omega arith) (omega arith) in
    let reads : feeds fresh (s.front ++ s.last ∷ []) ≡ Ok es = sym (ap (feeds fresh) s.whole) ∙ h in
    let e = ends_there s.front fresh s.last es s.ends reads in
    let r = sound s.front s.last es s.endless e reads in
    record {
      tree = r.0;
      means = record { rule = s.front; end = s.last; all = s.whole; ends = e; derived = r.1 };
      table = r.2;
      bound = closed s.front r.0 r.1;
    }

pub text_exact : TextExact
text_exact text t h =
    let p = text_sound text (flatten t) h in
    subst (λ u. Means text u) (faithful p.tree t (sym p.table)) p.means

pub text_complete : TextComplete
text_complete text t m = ap (feeds fresh) m.all ∙ complete m.rule m.end t m.derived m.ends

pub text_unambiguous : TextUnambiguous
text_unambiguous text t u m n = faithful t u (cc (text_complete text t m, text_complete text u n))

pub text_refused : TextRefused
text_refused text r t e m = err_ok r (flatten t) (sym e ∙ text_complete text t m)

-- a table that is fitted
fitted_ok : (room : ℕ) (r : Result (List Entry) Refusal) (es : List Entry) → fitted room r ≡ Ok es → (r ≡ Ok es) × (length es ≤ min room 512)
fitted_ok room r es h = grind (arith, nat_tests)

pub reading_sound : ReadingSound
reading_sound room text es h =
    cond_both (ltb 4096 (length text)) (Err (TextTooLong (length text))) (fitted room (parse text)) (λ i. i ≡ Ok es → Read room text es) (λ b i. err_ok _ _ i)
    (λ b i.
    let f = fitted_ok room (parse text) es i in
    record { parsed = text_sound text es f.0; short = ltb-false 4096 (length text) b; fits = f.1 })
    h

pub reading_complete : ReadingComplete
reading_complete room text t m l f =
    let n : length (flatten t) ≤ min room 512 = omega (arith, length-flatten t) in
    cond-false _ (Err (TextTooLong (length text))) (fitted room (parse text)) (le-ltb 4096 (length text) l)
    ∙ ap (fitted room) (text_complete text t m)
    ∙ cond-false _ (Err (TooManyEntries (length (flatten t)))) (Ok (flatten t)) (le-ltb (min room 512) (length (flatten t)) n)
