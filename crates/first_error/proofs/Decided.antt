-- The tokens up to the refused one are the same, and so is the refusal.
use Rattle.std.proofs.Common.{◌≡◌, ℕ, zero, suc, ◌+◌, ◌<◌, ◌≤◌, max, Bool, true, false, cond, ltb, ◌⊎◌, List, [], ◌∷◌, length, take, drop, Some, Ok, Err, Result, sym, refl, ap, ◌∙◌, inl, inr, arith}
use Rattle.std.proofs.lemmas.List.{take_all, length-take}
use Rattle.std.proofs.lemmas.Bool.{cond-false, cond_both, cases_lt, le-ltb}
use Rattle.refusal.specs.declared.Refusal.{Refusal}
use Rattle.refusal.specs.declared.Refusal.TheVariants.{TextTooLong}
use Rattle.language.specs.Fold.{State, Step, feed, feeds, prefixed, fresh}
use Rattle.language.specs.Reading.{is_last, tokens_from, parse, fitted}
use Rattle.language.specs.Tokens.{Lexeme, lexeme, after, begins, scanned}
use Rattle.language.specs.declared.entry.Entry.{Entry}
use Rattle.first_error.specs.Law.{place_of, extent, SameUpTo, Placed, Decides, ReadingDecides}
use Rattle.first_error.proofs.Scans.{same_after, same_lexeme}
use Rattle.language.proofs.Scanning.{scanned_moves}
use Rattle.first_error.proofs.Steps.{refused_at}

-- tokens are refused at the first of them, or behind it
record Later (s : State) (t : Lexeme) (ts : List Lexeme) (last : Bool) (e : Refusal) : Type 0 where
  next : State × List Entry
  went : feed s t ≡ Ok next
  more : last ≡ false
  rest : feeds next.0 ts ≡ Err e

prefixed_err : (es : List Entry) (r : Result (List Entry) Refusal) (e : Refusal) → prefixed es r ≡ Err e → r ≡ Err e
prefixed_err es r e h = grind arith

first : (last : Bool) (s : State) (t : Lexeme) (ts : List Lexeme) (e : Refusal) → feeds s (cond last (t ∷ []) (t ∷ ts)) ≡ Err e → (feed s t ≡ Err e) ⊎ Later s t ts last e
first last s t ts e h = go last (feed s t) refl h
  where
    go : (last : Bool) (x : Step) → feed s t ≡ x → feeds s (cond last (t ∷ []) (t ∷ ts)) ≡ Err e → (feed s t ≡ Err e) ⊎ Later s t ts last e
    go true (Ok u) w h = let i = rw w at h in cc
    go false (Ok u) w h = inr (record { next = u; went = w; more = refl; rest = prefixed_err u.1 (feeds u.0 ts) e (rw w at h) })
    go true (Err d) w h = let i = rw w at h in inl (cc)
    go false (Err d) w h = let i = rw w at h in inl (cc)

feeds_err : (b : Bool) (s : State) (t : Lexeme) (ts : List Lexeme) (e : Refusal) → feed s t ≡ Err e → feeds s (cond b (t ∷ []) (t ∷ ts)) ≡ Err e
feeds_err true s t ts e h = rw h
feeds_err false s t ts e h = rw h

feeds_on : (b : Bool) (s : State) (t : Lexeme) (ts : List Lexeme) (u : State × List Entry) (e : Refusal) → b ≡ false → feed s t ≡ Ok u → feeds u.0 ts ≡ Err e →
    feeds s (cond b (t ∷ []) (t ∷ ts)) ≡ Err e
feeds_on b s t ts u e l h r = rw (l, h, r)

-- a refusal carries a place, at or behind the place where the tokens begin
placed_from : (n : ℕ) (a : List ℕ) (q : ℕ) (s : State) (e : Refusal) → feeds s (tokens_from n a q) ≡ Err e → (p : ℕ) × (place_of e ≡ Some p) × (q ≤ p)
placed_from zero a q s e h = cc
placed_from (suc n) a q s e h =
    elim (first (is_last (lexeme a q).kind) s (lexeme a q) (tokens_from n a (after a q)) e h) [
      | inl x ↦ (begins a q, refused_at s (lexeme a q) e x, omega arith)
      | inr x ↦
          let r = placed_from n a (after a q) x.next.0 e x.rest in
          let l = r.2 in
          (r.0, r.1, omega arith)
    ]

pub placed : Placed
placed a e h = let r = placed_from (length a + 1) a 0 fresh e h in (r.0, r.1)

module _ (a b : List ℕ) (e : Refusal) (p : ℕ) (at : place_of e ≡ Some p) (same : SameUpTo p a b) where
  not_before : (n q : ℕ) (s : State) → feeds s (tokens_from n a q) ≡ Err e → q ≤ p
  not_before n q s h =
      let r = placed_from n a q s e h in
      let l = r.2 in
      let i : p ≡ r.0 = cc (r.1) in
      omega arith

  decided : (n m q : ℕ) (s : State) → feeds s (tokens_from n a q) ≡ Err e → p + 1 ≤ q + m → feeds s (tokens_from m b q) ≡ Err e
  decided n zero q s h enough = let l = not_before n q s h in absurd (omega arith)
  decided zero (suc m) q s h enough = cc
  decided (suc n) (suc m) q s h enough =
      elim (first (is_last (lexeme a q).kind) s (lexeme a q) (tokens_from n a (after a q)) e h) [
        | inl x ↦
            let i : p ≡ begins a q = cc (refused_at s (lexeme a q) e x) in
            let j : extent a p ≡ max 1 (scanned (drop (begins a q) a)).1 = ap (extent a) i in
            let reach : begins a q + max 1 (scanned (drop (begins a q) a)).1 < p + extent a p + 1 = omega arith in
            let t = same_lexeme a b q (p + extent a p + 1) reach same in
            feeds_err (is_last (lexeme b q).kind) s (lexeme b q) (tokens_from m b (after b q)) e (ap (feed s) t ∙ x)
        | inr x ↦
            let l = not_before n (after a q) x.next.0 x.rest in
            let moves = scanned_moves (drop (begins a q) a) x.more in
            let reach : begins a q + max 1 (scanned (drop (begins a q) a)).1 < p + extent a p + 1 = omega arith in
            let t = same_lexeme a b q (p + extent a p + 1) reach same in
            let f = same_after a b q (p + extent a p + 1) reach same in
            let r = decided n m (after a q) x.next.0 x.rest (omega arith) in
            feeds_on (is_last (lexeme b q).kind) s (lexeme b q) (tokens_from m b (after b q)) x.next e
            (ap (λ y. is_last y.kind) t ∙ x.more) (ap (feed s) t ∙ x.went) (ap (λ y. feeds x.next.0 (tokens_from m b y)) f ∙ r)
      ]

-- a front longer than the text is the text
whole : (n : ℕ) (a b : List ℕ) → length a < n → take n a ≡ take n b → a ≡ b
whole n a b h e = grind (arith, take_all, length-take n a, length-take n b, ap length e)

pub decides : Decides
decides a b e p h at same =
    elim (cases_lt (length a) (p + extent a p + 1)) [
      | inl l ↦ ap parse (sym (whole (p + extent a p + 1) a b l same)) ∙ h
      | inr l ↦
          let i = length-take (p + extent a p + 1) a in
          let j = length-take (p + extent a p + 1) b in
          let k = ap length same in
          let enough : p + 1 ≤ 0 + (length b + 1) = omega arith in
          decided a b e p at same (length a + 1) (length b + 1) 0 fresh h enough
    ]

-- a reading refused at a place is a text refused there
unfitted : (room p : ℕ) (r : Result (List Entry) Refusal) (e : Refusal) → fitted room r ≡ Err e → place_of e ≡ Some p → r ≡ Err e
unfitted room p r e h at = grind arith

short_enough : (n p : ℕ) (e : Refusal) → ◌≡◌ {A = Result (List Entry) Refusal} (Err (TextTooLong n)) (Err e) → place_of e ≡ Some p → ⊥
short_enough n p e h at = grind arith

pub reading_decides : ReadingDecides
reading_decides a b room other e p h at same short =
    let text =
    cond_both (ltb 4096 (length a)) (Err (TextTooLong (length a))) (fitted room (parse a)) (λ i. i ≡ Err e → parse a ≡ Err e)
    (λ t i. absurd (short_enough (length a) p e i at)) (λ t i. unfitted room p (parse a) e i at) h in
    cond-false _ (Err (TextTooLong (length b))) (fitted other (parse b)) (le-ltb 4096 (length b) short)
    ∙ ap (fitted other) (decides a b e p text at same)
