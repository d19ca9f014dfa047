-- A step refuses only at the place of its token.
use Rattle.std.proofs.Common.{◌≡◌, ℕ, eqb, ltb, List, [], ◌∷◌, Some, None, Ok, Err, Option, refl, subst}
use Rattle.std.proofs.Common.{arith}
use Rattle.std.proofs.lemmas.Bool.{cond_both}
use Rattle.refusal.specs.declared.Refusal.{Refusal}
use Rattle.language.specs.Fold.{State, Step, named, enter, begun_by, begun, opening_of, misplaced, is_name, is_equal, ended, endings, ends, turn_to, turn_top, turn_of, in_of, brought, shut_top, is_paren, finish_top, gone_on_by, gone_on, sequel_of, duly, feed}
use Rattle.language.specs.Frames.{above, deep}
use Rattle.language.specs.Names.{position}
use Rattle.language.specs.Operators.{row_of}
use Rattle.language.specs.Tokens.{Lexeme}
use Rattle.language.specs.declared.entry.Entry.{Entry}
use Rattle.language.specs.declared.frame.Due.{Due}
use Rattle.language.specs.declared.frame.Due.TheVariants.{Operand, Binder, Equals, Operator}
use Rattle.language.specs.declared.frame.Frame.{Frame}
use Rattle.language.specs.declared.frame.Mark.{Mark}
use Rattle.language.specs.declared.step.Opening.{Opening}
use Rattle.language.specs.declared.step.Opening.TheVariants.{Leaf, Name as NameOpening, Nested, Whole}
use Rattle.language.specs.declared.step.Sequel.{Sequel}
use Rattle.language.specs.declared.step.Sequel.TheVariants.{Join, Turn, Bring, Shut, Finish}
use Rattle.language.specs.declared.token.TokenKind.{TokenKind}
use Rattle.first_error.specs.Law.{place_of}

abbrev pub At : ℕ → Step → Type 0
At p (Ok u) = Unit {0}
At p (Err e) = place_of e ≡ Some p

at_misplaced : (k : TokenKind) (p : ℕ) → place_of (misplaced k p) ≡ Some p
at_misplaced k p = grind arith

at_enter : (m : Mark) (p : ℕ) (d : Due) (s : State) → At p (enter m p d s)
at_enter m p d s = cond_both (ltb (deep s.frames) 64) _ _ (At p) (λ b. tt) (λ b. refl)

at_begun_by : (o : Opening) (s : State) (p : ℕ) (x : List ℕ) → At p (begun_by o s p x)
at_begun_by (Leaf e n) s p x = tt
at_begun_by NameOpening s p x = elim (position x s.scope) as (λ o. At p (named o p s)) [ None ↦ refl | Some i ↦ tt ]
at_begun_by (Nested m) s p x = at_enter m p Operand s
at_begun_by (Whole m d) s p x = cond_both (eqb (above s.frames) 0) _ _ (At p) (λ b. at_enter m p d s) (λ b. refl)

at_begun : (o : Option Opening) (s : State) (k : TokenKind) (p : ℕ) (x : List ℕ) → At p (begun o s k p x)
at_begun None s k p x = at_misplaced k p
at_begun (Some o) s k p x = at_begun_by o s p x

at_turn : (g : Mark → Option Mark) (p : ℕ) (fs : List Frame) (u : State) (es : List Entry) → At p (turn_top g p fs u es)
at_turn g p [] u es = refl
at_turn g p (f ∷ fs) u es = elim (g f.mark) as (λ o. At p (turn_to o p u es)) [ None ↦ refl | Some m ↦ tt ]

at_brought : (p : ℕ) (x : Step) → At p x → At p (brought x)
at_brought p (Ok u) h = tt
at_brought p (Err e) h = h

at_shut : (p : ℕ) (fs : List Frame) (u : State) (es : List Entry) → At p (shut_top p fs u es)
at_shut p [] u es = refl
at_shut p (f ∷ fs) u es = cond_both (is_paren f.mark) _ _ (At p) (λ b. tt) (λ b. refl)

at_finish : (p : ℕ) (fs : List Frame) (u : State) (es : List Entry) → At p (finish_top p fs u es)
at_finish p [] u es = tt
at_finish p (f ∷ fs) u es = refl

at_gone_on_by : (q : Sequel) (s : State) (p : ℕ) → At p (gone_on_by q s p)
at_gone_on_by (Join o) s p = cond_both (eqb (above (ended (ends o) s).frames) (row_of o).level) _ _ (At p) (λ b. refl) (λ b. tt)
at_gone_on_by (Turn w) s p = at_turn (turn_of w) p _ _ _
at_gone_on_by Bring s p = at_brought p _ (at_turn in_of p (ended 0 s).frames (ended 0 s) (endings 0 s))
at_gone_on_by Shut s p = at_shut p _ _ _
at_gone_on_by Finish s p = at_finish p (ended 0 s).frames _ _

at_gone_on : (q : Option Sequel) (s : State) (k : TokenKind) (p : ℕ) → At p (gone_on q s k p)
at_gone_on None s k p = at_misplaced k p
at_gone_on (Some q) s k p = at_gone_on_by q s p

at_duly : (d : Due) (s : State) (k : TokenKind) (p : ℕ) (x : List ℕ) → At p (duly d s k p x)
at_duly Operand s k p x = at_begun (opening_of k) s k p x
at_duly Binder s k p x = cond_both (is_name k) _ _ (At p) (λ b. tt) (λ b. at_misplaced k p)
at_duly Equals s k p x = cond_both (is_equal k) _ _ (At p) (λ b. tt) (λ b. at_misplaced k p)
at_duly Operator s k p x = at_gone_on (sequel_of k) s k p

pub refused_at : (s : State) (t : Lexeme) (e : Refusal) → feed s t ≡ Err e → place_of e ≡ Some t.place
refused_at s t e h = subst (At t.place) h (at_duly s.due s t.kind t.place t.text)
