-- What a caller is told, from the law.
use Rattle.std.proofs.Common.{◌≡◌, ℕ, ◌+◌, ◌≤◌, false, ltb, List, ◌++◌, reverse, length, take, drop, Ok, Err, Result, sym, refl, ap, ◌∙◌, subst, append_assoc, arith, length-append, length-drop}
use Rattle.std.proofs.lemmas.List.{reverse-append, reverse-reverse, take-append-drop, take-take, take_at, length-take-le, length-reverse}
use Rattle.std.proofs.lemmas.Bool.{cond-false, le-ltb}
use Rattle.arithmetic.specs.Words.{Ops, naught}
use Rattle.evaluation.specs.Worth.{Worth, word, over, unbound, worth, placed}
use Rattle.language.specs.Code.{tall}
use Rattle.language.specs.Tree.{Tree}
use Rattle.language.specs.declared.operator.ValueType.{ValueType}
use Rattle.machine.specs.Runs.{Ended, answer, left, held, ran, answered, stack_after}
use Rattle.machine.specs.declared.outcome.Finished.{Finished}
use Rattle.machine.specs.declared.outcome.Halt.{Halt}
use Rattle.machine.proofs.Held.{length-held}
use Rattle.refusal.specs.declared.Refusal.TheVariants.{Overflow}
use Rattle.simulation.specs.Law.{words_of, Closes}
use Rattle.simulation.specs.Answered.{Says, AnswersIn}
use Rattle.simulation.proofs.Laws.{computes}

says : {W : Type 0} (ops : Ops W) (t : Tree) (a : ValueType) (st fs : List W) (w : Worth W) (e : Ended W) → Closes ops t a st fs w e → Says ops t a w (answer e)
says ops t a st fs (word v) e (k, after, (le, room, fits, f)) = (k, (le, fits, ap answer f))
says ops t a st fs (over i) e (k, hand, above, after, (lt, few, room, f)) = (k, (lt, few, ap answer f))
says ops t a st fs unbound e h = elim h [ ]

-- the words that the run leaves: those that it found, and others
leaves : {W : Type 0} (ops : Ops W) (t : Tree) (a : ValueType) (st fs : List W) (w : Worth W) (e : Ended W) → Closes ops t a st fs w e →
    (more : List W) × ((left e ≡ reverse st ++ more) × (length more ≡ length fs))
leaves ops t a st fs (word v) e (k, after, (le, room, fits, f)) = (after, (ap left f, room))
leaves ops t a st fs (over i) e (k, hand, above, after, (lt, few, room, f)) = (reverse above ++ after, (simp (f, reverse-append, append_assoc), simp (length-append, length-reverse) room))
leaves ops t a st fs unbound e h = elim h [ ]

words_only : {W : Type 0} (ops : Ops W) (t : Tree) (a : ValueType) (w : Worth W) (r : Result (Finished W) Halt) → Says ops t a w r → (f : Finished W) → r ≡ Ok f → w ≡ word f.word
words_only ops t a (word v) r (k, (le, fits, e)) f g = cc
words_only ops t a (over i) r (k, (lt, few, e)) f g = cc
words_only ops t a unbound r h f g = elim h [ ]

refusals_only : {W : Type 0} (ops : Ops W) (t : Tree) (a : ValueType) (w : Worth W) (r : Result (Finished W) Halt) → Says ops t a w r → (h : Halt) → r ≡ Err h → (i : ℕ) × ((w ≡ over i) × (h.refusal ≡ Overflow (placed t i)))
refusals_only ops t a (word v) r (k, (le, fits, e)) h g = cc
refusals_only ops t a (over i) r (k, (lt, few, e)) h g = (i, (refl, cc))
refusals_only ops t a unbound r s h g = elim s [ ]

pub answers : {W : Type 0} (ops : Ops W) → AnswersIn ops
answers {W} ops law t a typed xs base height budget eight room enough =
    let top = base + height in
    let st = held xs base top in
    let fs = drop top xs in
    let w = worth ops t (take 8 st) in
    let e = ran ops (words_of t) xs base top budget in
    let n : 8 ≤ length st = omega (arith, length-held xs base top (omega arith)) in
    let m : tall t ≤ length fs = omega (arith, length-drop top xs) in
    let c : Closes ops t a st fs w e = computes ops law t a typed (naught ops) st fs n m budget enough in
    let no : ltb (length xs) top ≡ false = le-ltb (length xs) top (omega arith) in
    let r : answered ops (words_of t) xs base height budget ≡ answer e = cond-false _ _ _ no in
    let s : Says ops t a w (answered ops (words_of t) xs base height budget) = subst (λ z. Says ops t a w z) (sym r) (says ops t a st fs w e c) in
    let l = leaves ops t a st fs w e c in
    let all : stack_after ops (words_of t) xs base height budget ≡ take top xs ++ l.0 =
    cond-false _ _ _ no ∙ rw (l.1.0, reverse-reverse, ← append_assoc (take base xs) (drop base (take top xs)) l.0, ← take-take base top xs (omega arith), take-append-drop) in
    let len : length (take top xs) ≡ top = length-take-le top xs (omega arith) in
    record {
      says = s;
      words_only = words_only ops t a w (answered ops (words_of t) xs base height budget) s;
      refusals_only = refusals_only ops t a w (answered ops (words_of t) xs base height budget) s;
      kept = ap (take top) all ∙ take_at (take top xs) l.0 top len;
      still = ap length all ∙ length-append (take top xs) l.0 ∙ omega (arith, len, l.1.1, length-drop top xs);
    }
