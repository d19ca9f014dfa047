-- A turn of a run, and how a run ends.
use Rattle.std.proofs.Common.{◌≡◌, ℕ, zero, suc, ◌+◌, ◌-◌, ◌<◌, ◌≤◌, Bool, true, false, cond, ◌==◌, List, ◌++◌, length, drop, Some, None, Ok, Err, Option, Result, sym, ap, ◌∙◌, arith, take-append-drop}
use Rattle.std.proofs.lemmas.Bool.{cond-true, cond-false, ne_eqb, eq-eqb}
use Rattle.std.proofs.lemmas.List.{reverse-reverse}
use Rattle.std.specs.Result.{MatchResult}
use Rattle.arithmetic.specs.Words.{Ops}
use Rattle.bytecode.specs.declared.instruction.Instruction.{Instruction}
use Rattle.bytecode.specs.declared.instruction.Word.{Word}
use Rattle.refusal.specs.declared.Refusal.{Refusal}
use Rattle.refusal.specs.declared.Refusal.TheVariants.{BudgetSpent}
use Rattle.machine.specs.declared.processor.Processor.{Processor}
use Rattle.machine.specs.Steps.{State, place, fetch, step}
use Rattle.machine.specs.Runs.{Ended, ended, goes, runs, left}
use Rattle.machine.specs.Processors.{state_at, led, runs_on, Stepped}

module _ {W : Type 0} (ops : Ops W) (end : ℕ) (get : ℕ → Option (Instruction × ℕ)) (s : State W) where
  -- at the end of the code
  over : (b : ℕ) → place s ≡ end → runs ops end get b s ≡ ended s None
  over zero e = cond-true _ _ _ (eq-eqb (place s) end e)
  over (suc b) e = cond-true _ _ _ (eq-eqb (place s) end e)

  -- before it
  more : (b : ℕ) → (place s ≡ end → ⊥) → runs ops end get (suc b) s ≡ goes s (step ops end get s) (λ u. runs ops end get b u)
  more b before = cond-false _ _ _ (ne_eqb (place s) end before)

-- the words that a run leaves are those that the processor has
pub leaves : {W : Type 0} (m : Processor W) (p n : ℕ) (why : Option Refusal) (whole : Ended W) → whole ≡ ended (state_at p m n) why → m.words.now ≡ left whole
leaves m p n why whole e =
    sym (ap left e ∙ ap (λ xs. xs ++ drop m.height m.words.now) (reverse-reverse _) ∙ take-append-drop m.height m.words.now)

-- In the middle of a run, after n steps: what is left of the budget, spent from here, ends as the whole run does.
pub record Going {W : Type 0} (ops : Ops W) (code : List Word) (budget : ℕ) (whole : Ended W) (m : Processor W) (n : ℕ) : Type 0 where
  pub end : m.end ≡ length code
  pub rest : runs_on ops code (budget - n) m n ≡ whole

module _ {W : Type 0} (ops : Ops W) (code : List Word) (budget : ℕ) (whole : Ended W) (m : Processor W) (n : ℕ) (go : Going ops code budget whole m n) where
  pub ends : m.next ≡ m.end → whole ≡ ended (state_at m.next m n) None
  ends e = sym go.rest ∙ over ops (length code) (fetch code) (state_at m.next m n) (budget - n) (e ∙ go.end)

  -- at the end of the budget
  settled : (b : Bool) → whole ≡ cond b (ended (state_at m.next m n) None) (ended (state_at m.next m n) (Some (BudgetSpent m.next))) → m.words.now ≡ left whole
  settled true e = leaves m m.next n None whole e
  settled false e = leaves m m.next n (Some (BudgetSpent m.next)) whole e

  pub stands : budget ≤ n → m.words.now ≡ left whole
  stands none =
      let z : budget - n ≡ 0 = omega arith in
      settled (m.next == length code) (sym go.rest ∙ ap (λ b. runs_on ops code b m n) z)

  module _ (before : m.next ≡ m.end → ⊥) where
    inside : m.next ≡ length code → ⊥
    inside e = before (e ∙ sym go.end)

    module _ (some : n < budget) (to : Processor W) where
      turn : whole ≡ goes (state_at m.next m n) (step ops m.end (fetch code) (state_at m.next m n)) (λ u. runs ops (length code) (fetch code) (budget - (n + 1)) u)
      turn =
          let z : budget - n ≡ suc (budget - (n + 1)) = omega arith in
          sym go.rest ∙ ap (λ b. runs ops (length code) (fetch code) b (state_at m.next m n)) z
          ∙ more ops (length code) (fetch code) (state_at m.next m n) (budget - (n + 1)) inside
          ∙ ap (λ e. goes (state_at m.next m n) (step ops e (fetch code) (state_at m.next m n)) (λ u. runs ops (length code) (fetch code) (budget - (n + 1)) u)) (sym go.end)

      turned : (r : Result (Unit {0}) Refusal) → Stepped (step ops m.end (fetch code)) m.next m to r → whole ≡ goes (state_at m.next m n) (led r (state_at to.next to (n + 1))) (λ u. runs ops (length code) (fetch code) (budget - (n + 1)) u)
      turned r s = turn ∙ ap (λ r. goes (state_at m.next m n) r (λ u. runs ops (length code) (fetch code) (budget - (n + 1)) u)) (s.does n)

      -- a step goes on, or ends the run
      pub after : (r : Result (Unit {0}) Refusal) → Stepped (step ops m.end (fetch code)) m.next m to r →
          MatchResult r (λ _. Going ops code budget whole to (n + 1)) (λ why. (whole ≡ ended (state_at m.next m n) (Some why)) × (to.words.now ≡ left whole))
      after (Ok u) s = record { end = s.end ∙ go.end; rest = sym (turned (Ok u) s) }
      after (Err why) s = (turned (Err why) s, s.stays ∙ leaves m m.next n (Some why) whole (turned (Err why) s))
