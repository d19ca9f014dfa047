-- What a caller of the machine is told about a rule's code.
use Rattle.std.specs.Prelude.{◌≡◌, ℕ, ◌+◌, ◌<◌, ◌≤◌, List, length, take, Ok, Err, Result}
use Rattle.arithmetic.specs.Words.{Ops}
use Rattle.evaluation.specs.Worth.{Worth, word, over, unbound, worth, placed}
use Rattle.language.specs.Code.{long, tall}
use Rattle.language.specs.Tree.{Tree, size}
use Rattle.language.specs.Typing.{type_of}
use Rattle.language.specs.declared.operator.ValueType.{ValueType}
use Rattle.machine.specs.Runs.{held, answered, stack_after}
use Rattle.machine.specs.declared.outcome.Finished.{Finished}
use Rattle.machine.specs.declared.outcome.Halt.{Halt}
use Rattle.refusal.specs.declared.Refusal.TheVariants.{Overflow}
use Rattle.simulation.specs.Law.{Lawful, Fits, words_of}

-- the answer for what the rule is worth
abbrev pub Says : {W : Type 0} → Ops W → Tree → ValueType → Worth W → Result (Finished W) Halt → Type 0
Says ops t a (word v) r = (k : ℕ) × ((k ≤ long t) × Fits ops a v × (r ≡ Ok (record { word = v; steps = k })))
Says ops t a (over i) r = (k : ℕ) × ((i < size t) × (k < long t) × (r ≡ Err (record { refusal = Overflow (placed t i); steps = k })))
Says ops t a unbound r = ⊥

-- For a rule worth w, on the stack xs: a word is answered only where the rule has that word, and a refusal only where the
-- rule overflows, and then no other one. The words below the base and those that the run found above it are unchanged.
pub record Answered {W : Type 0} (ops : Ops W) (t : Tree) (a : ValueType) (xs : List W) (base height budget : ℕ) (w : Worth W) : Type 0 where
  pub says : Says ops t a w (answered ops (words_of t) xs base height budget)
  pub words_only : (f : Finished W) → answered ops (words_of t) xs base height budget ≡ Ok f → w ≡ word f.word
  pub refusals_only : (h : Halt) → answered ops (words_of t) xs base height budget ≡ Err h → (i : ℕ) × ((w ≡ over i) × (h.refusal ≡ Overflow (placed t i)))
  pub kept : take (base + height) (stack_after ops (words_of t) xs base height budget) ≡ take (base + height) xs
  pub still : length (stack_after ops (words_of t) xs base height budget) ≡ length xs

-- the eight words below the height are the fields
abbrev pub AnswersIn : {W : Type 0} → Ops W → Type 0
AnswersIn ops =
    Lawful ops → (t : Tree) (a : ValueType) → type_of t ≡ Ok a →
    (xs : List _) (base height budget : ℕ) → 8 ≤ height → base + height + tall t ≤ length xs → long t ≤ budget →
    Answered ops t a xs base height budget (worth ops t (take 8 (held xs base (base + height))))

abbrev pub Answers : Type 0 → Type 0
Answers W = (ops : Ops W) → AnswersIn ops
