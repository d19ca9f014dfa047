-- A step in a processor: the words up to the height are the machine's stack, and those above are unused.
use Rattle.std.specs.Prelude.{◌≡◌, ℕ, ◌+◌, List, length, drop, Ok, Err, Result}
use Rattle.std.specs.Result.{OnErr}
use Rattle.arithmetic.specs.Words.{Ops}
use Rattle.bytecode.specs.declared.instruction.Word.{Word}
use Rattle.refusal.specs.declared.Refusal.{Refusal}
use Rattle.machine.specs.declared.processor.Processor.{Processor}
use Rattle.machine.specs.Runs.{Ended, runs, held}
use Rattle.machine.specs.Steps.{State, state, fetch}

-- the state at the place p, after n steps
abbrev pub state_at : {W : Type 0} → ℕ → Processor W → ℕ → State W
state_at p m n = state p m.word (held m.words.now 0 m.height) (drop m.height m.words.now) n

-- how a run of the code ends that goes on from there, with b steps left
abbrev pub runs_on : {W : Type 0} → Ops W → List Word → ℕ → Processor W → ℕ → Ended W
runs_on ops code b m n = runs ops (length code) (fetch code) b (state_at m.next m n)

abbrev pub led : {W : Type 0} → Result (Unit {0}) Refusal → State W → Result (State W) Refusal
led (Ok u) s = Ok s
led (Err why) s = Err why

-- From the place p the step `f` led on, or it was refused and the words are as they were. The slice and the end of the code
-- are the same.
pub record Stepped {W : Type 0} (f : State W → Result (State W) Refusal) (p : ℕ) (was now : Processor W) (r : Result (Unit {0}) Refusal) : Type 0 where
  pub does : (n : ℕ) → f (state_at p was n) ≡ led r (state_at now.next now (n + 1))
  pub stays : OnErr r (now.words.now ≡ was.words.now)
  pub same : now.words.ghost_name ≡ was.words.ghost_name
  pub end : now.end ≡ was.end

-- the same of the instruction where the processor is
abbrev pub Did : {W : Type 0} → (State W → Result (State W) Refusal) → Processor W → Processor W → Result (Unit {0}) Refusal → Type 0
Did f was now r = Stepped f was.place was now r
