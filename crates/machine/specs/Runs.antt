-- A run of the machine: steps up to the end of the code, as many as the budget has.
use Rattle.std.specs.Prelude.{ℕ, zero, suc, ◌+◌, cond, List, ◌++◌, reverse, length, take, drop, Some, None, Ok, Err, Option, Result, ◌==◌, nat_lt}
use Rattle.arithmetic.specs.Words.{Ops, naught}
use Rattle.bytecode.specs.declared.instruction.Word.{Word}
use Rattle.bytecode.specs.declared.instruction.Instruction.{Instruction}
use Rattle.refusal.specs.declared.Refusal.{Refusal}
use Rattle.refusal.specs.declared.Refusal.TheVariants.{StackTooShort, BudgetSpent}
use Rattle.machine.specs.declared.outcome.Finished.{Finished}
use Rattle.machine.specs.declared.outcome.Halt.{Halt}
use Rattle.machine.specs.Steps.{State, state, place, fetch, step}

-- a run ended in this state: at the end of the code, or by a refusal
pub data Ended (W : Type 0) : Type 0 where
  ended : State W → Option Refusal → Ended W

abbrev pub goes : {W : Type 0} → State W → Result (State W) Refusal → (State W → Ended W) → Ended W
goes s (Err why) f = ended s (Some why)
goes s (Ok u) f = f u

abbrev pub runs : {W : Type 0} → Ops W → ℕ → (ℕ → Option (Instruction × ℕ)) → ℕ → State W → Ended W
runs ops end fetch zero s = cond (place s == end) (ended s None) (ended s (Some (BudgetSpent (place s))))
runs ops end fetch (suc b) s = cond (place s == end) (ended s None) (goes s (step ops end fetch s) (λ u. runs ops end fetch b u))

-- what a run answers
abbrev pub answer : {W : Type 0} → Ended W → Result (Finished W) Halt
answer (ended (state p a st free n) None) = Ok (record { word = a; steps = n })
answer (ended (state p a st free n) (Some why)) = Err (record { refusal = why; steps = n })

-- the words that it leaves from the base up
abbrev pub left : {W : Type 0} → Ended W → List W
left (ended (state p a st free n) why) = reverse st ++ free

-- the words of a stack from the base to a height, the top first
abbrev pub held : {W : Type 0} → List W → ℕ → ℕ → List W
held xs base h = reverse (drop base (take h xs))

-- how a run on the stack xs ends, which begins with the words from the base to `top`
abbrev pub ran : {W : Type 0} → Ops W → List Word → List W → ℕ → ℕ → ℕ → Ended W
ran ops code xs base top budget = runs ops (length code) (fetch code) budget (state 0 (naught ops) (held xs base top) (drop top xs) 0)

-- What a run on the stack xs answers, and the stack that it leaves. It begins with `height` words above the base.
abbrev pub answered : {W : Type 0} → Ops W → List Word → List W → ℕ → ℕ → ℕ → Result (Finished W) Halt
answered ops code xs base height budget =
    cond (nat_lt (length xs) (base + height)) (Err (record { refusal = StackTooShort; steps = 0 })) (answer (ran ops code xs base (base + height) budget))

abbrev pub stack_after : {W : Type 0} → Ops W → List Word → List W → ℕ → ℕ → ℕ → List W
stack_after ops code xs base height budget =
    cond (nat_lt (length xs) (base + height)) xs (take base xs ++ left (ran ops code xs base (base + height) budget))
