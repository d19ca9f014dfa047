-- A run above the base is the run of the whole stack.
use Rattle.std.proofs.Common.{◌≡◌, ℕ, ◌+◌, ◌-◌, List, length, take, drop, sym, ap, ◌∙◌}
use Rattle.std.proofs.lemmas.List.{take_rest, drop-drop}
use Rattle.arithmetic.specs.Words.{Ops, naught}
use Rattle.bytecode.specs.declared.instruction.Word.{Word}
use Rattle.machine.specs.Runs.{runs, ran, held}
use Rattle.machine.specs.Steps.{state, fetch}
use Rattle.machine.proofs.Held.{held_above}

pub based : {W : Type 0} (ops : Ops W) (code : List Word) (xs : List W) (base h budget : ℕ) →
    ran ops code (take (length xs - base) (drop base xs)) 0 h budget ≡ ran ops code xs base (base + h) budget
based ops code xs base h budget =
    ap (λ ys. ran ops code ys 0 h budget) (take_rest xs base)
    ∙ ap (λ st. runs ops (length code) (fetch code) budget (state 0 (naught ops) st (drop h (drop base xs)) 0)) (sym (held_above xs base h))
    ∙ ap (λ free. runs ops (length code) (fetch code) budget (state 0 (naught ops) (held xs base (base + h)) free 0)) (drop-drop h base xs)
