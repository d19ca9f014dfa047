-- The law from the simulation.
use Rattle.std.proofs.Common.{◌≡◌, ℕ, suc, ◌+◌, ◌-◌, ◌≤◌, List, ◌++◌, length, take, Some, None, ◌∙◌, arith}
use Rattle.std.proofs.Math.Nat.{zero-add}
use Rattle.std.proofs.lemmas.List.{length-map}
use Rattle.arithmetic.specs.Words.{Ops}
use Rattle.bytecode.specs.Words.{written}
use Rattle.evaluation.specs.Worth.{Worth, word, over, unbound, worth, placed}
use Rattle.language.specs.Code.{field_slots, long, translation}
use Rattle.language.specs.Tree.{Tree, size}
use Rattle.language.specs.Typing.{fields}
use Rattle.language.specs.declared.operator.ValueType.{ValueType}
use Rattle.machine.specs.Runs.{ended, runs}
use Rattle.machine.specs.Steps.{state, fetch}
use Rattle.refusal.specs.declared.Refusal.TheVariants.{Overflow}
use Rattle.simulation.specs.Law.{Lawful, Fits, words_of, Closes, ComputesIn}
use Rattle.language.proofs.Lengths.{length-code}
use Rattle.simulation.proofs.Places.{code_whole, past_end}
use Rattle.simulation.proofs.Reached.{runs_reaches, runs_end, runs_stop}
use Rattle.simulation.proofs.Simulation.{Sim, simulated}
use Rattle.simulation.proofs.Typed.{well, values_top, agree_numbers}

pub length-words : (t : Tree) → length (words_of t) ≡ long t
length-words t = length-map (translation t) written ∙ length-code field_slots t

closes : {W : Type 0} (ops : Ops W) (law : Lawful ops) (t : Tree) (a : ValueType) (acc : W) (st fs : List W) (budget : ℕ) → long t ≤ budget → (w : Worth W) →
    Sim ops law (length (words_of t)) (fetch (words_of t)) (past_end (words_of t)) 0 acc st fs 0 (long t) (size t) (placed t) (Fits ops a) w →
    Closes ops t a st fs w (runs ops (length (words_of t)) (fetch (words_of t)) budget (state 0 acc st fs 0))
closes ops law t a acc st fs budget enough (word v) h =
    let l = length-words t in
    let ws = words_of t in
    let s = state (0 + long t) v st h.after (0 + h.steps) in
    let e : runs ops (length ws) (fetch ws) (h.steps + (budget - h.steps)) (state 0 acc st fs 0) ≡ ended s None =
    runs_reaches ops (length ws) (fetch ws) (past_end ws) h.steps (budget - h.steps) (state 0 acc st fs 0) s h.comes.reaches
    ∙ runs_end ops (length ws) (fetch ws) (past_end ws) (budget - h.steps) s (omega arith) in
    let m : h.steps + (budget - h.steps) ≡ budget = omega (arith, h.few) in
    (h.steps, h.after, (h.few, h.room, h.fits, simp (m, zero-add) at e))
closes ops law t a acc st fs budget enough (over i) (lt, h) =
    let l = length-words t in
    let ws = words_of t in
    let s = state (0 + placed t i) h.hand (h.above ++ st) h.after (0 + h.steps) in
    let e : runs ops (length ws) (fetch ws) (h.steps + suc (budget - h.steps - 1)) (state 0 acc st fs 0) ≡ ended s (Some (Overflow (0 + placed t i))) =
    runs_reaches ops (length ws) (fetch ws) (past_end ws) h.steps (suc (budget - h.steps - 1)) (state 0 acc st fs 0) s h.comes.reaches
    ∙ runs_stop ops (length ws) (fetch ws) (past_end ws) (budget - h.steps - 1) (0 + placed t i) s h.stops in
    let m : h.steps + suc (budget - h.steps - 1) ≡ budget = omega (arith, h.few) in
    (h.steps, h.hand, h.above, h.after, (lt, h.few, h.room, simp (m, zero-add) at e))
closes ops law t a acc st fs budget enough unbound h = elim h [ ]

pub computes : {W : Type 0} (ops : Ops W) → ComputesIn ops
computes ops law t a typed acc st fs eight room budget enough =
    let ws = words_of t in
    let sim = simulated ops law (length ws) (fetch ws) (past_end ws) t field_slots fields 0 acc st fs 0 a (code_whole (translation t)) (well fields t a typed) (agree_numbers ops 8 st eight) room in
    closes ops law t a acc st fs budget enough (worth ops t (take 8 st)) (rw values_top at sim)
