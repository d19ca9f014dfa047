use Rattle.std.proofs.Common.{rules, sym, ap, arith}
use Rattle.std.proofs.lemmas.Grind.{common_steps}
use Rattle.machine.specs.Runs.{answer}
use Rattle.machine.proofs.Turns.{ends, stands, after, leaves}
use Rattle.machine.proofs.running.finish.Goals as goal

pub returns-in-Some-clause-answer : goal.returns-in-Some-clause-answer
returns-in-Some-clause-answer g c =
    let e = ends _ _ _ _ _ _ c.loop-steps.invariant.going c.in-Some.ensures.0 in
    rw c.in-Some.ensures.1 (sym (ap answer e))

pub returns-in-Some-clause-words : goal.returns-in-Some-clause-words
returns-in-Some-clause-words g c =
    leaves c.loop-steps.processor _ _ _ _ (ends _ _ _ _ _ _ c.loop-steps.invariant.going c.in-Some.ensures.0)

pub returns-in_err-map_err-clause-answer : goal.returns-in_err-map_err-clause-answer
returns-in_err-map_err-clause-answer g c =
    let t = after _ _ _ _ _ _ c.loop-steps.invariant.going (search rules) c.loop-steps-test.true c.step.new.processor _ (rw c.loop-steps.invariant.code at c.step.ensures.did) in
    grind (arith, common_steps, t)

pub returns-in_err-map_err-clause-words : goal.returns-in_err-map_err-clause-words
returns-in_err-map_err-clause-words g c =
    let t = after _ _ _ _ _ _ c.loop-steps.invariant.going (search rules) c.loop-steps-test.true c.step.new.processor _ (rw c.loop-steps.invariant.code at c.step.ensures.did) in
    grind (arith, common_steps, t)

pub loop-steps-preserved : goal.loop-steps-preserved
loop-steps-preserved g c =
    let t = after _ _ _ _ _ _ c.loop-steps.invariant.going (search rules) c.loop-steps-test.true c.step.new.processor _ (rw c.loop-steps.invariant.code at c.step.ensures.did) in
    record { going = grind (arith, common_steps, t); same = search rules; code = search rules; room = search rules }

pub returns-clause-words : goal.returns-clause-words
returns-clause-words g c = stands _ _ _ _ _ _ c.loop-steps.invariant.going c.loop-steps-test.false
