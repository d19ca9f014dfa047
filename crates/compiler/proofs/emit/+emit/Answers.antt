use Rattle.std.proofs.Common.{reverse, ap, ◌∙◌, arith}
use Rattle.std.proofs.lemmas.Grind.{common_steps}
use Rattle.compiler.proofs.Jumps.{choice_emits, emits_at, adds_at}
use Rattle.compiler.proofs.Placed.{above_low}
use Rattle.compiler.proofs.emit.+emit.Goals as goal

pub returns-in-Some-Name-clause-value : goal.returns-in-Some-Name-clause-value
returns-in-Some-Name-clause-value g t c = grind (arith, common_steps, above_low)

pub returns-in_ok-put-in-Some-If-2-clause-value : goal.returns-in_ok-put-in-Some-If-2-clause-value
returns-in_ok-put-in-Some-If-2-clause-value g t c =
    let es = c.args.entries.now in
    let spots = reverse c.args.layout.now.spots.items in
    let high = c.args.layout.now.height in
    let room = g.M.CodeMemory.room c.args.memory.now in
    let room₁ = c.emit-in-Some-If.ensures.same in
    let room₂ = c.put-in-Some-If.ensures.same ∙ room₁ in
    let room₃ = c.emit-in-Some-If-2.ensures.same ∙ room₂ in
    let room₄ = c.put-in-Some-If-2.ensures.same ∙ room₃ in
    let spots₁ = c.emit-in-Some-If.ensures.spots in
    let spots₂ = c.emit-in-Some-If-2.ensures.spots ∙ spots₁ in
    let high₁ = c.emit-in-Some-If.ensures.height in
    let high₂ = c.emit-in-Some-If-2.ensures.height ∙ high₁ in
    choice_emits es c.in-Some-If.test.now c.in-Some-If.first.now c.in-Some-If.second.now spots high room c.in-Some-If.field-0-0
    c.measure-in-Some-If.result c.measure.result _ _ _ _ _ _ _ _ _
    (λ u h. rw c.in-Some-If.field-0-is at (c.in-Some-If.ensures.value u h))
    c.measure-in-Some-If.ensures.value c.measure.ensures.value c.over_else.ensures c.over_then.ensures
    c.in_ok-emit-in-Some-If.ensures.value
    (adds_at _ _ _ _ room₁ c.in_ok-put-in-Some-If.ensures.adds)
    (emits_at _ _ _ _ (ap (λ x. reverse x.items) spots₁) high₁ room₂ c.in_ok-emit-in-Some-If-2.ensures.value)
    (adds_at _ _ _ _ room₃ c.in_ok-put-in-Some-If-2.ensures.adds)
    (emits_at _ _ _ _ (ap (λ x. reverse x.items) spots₂) high₂ room₄ c.emit-in-Some-If-3.ensures.value)

-- The check finds these alone, but needs more than half of its limits.
pub returns-in_err-put-in-Some-If-2-clause-value : goal.returns-in_err-put-in-Some-If-2-clause-value
returns-in_err-put-in-Some-If-2-clause-value g t c = grind (arith, common_steps)

pub returns-in_err-put-in-Some-Let-clause-value : goal.returns-in_err-put-in-Some-Let-clause-value
returns-in_err-put-in-Some-Let-clause-value g t c = grind (arith, common_steps)

pub returns-in_err-done-in-Some-Let-clause-value : goal.returns-in_err-done-in-Some-Let-clause-value
returns-in_err-done-in-Some-Let-clause-value g t c = grind (arith, common_steps)

pub returns-in_ok-emit-in-Some-Prefix-clause-value : goal.returns-in_ok-emit-in-Some-Prefix-clause-value
returns-in_ok-emit-in-Some-Prefix-clause-value g t c = grind (arith, common_steps)

pub returns-in_ok-done-in-Some-Binary-clause-value : goal.returns-in_ok-done-in-Some-Binary-clause-value
returns-in_ok-done-in-Some-Binary-clause-value g t c = grind (arith, common_steps)

pub returns-in_ok-done-in-Some-Let-clause-value : goal.returns-in_ok-done-in-Some-Let-clause-value
returns-in_ok-done-in-Some-Let-clause-value g t c = grind (arith, common_steps)
