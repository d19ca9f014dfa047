use Rattle.std.proofs.Common.{Some, rules}
use Rattle.arithmetic.specs.Words.{truth}
use Rattle.machine.specs.Steps.{either}
use Rattle.machine.proofs.step.perform.Goals as goal

pub returns-in-Addi : goal.returns-in-Addi
returns-in-Addi g c = rw c.in-Addi.is (c.merge.ensures g.A.Arithmetic.ops.plus (λ x a r is. search rules))

pub returns-in-Eqi : goal.returns-in-Eqi
returns-in-Eqi g c =
    rw c.in-Eqi.is (c.merge-in-Eqi.ensures (λ x a. Some (truth g.A.Arithmetic.ops (g.A.Arithmetic.ops.same x a))) (λ x a r is. search rules))

pub returns-in-Ori : goal.returns-in-Ori
returns-in-Ori g c = rw c.in-Ori.is (c.merge-in-Ori.ensures (λ x a. Some (either g.A.Arithmetic.ops x a)) (λ x a r is. search rules))

pub returns-in-Pop : goal.returns-in-Pop
returns-in-Pop g c = rw c.in-Pop.is (c.merge-in-Pop.ensures (λ x a. Some x) (λ x a r is. search rules))

pub returns-in-Multi : goal.returns-in-Multi
returns-in-Multi g c = rw c.in-Multi.is (c.merge-in-Multi.ensures g.A.Arithmetic.ops.times (λ x a r is. search rules))

pub returns-in-Leqi : goal.returns-in-Leqi
returns-in-Leqi g c =
    rw c.in-Leqi.is (c.merge-in-Leqi.ensures (λ x a. Some (truth g.A.Arithmetic.ops (g.A.Arithmetic.ops.at_most x a))) (λ x a r is. search rules))
