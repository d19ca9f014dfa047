use Rattle.std.proofs.Common.{◌<◌, sym, ◌∙◌, subst, arith}
use Rattle.records.proofs.Operations.{reached_next, reached_within}
use Rattle.records.proofs.record_memory.RecordMemory.walk.Goals as goal

pub loop-i-init : goal.loop-i-init
loop-i-init c =
    let self = c.args.self.now in
    let is = c.requires.stands in
    (is, subst (λ r. r < 64) (sym is) (reached_within self.bytes self.chains.formed c.args.from.index (omega arith)))

pub loop-i-preserved : goal.loop-i-preserved
loop-i-preserved c =
    let self = c.args.self.now in
    let to = c.from-r.ensures in
    let w = reached_next self.bytes self.chains.formed _ _ (omega arith) c.loop-i.invariant.0 in
    (to ∙ w.0, subst (λ r. r < 64) (sym to) w.1)
