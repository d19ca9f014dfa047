use Rattle.std.proofs.Common.{◌∙◌, arith}
use Rattle.std.proofs.lemmas.List.{get_or_default}
use Rattle.std.proofs.lemmas.Grind.{common_steps}
use Rattle.storage.specs.declared.Operation.TheVariants.{Clear}
use Rattle.storage.proofs.Ledgers.{one_more, told_more}
use Rattle.storage.proofs.operate.Goals as goal

pub loop-i-preserved : goal.loop-i-preserved
loop-i-preserved g c =
    let operations = c.args.operations.now in
    let i = c.loop-i.i in
    let lt = c.loop-i-test.true in
    let room = g.M.CodeMemory.room c.args.memory.now in
    let is = get_or_default operations i _ Clear lt in
    let inv = c.loop-i.invariant in
    let did = c.perform-answer.ensures in
    let put = c.write_answer.ensures in (
      did.same ∙ inv.0,
      one_more room operations i lt _ is _ _ inv.0 inv.1 _ did.after,
      told_more room operations i lt _ is _ _ inv.0 inv.1 c.loop-i.answers _ _ did.answer put inv.2,
      grind (arith, common_steps),
    )
