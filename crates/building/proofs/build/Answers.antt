use Rattle.std.proofs.Common.{length}
use Rattle.language.specs.Reading.{reading}
use Rattle.building.proofs.Builds.{took, built_read}
use Rattle.building.proofs.build.Goals as goal

pub invariant_of-rule : goal.invariant_of-rule
invariant_of-rule g c =
    let p = took c.args.text.now c.args.table.now _ _ _ c.read.ensures.answer c.read.ensures.table c.in_ok-count.was in
    record { few = p.few; formed = ∣ p.formed ∣₁ }

pub returns-clause-built : goal.returns-clause-built
returns-clause-built g c =
    let p = took c.args.text.now c.args.table.now _ _ _ c.read.ensures.answer c.read.ensures.table c.in_ok-count.was in
    let f = p.formed in
    built_read (reading (length c.args.table.now) c.args.text.now) (g.M.CodeMemory.room c.args.memory.now) _ f.tree _ _ _ p.was f.table (c.compile.ensures.built f.tree f.table)

pub returns-clause-kept : goal.returns-clause-kept
returns-clause-kept g c =
    let p = took c.args.text.now c.args.table.now _ _ _ c.read.ensures.answer c.read.ensures.table c.in_ok-count.was in
    c.compile.ensures.kept p.formed.tree p.formed.table
