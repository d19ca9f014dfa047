use Rattle.std.proofs.Common.{sym, ap, ◌∙◌, arith, rules}
use Rattle.listing.specs.Output.{size_of}
use Rattle.listing.proofs.Listed.{read_more, read_err}
use Rattle.listing.proofs.needed.Goals as goal

pub loop-place-preserved : goal.loop-place-preserved
loop-place-preserved g c =
    let is = sym c.instruction_at.ensures ∙ c.in_ok-instruction_at.was in
    (_, read_more (g.M.CodeMemory.listed c.args.memory.now) _ _ _ c.loop-place.invariant.1 _ _ _ is c.line.ensures c.len.ensures.value c.len.ensures.fits)

pub returns-in_err-instruction_at : goal.returns-in_err-instruction_at
returns-in_err-instruction_at g c =
    let ws = g.M.CodeMemory.listed c.args.memory.now in
    let is = sym c.instruction_at.ensures ∙ c.in_err-instruction_at.was in
    let less = c.count-place-end.ensures.value in
    let e = read_err ws _ _ _ c.loop-place.invariant.1 _ (omega arith) is in
    let h = ap size_of e in
    search rules
