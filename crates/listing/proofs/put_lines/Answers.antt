use Rattle.std.proofs.Common.{◌≡◌, ◌+◌, ◌≤◌, length, sym, ◌∙◌, arith, rules, subst, IsOkAnd}
use Rattle.listing.proofs.Listed.{read_more, read_err, read_fits, put_line, same_room}
use Rattle.listing.proofs.put_lines.Goals as goal

pub returns-in_err-instruction_at : goal.returns-in_err-instruction_at
returns-in_err-instruction_at g c =
    let ws = g.M.CodeMemory.listed c.args.memory.now in
    let is = sym c.instruction_at.ensures ∙ c.in_err-instruction_at.was in
    let less = c.count-place-end.ensures.value in
    let e = read_err ws _ _ _ c.loop-place.invariant.1 _ (omega arith) is in
    absurd (subst (λ r. IsOkAnd r (λ text. length text ≤ length c.args.out.now)) e c.requires)

pub slice_bounds-copy_from_slice-end : goal.slice_bounds-copy_from_slice-end
slice_bounds-copy_from_slice-end g c =
    let ws = g.M.CodeMemory.listed c.args.memory.now in
    let is = sym c.instruction_at.ensures ∙ c.in_ok-instruction_at.was in
    let r = c.loop-place.invariant.1 in
    let more = read_more ws _ _ _ r _ _ _ is c.line-line.ensures c.len.ensures.value c.len.ensures.fits in
    let fits = read_fits ws _ _ _ more _ c.requires in
    let same = same_room _ _ _ _ r.size' (omega arith) c.loop-place.invariant.2 in
    let room : c.loop-place.end + c.len.result ≤ length c.loop-place.out = omega arith in
    search rules

pub loop-place-preserved : goal.loop-place-preserved
loop-place-preserved g c =
    let ws = g.M.CodeMemory.listed c.args.memory.now in
    let is = sym c.instruction_at.ensures ∙ c.in_ok-instruction_at.was in
    let r = c.loop-place.invariant.1 in
    let copied : c.copy_from_slice.new.self ≡ c.line-line.result.bytes = search rules in (
      _,
      read_more ws _ _ _ r _ _ _ is c.line-line.ensures c.len.ensures.value c.len.ensures.fits,
      put_line _ _ _ _ _ _ _ r.size' c.loop-place.invariant.2 c.len.ensures.value copied,
    )
