use Rattle.std.proofs.Common.{◌≡◌, ◌+◌, ◌*◌, get_or, set, refl, ap, ◌∙◌, arith, length-set}
use Rattle.records.specs.Layout.{blank}
use Rattle.records.proofs.Blanks.{blank_start, blank_more, blank_bytes}
use Rattle.records.proofs.bytes.blank_bytes.Goals as goal

pub loop-r-init : goal.loop-r-init
loop-r-init c = (refl, blank_start)

pub loop-r-preserved : goal.loop-r-preserved
loop-r-preserved c =
    let bytes = c.loop-r.bytes in
    let r = c.loop-r.r in
    (length-set _ _ _ ∙ c.loop-r.invariant.0, λ k. ap (λ i. get_or (set bytes (16 * i) (r + 1)) k 0) c.from.ensures ∙ blank_more bytes r (omega arith) (omega arith) c.loop-r.invariant.1 k)

pub returns : goal.returns
returns c =
    let bytes = c.loop-r.bytes in
    let end : c.loop-r.r ≡ 63 = omega arith in
    blank_bytes bytes c.loop-r.invariant.0 (λ k. c.loop-r.invariant.1 k ∙ ap (λ r. blank r k) end)
