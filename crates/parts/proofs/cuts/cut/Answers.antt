use Rattle.std.proofs.Common.{◌≡◌, ℕ, length, take, drop, sym, ap, ◌∙◌, arith}
use Rattle.std.proofs.lemmas.List.{take_at, drop_at}
use Rattle.language.specs.Tree.{flatten}
use Rattle.parts.proofs.Roots.{last_entry, last_part}
use Rattle.parts.proofs.cuts.cut.Goals as goal

pub returns-in_err-size-clause-value : goal.returns-in_err-size-clause-value
returns-in_err-size-clause-value c xs t h =
    let e = last_entry xs t c.args.entries.now h in
    let k = c.in_err-size.ensures.value in
    let z : ◌≡◌ {A = ℕ} 0 1 = cc in absurd (omega arith)

pub returns-in_err-start-clause-value : goal.returns-in_err-start-clause-value
returns-in_err-start-clause-value c xs t h =
    let n = last_part xs t c.args.entries.now c.in_ok-size.field-0.now h c.in_ok-size.ensures.value in
    absurd (c.in_err-start.ensures n.0)

pub returns-clause-value : goal.returns-clause-value
returns-clause-value c xs t h =
    let n = last_part xs t c.args.entries.now c.in_ok-size.field-0.now h c.in_ok-size.ensures.value in
    let at : length xs ≡ c.in_ok-start.start = n.1 ∙ sym c.in_ok-start.ensures.1 in (
      c.split_at.ensures.front ∙ ap (take c.in_ok-start.start) h ∙ take_at xs (flatten t) c.in_ok-start.start at,
      c.split_at.ensures.back ∙ ap (drop c.in_ok-start.start) h ∙ drop_at xs (flatten t) c.in_ok-start.start at,
    )
