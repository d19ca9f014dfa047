use Rattle.std.proofs.Common.{◌≡◌, sym, ap, ◌∙◌, arith}
use Rattle.std.proofs.lemmas.Grind.{common_steps}
use Rattle.std.specs.List.{slice_get}
use Rattle.compiler.specs.Layouts.{spots_of}
use Rattle.compiler.proofs.Placed.{above_found, above_missing}
use Rattle.compiler.proofs.layout.Layout.above.Goals as goal

pub returns : goal.returns
returns c s e l =
    let k : c.bound.result ≡ slice_get (spots_of s) c.args.position = c.bound.ensures ∙ sym (ap (λ xs. slice_get xs c.args.position) e) in
    grind (arith, common_steps, above_found, above_missing)
