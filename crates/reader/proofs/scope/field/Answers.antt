use Rattle.std.proofs.Common.{rules, tests, refl, ap, ◌∙◌, map, bytes_eq}
use Rattle.std.proofs.lemmas.Iterator.{YieldsList-from_slice}
use Rattle.std.proofs.lemmas.Iterator.Search.{position_from_yields_List}
use Rattle.std.specs.Slice.Iter.{iter_rest}
use Rattle.language.specs.Names.{find}
use Rattle.reader.proofs.Fields.{named}
use Rattle.reader.proofs.scope.field.Goals as goal

pub returns-clause-value : goal.returns-clause-value
returns-clause-value c =
    let x = c.args.name.now in
    let fields = iter_rest c.iter.result in
    let found = position_from_yields_List (λ y. bytes_eq y.now x) _ _ c.position.result c.position.ensures.ran (YieldsList-from_slice fields refl) (λ x b q k. search (rules, tests)) in
    named x fields c.position.result found ∙ ap (λ ys. find x (map (λ y. y.now) ys)) c.iter.ensures.rest
