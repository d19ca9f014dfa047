use Rattle.std.proofs.Math.Bridge.{le_prop}
use Rattle.std.proofs.Common.{◌≡◌, sym, ap, ◌∙◌, arith}
use Rattle.std.proofs.Math.Logic.{∥∥₁_elim}
use Rattle.language.specs.Tree.{Tree, flatten}
use Rattle.compiler.specs.Translating.{code_after}
use Rattle.compiler.proofs.Translated.{whole, no_refusal}
use Rattle.language.proofs.Lengths.{long_some}
use Rattle.compiler.proofs.writing.translate.Goals as goal

pub invariant_of-result-clause-some : goal.invariant_of-result-clause-some
invariant_of-result-clause-some g c =
    ∥∥₁_elim c.args.rule.formed le_prop (λ f. let l = long_some f.tree in omega (arith, ap (λ x. x.length) (c.measure-shape.ensures.value f.tree f.table)))

pub returns-in_err-emit : goal.returns-in_err-emit
returns-in_err-emit g c =
    let never : (t : Tree) → c.args.rule.entries.now ≡ flatten t → ⊥ =
    λ t h. no_refusal _ _ _ t (whole _ _ _ _ _ _ _ _ _ _ c.measure-shape.ensures.value c.in_ok-height.ensures.0 c.capacity.ensures.value c.clear.ensures.same c.fields.ensures.spots c.fields.ensures.height c.clear.ensures.after c.in_err-emit.ensures.value t h) in
    record {
      same = c.emit.ensures.same ∙ c.clear.ensures.same;
      value = λ t h. absurd (never t h);
      code = λ t h. absurd (never t h);
      kept = λ t h. absurd (never t h);
    }

pub returns-clause-code : goal.returns-clause-code
returns-clause-code g c t h =
    let w = whole _ _ _ _ _ _ _ _ _ _ c.measure-shape.ensures.value c.in_ok-height.ensures.0 c.capacity.ensures.value c.clear.ensures.same c.fields.ensures.spots c.fields.ensures.height c.clear.ensures.after c.in_ok-emit.ensures.value t h in
    w.words ∙ sym (ap (λ x. code_after x t (g.M.CodeMemory.listed c.args.memory.now)) w.free)
