use Rattle.std.proofs.Common.{Ok, Err, refl, subst, ap, ◌∙◌}
use Rattle.std.proofs.lemmas.Result.{err_from_is_err_and}
use Rattle.planning.proofs.Plans.{Follows, planned_refused, planned_listed}
use Rattle.planning.proofs.making.plan.Goals as goal

pub returns-in_err-card-clause-planned : goal.returns-in_err-card-clause-planned
returns-in_err-card-clause-planned c t m s f =
    planned_refused _ _ _ _ c.args.text.now t c.from_residual.result _ _ m s f c.new-memory.ensures.bytes _ c.in_err-card.ensures.built c.from_residual.ensures.1

pub returns-in_err-listing-clause-planned : goal.returns-in_err-listing-clause-planned
returns-in_err-listing-clause-planned c t m s f =
    let p = err_from_is_err_and c.from_residual-in_err-listing.result c.from_residual-in_err-listing.ensures.1 in
    planned_listed _ _ _ _ c.args.text.now t _ _ _ m s f c.new-memory.ensures.bytes c.in_ok-card.card c.in_ok-card.ensures.built
    (subst (λ l. Follows l c.in_ok-card.card c.from_residual-in_err-listing.result) c.in_err-listing.ensures.answer (p.1 ∙ ap Err p.2))

pub returns-clause-planned : goal.returns-clause-planned
returns-clause-planned c t m s f =
    planned_listed _ _ _ _ c.args.text.now t _ _ _ m s f c.new-memory.ensures.bytes c.in_ok-card.card c.in_ok-card.ensures.built
    (subst (λ l. Follows l c.in_ok-card.card (Ok (record { card = c.in_ok-card.card; listing = c.in_ok-listing.listing }))) c.in_ok-listing.ensures.answer refl)
