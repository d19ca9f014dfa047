use Rattle.effects.proofs.Fed.{is_fed}
use Rattle.effects.proofs.translations_are_fed.Goals as goal

pub returns : goal.returns
returns c = is_fed
