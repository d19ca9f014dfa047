use Rattle.effects.proofs.Lengths.{short}
use Rattle.effects.proofs.translations_are_short.Goals as goal

pub returns : goal.returns
returns c = short
