use Rattle.effects.proofs.Reached.{reaches}
use Rattle.effects.proofs.translations_reach_their_height.Goals as goal

pub returns : goal.returns
returns c = reaches
