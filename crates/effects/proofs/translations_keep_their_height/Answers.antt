use Rattle.effects.proofs.Heights.{keeps, ahead, brief}
use Rattle.effects.proofs.Onward.{goes_on}
use Rattle.effects.proofs.translations_keep_their_height.Goals as goal

pub returns : goal.returns
returns c = record { height = keeps; ahead = ahead; brief = brief; on = goes_on }
