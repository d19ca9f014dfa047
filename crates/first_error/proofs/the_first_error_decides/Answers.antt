use Rattle.first_error.proofs.Decided.{placed, decides, reading_decides}
use Rattle.first_error.proofs.the_first_error_decides.Goals as goal

pub returns : goal.returns
returns c = record { placed = placed; text = decides; reading = reading_decides }
