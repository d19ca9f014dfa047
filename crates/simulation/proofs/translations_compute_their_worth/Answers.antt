use Rattle.simulation.proofs.Calls.{answers}
use Rattle.simulation.proofs.Laws.{computes}
use Rattle.simulation.proofs.translations_compute_their_worth.Goals as goal

pub returns : goal.returns
returns g c = record { ends = λ ops. computes ops; answers = λ ops. answers ops }
