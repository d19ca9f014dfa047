use Rattle.records.proofs.Followed.{append_moves, clear_moves}
use Rattle.records.proofs.laws.chains_move.Goals as goal

pub returns : goal.returns
returns c = record { append = append_moves; clear = clear_moves }
