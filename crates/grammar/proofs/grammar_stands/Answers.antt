use Rattle.grammar.proofs.Bounds.{closed}
use Rattle.grammar.proofs.Sounds.{sound}
use Rattle.grammar.proofs.Completes.{complete}
use Rattle.grammar.proofs.Texts.{unambiguous}
use Rattle.grammar.proofs.grammar_stands.Goals as goal

pub returns : goal.returns
returns c = record { sound = sound; complete = complete; unambiguous = unambiguous; closed = closed }
