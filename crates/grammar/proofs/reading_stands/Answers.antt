use Rattle.grammar.proofs.Texts.{reading_sound, reading_complete}
use Rattle.grammar.proofs.reading_stands.Goals as goal

pub returns : goal.returns
returns c = record { sound = reading_sound; complete = reading_complete }
