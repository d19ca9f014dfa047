use Rattle.grammar.proofs.Texts.{text_sound, text_exact, text_complete, text_unambiguous, text_refused}
use Rattle.grammar.proofs.texts_stand.Goals as goal

pub returns : goal.returns
returns c = record { sound = text_sound; exact = text_exact; complete = text_complete; unambiguous = text_unambiguous; refused = text_refused }
