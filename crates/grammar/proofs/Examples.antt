-- The examples, by reading them.
use Rattle.std.proofs.Common.{refl}
use Rattle.grammar.specs.Examples.{Examples}
use Rattle.grammar.proofs.Texts.{text_exact}

pub examples : Examples
examples = (
  text_exact _ _ refl,
  (text_exact _ _ refl, (text_exact _ _ refl, (text_exact _ _ refl, (text_exact _ _ refl, (text_exact _ _ refl, (text_exact _ _ refl, (refl, (refl, (refl, (refl, refl)))))))))),
)
