-- What a translation tells of a rule.
use Rattle.std.specs.Prelude.{◌≡◌, Some, None, Err, Option, Result, MatchResult}
use Rattle.refusal.specs.declared.Refusal.{Refusal}
use Rattle.language.specs.Code.{long, height}
use Rattle.language.specs.Tree.{Tree}
use Rattle.language.specs.declared.operator.ValueType.{ValueType}
use Rattle.compiler.specs.declared.card.Card.{Card}

-- the card of a rule of that type
pub record Tells (a : ValueType) (t : Tree) (c : Card) : Type 0 where
  pub gives : c.gives ≡ a
  pub length : c.length ≡ long t
  pub height : c.height ≡ height t

-- the card, unless there is a refusal
abbrev pub Answers : Option Refusal → ValueType → Tree → Result Card Refusal → Type 0
Answers None a t r = MatchResult r (Tells a t) (λ e. ⊥)
Answers (Some e) a t r = r ≡ Err e
