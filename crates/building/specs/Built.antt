-- What building a rule answers, and what it leaves in the memory.
use Rattle.std.specs.Prelude.{◌≡◌, ℕ, List, map, Some, None, Ok, Err, Option, Result, MatchOption, MatchResult}
use Rattle.bytecode.specs.Words.{written}
use Rattle.bytecode.specs.declared.instruction.Word.{Word}
use Rattle.refusal.specs.declared.Refusal.{Refusal}
use Rattle.compiler.specs.declared.card.Card.{Card}
use Rattle.grammar.specs.Laws.{Means}
use Rattle.language.specs.Code.{long, height, translation}
use Rattle.language.specs.Tree.{Tree}
use Rattle.language.specs.Typing.{type_of}
use Rattle.building.specs.Rules.{rule_of}

-- a card is the rule's
pub record Describes (t : Tree) (card : Card) : Type 0 where
  pub gives : type_of t ≡ Ok card.gives
  pub length : card.length ≡ long t
  pub height : card.height ≡ height t

-- a card and a memory's words are the rule's
pub record Carries (t : Tree) (card : Card) (words : List Word) : Type 0 where
  pub describes : Describes t card
  pub code : words ≡ map written (translation t)

-- The refusal, and the words as they were; or the card and the words of the rule.
abbrev pub Built : Option Refusal → Option Tree → Result Card Refusal → List Word → List Word → Type 0
Built (Some e) rule r before after = (r ≡ Err e) × (after ≡ before)
Built None rule r before after = MatchResult r (λ card. MatchOption rule ⊥ (λ t. Carries t card after)) (λ e. ⊥)

-- the rule of a text is the tree that the grammar gives the text
abbrev pub Stands : Type 0
Stands = (entries : ℕ) (text : List ℕ) (t : Tree) → rule_of entries text ≡ Some t → Means text t
