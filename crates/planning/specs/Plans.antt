-- What is told of a rule, or why there is nothing to tell.
use Rattle.std.specs.Prelude.{◌≡◌, ℕ, List, map, Some, None, Ok, Err, Option, Result, MatchResult}
use Rattle.refusal.specs.declared.Refusal.{Refusal}
use Rattle.bytecode.specs.Words.{written}
use Rattle.compiler.specs.Cards.{Tells}
use Rattle.language.specs.Code.{translation, refusal_of}
use Rattle.language.specs.Tree.{Tree}
use Rattle.language.specs.Typing.{type_of}
use Rattle.language.specs.declared.operator.ValueType.{ValueType}
use Rattle.listing.specs.Lines.{listing}
use Rattle.listing.specs.Output.{answer_of}
use Rattle.typing.specs.Judged.{judged}
use Rattle.planning.specs.declared.told.Plan.{Plan}

-- the text of the rule's code
abbrev pub listed : Tree → Result (List ℕ) Refusal
listed t = listing 0 (map written (translation t))

abbrev pub Listed : Result ℕ Refusal → ValueType → Tree → Result Plan Refusal → Type 0
Listed (Ok n) a t r = MatchResult r (λ p. Tells a t p.card × (p.listing ≡ n)) (λ e. ⊥)
Listed (Err e) a t r = r ≡ Err e

abbrev pub Coded : Option Refusal → ℕ → ValueType → Tree → Result Plan Refusal → Type 0
Coded (Some e) limit a t r = r ≡ Err e
Coded None limit a t r = Listed (answer_of (listed t) limit) a t r

abbrev pub Typed : Result ValueType Refusal → ℕ → ℕ → Tree → Result Plan Refusal → Type 0
Typed (Ok a) room limit t r = Coded (refusal_of room t) limit a t r
Typed (Err e) room limit t r = r ≡ Err e

-- judged, then translated into a memory with that room, then listed in so many bytes
abbrev pub Planned : ℕ → ℕ → Tree → Result Plan Refusal → Type 0
Planned room limit t r = Typed (judged (type_of t)) room limit t r
