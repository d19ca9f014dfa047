-- What is built and listed is planned.
use Rattle.std.proofs.Common.{◌≡◌, ℕ, ◌≤◌, min, List, length, Some, None, Ok, Err, Option, Result, sym, refl, ap, ◌∙◌, subst, arith}
use Rattle.std.proofs.lemmas.Result.{err_from_is_err_and}
use Rattle.std.specs.Result.{IsErrAnd}
use Rattle.refusal.specs.declared.Refusal.{Refusal}
use Rattle.refusal.specs.declared.Refusal.TheVariants.{IllTyped}
use Rattle.bytecode.specs.declared.instruction.Word.{Word}
use Rattle.building.proofs.Trees.{tree_is}
use Rattle.building.specs.Built.{Built}
use Rattle.building.specs.Rules.{rule_of, unfit_by, unfit, unfit_in, refused_in, tree_in, refusal_for}
use Rattle.compiler.specs.Cards.{Tells}
use Rattle.compiler.specs.declared.card.Card.{Card}
use Rattle.grammar.proofs.Texts.{reading_complete}
use Rattle.grammar.specs.Laws.{Means}
use Rattle.language.specs.Code.{refusal_of}
use Rattle.language.specs.Tree.{Tree, size, flatten}
use Rattle.language.specs.Typing.{type_of}
use Rattle.language.specs.declared.operator.ValueType.{ValueType}
use Rattle.listing.specs.Lines.{listing}
use Rattle.listing.specs.Output.{answer_of}
use Rattle.memory.specs.Flat.{room_in}
use Rattle.typing.specs.Judged.{judged}
use Rattle.planning.specs.Plans.{Listed, Coded, Typed, Planned}
use Rattle.planning.specs.declared.told.Plan.{Plan}

-- what is built of a text is built of the tree that it stands for
built_of : (room entries : ℕ) (text : List ℕ) (t : Tree) (r : Result Card Refusal) (before after : List Word) → Means text t → length text ≤ 4096 → size t ≤ min entries 512 →
    Built (refusal_for room entries text) (rule_of entries text) r before after → Built (unfit room t) (Some t) r before after
built_of room entries text t r before after means short fits b =
    let e = reading_complete entries text t means short fits in
    let k = tree_is t (flatten t) refl in
    subst (λ (o : Option Tree). Built (unfit_in room o) o r before after) k (subst (λ x. Built (refused_in room x) (tree_in x) r before after) e b)

-- the plan of a card whose listing answers so
abbrev pub Follows : Result ℕ Refusal → Card → Result Plan Refusal → Type 0
Follows (Ok n) card r = r ≡ Ok (record { card = card; listing = n })
Follows (Err e) card r = r ≡ Err e

module _ (limit : ℕ) (t : Tree) (before after : List Word) where
  -- a refusal is passed on
  coded_refused : (o : Option Refusal) (a : ValueType) (e : Refusal) (r : Result Plan Refusal) → Built o (Some t) (Err e) before after → r ≡ Err e → Coded o limit a t r
  coded_refused None a e r b is = elim b [ ]
  coded_refused (Some d) a e r b is = let h : ◌≡◌ {A = Result Card Refusal} (Err e) (Err d) = b.0 in cc

  typed_refused : (x : Result ValueType ℕ) (room : ℕ) (e : Refusal) (r : Result Plan Refusal) → Built (unfit_by x room t) (Some t) (Err e) before after → r ≡ Err e → Typed (judged x) room limit t r
  typed_refused (Ok a) room e r b is = coded_refused (refusal_of room t) a e r b is
  typed_refused (Err p) room e r b is = let h : ◌≡◌ {A = Result Card Refusal} (Err e) (Err (IllTyped p)) = b.0 in cc

  -- a card is followed by what the listing of the code answers
  listed_told : (l : Result ℕ Refusal) (a : ValueType) (card : Card) (r : Result Plan Refusal) → Tells a t card → Follows l card r → Listed l a t r
  listed_told (Ok n) a card r tells f = subst (λ x. Listed (Ok n) a t x) (sym f) (tells, refl)
  listed_told (Err e) a card r tells f = f

  coded_listed : (o : Option Refusal) (a : ValueType) (card : Card) (r : Result Plan Refusal) → type_of t ≡ Ok a → Built o (Some t) (Ok card) before after →
      Follows (answer_of (listing 0 after) limit) card r → Coded o limit a t r
  coded_listed None a card r typed b f =
      let same : card.gives ≡ a = let h = sym b.describes.gives ∙ typed in cc in
      let tells : Tells a t card = record { gives = same; length = b.describes.length; height = b.describes.height } in
      listed_told _ a card r tells (subst (λ x. Follows (answer_of (listing 0 x) limit) card r) b.code f)
  coded_listed (Some d) a card r typed b f = let h : ◌≡◌ {A = Result Card Refusal} (Ok card) (Err d) = b.0 in let z : ◌≡◌ {A = ℕ} 0 1 = cc in absurd (omega arith)

  typed_listed : (x : Result ValueType ℕ) (room : ℕ) (card : Card) (r : Result Plan Refusal) → type_of t ≡ x → Built (unfit_by x room t) (Some t) (Ok card) before after →
      Follows (answer_of (listing 0 after) limit) card r → Typed (judged x) room limit t r
  typed_listed (Ok a) room card r typed b f = coded_listed (refusal_of room t) a card r typed b f
  typed_listed (Err p) room card r typed b f = let h : ◌≡◌ {A = Result Card Refusal} (Ok card) (Err (IllTyped p)) = b.0 in let z : ◌≡◌ {A = ℕ} 0 1 = cc in absurd (omega arith)

module _ (bytes was : List ℕ) (entries limit : ℕ) (text : List ℕ) (t : Tree) (r : Result Plan Refusal) (before after : List Word)
    (means : Means text t) (short : length text ≤ 4096) (fits : size t ≤ min entries 512) (same : bytes ≡ was) where
  pub planned_refused : (e : Refusal) → Built (refusal_for (room_in bytes) entries text) (rule_of entries text) (Err e) before after → IsErrAnd r (λ x. x ≡ e) → Planned (room_in was) limit t r
  planned_refused e b is =
      let p = err_from_is_err_and r is in
      subst (λ x. Planned (room_in x) limit t r) same
      (typed_refused limit t before after (type_of t) (room_in bytes) e r (built_of (room_in bytes) entries text t _ before after means short fits b) (p.1 ∙ ap Err p.2))

  pub planned_listed : (card : Card) → Built (refusal_for (room_in bytes) entries text) (rule_of entries text) (Ok card) before after → Follows (answer_of (listing 0 after) limit) card r → Planned (room_in was) limit t r
  planned_listed card b f =
      subst (λ x. Planned (room_in x) limit t r) same
      (typed_listed limit t before after (type_of t) (room_in bytes) card r refl (built_of (room_in bytes) entries text t _ before after means short fits b) f)
