-- What is read, judged and translated is built.
use Rattle.std.proofs.Common.{◌≡◌, ℕ, ◌-◌, ◌≤◌, List, length, take, drop, Some, Ok, Err, Result, arith}
use Rattle.std.proofs.lemmas.List.{take_at}
use Rattle.bytecode.specs.declared.instruction.Word.{Word}
use Rattle.refusal.specs.declared.Refusal.{Refusal}
use Rattle.compiler.specs.declared.card.Card.{Card}
use Rattle.grammar.proofs.Texts.{reading_sound}
use Rattle.grammar.specs.Formed.{Formed}
use Rattle.language.specs.Reading.{reading, answer, leaves}
use Rattle.language.specs.Tree.{Tree, flatten}
use Rattle.language.specs.declared.entry.Entry.{Entry}
use Rattle.building.specs.Built.{Built}
use Rattle.building.specs.Rules.{tree_in, unfit, refused_in}
use Rattle.building.proofs.Trees.{tree_is}

-- what a reading that answers n leaves as the first n entries of the table
pub record Took (entries : ℕ) (text : List ℕ) (part : List Entry) : Type 0 where
  pub was : reading entries text ≡ Ok part
  pub few : length part ≤ 512
  pub formed : Formed part

pub part_of : (R : Result (List Entry) Refusal) (old new : List Entry) (r : Result ℕ Refusal) (n : ℕ) → r ≡ answer R → new ≡ leaves old R → r ≡ Ok n → R ≡ Ok (take (n - 0) new)
part_of (Ok es) old new r n a l was =
    let same : n ≡ length es = cc in
    simp (l, take_at es (drop (length es) old) (n - 0) (omega arith))
part_of (Err e) old new r n a l was = cc

pub took : (text : List ℕ) (old new : List Entry) (r : Result ℕ Refusal) (n : ℕ) →
    r ≡ answer (reading (length old) text) → new ≡ leaves old (reading (length old) text) → r ≡ Ok n → Took (length old) text (take (n - 0) new)
took text old new r n a l is =
    let was = part_of (reading (length old) text) old new r n a l is in
    let sound = reading_sound (length old) text _ was in
    let p = sound.parsed in
    record { was = was; few = omega (arith, sound.fits); formed = record { tree = p.tree; table = p.table; bound = p.bound } }

-- a text that is read as the table of a tree
pub built_read : (R : Result (List Entry) Refusal) (room : ℕ) (es : List Entry) (t : Tree) (r : Result Card Refusal) (before after : List Word) →
    R ≡ Ok es → es ≡ flatten t → Built (unfit room t) (Some t) r before after → Built (refused_in room R) (tree_in R) r before after
built_read R room es t r before after was table b = rw (was, tree_is t es table) b
