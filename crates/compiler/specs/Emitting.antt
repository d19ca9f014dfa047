-- Words added to a code memory.
use Rattle.std.specs.Prelude.{◌≡◌, ℕ, ◌+◌, ◌≤◌, List, ◌++◌, map, length, None, Ok, Result}
use Rattle.refusal.specs.declared.Refusal.{Refusal}
use Rattle.bytecode.specs.Words.{written}
use Rattle.bytecode.specs.declared.instruction.Word.{Word}
use Rattle.language.specs.Code.{Slot, code, tall, wide}
use Rattle.language.specs.Tree.{Tree, flatten}
use Rattle.language.specs.declared.entry.Entry.{Entry}
use Rattle.compiler.specs.Layouts.{spots_of}

-- the words are added, where there is room for all of them
abbrev pub Adds : ℕ → Result (Unit {0}) Refusal → List Word → List Word → List Word → Type 0
Adds room r before after words = length before + length words ≤ room → (r ≡ Ok tt) × (after ≡ before ++ words)

-- the code of the table's tree is added, where it is not too high and no branch is too long; the bindings stand at
-- these spots of a stack of this height
abbrev pub Emits : List Entry → List ℕ → ℕ → ℕ → Result (Unit {0}) Refusal → List Word → List Word → Type 0
Emits es spots high room r before after =
    (t : Tree) (s : List Slot) → es ≡ flatten t → spots_of s ≡ spots → length s ≡ high → high + tall t ≤ 128 → wide t ≡ None →
    Adds room r before after (map written (code s t))
