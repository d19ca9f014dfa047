-- The table of a tree is read back as that tree.
use Rattle.std.proofs.Common.{◌≡◌, ℕ, true, false, List, ◌∷◌, ◌++◌, Some, Ok, Err, Result, refl, append_assoc, append-nil}
use Rattle.refusal.specs.declared.Refusal.{Refusal}
use Rattle.grammar.proofs.Texts.{reading_sound}
use Rattle.grammar.specs.Laws.{Means}
use Rattle.language.specs.Reading.{reading}
use Rattle.language.specs.Tree.{Tree, number, truth, name, prefix, binary, choose, bind, flatten}
use Rattle.language.specs.declared.entry.Entry.{Entry}
use Rattle.building.specs.Built.{Stands}
use Rattle.building.specs.Rules.{trees_of, tree_in}

-- the trees of the table of t, and of what follows it
regrown : (t : Tree) (ts : List Tree) (es : List Entry) → trees_of ts (flatten t ++ es) ≡ trees_of (t ∷ ts) es
regrown (number k p) ts es = refl
regrown (truth true p) ts es = refl
regrown (truth false p) ts es = refl
regrown (name k p) ts es = refl
regrown (prefix o p t) ts es = simp (append_assoc, regrown t)
regrown (binary o p t u) ts es = simp (append_assoc, regrown t, regrown u)
regrown (choose p t u v) ts es = simp (append_assoc, regrown t, regrown u, regrown v)
regrown (bind p t u) ts es = simp (append_assoc, regrown t, regrown u)

-- what was read as the table of a tree is that tree
pub tree_is : (t : Tree) (es : List Entry) → es ≡ flatten t → tree_in (Ok es) ≡ Some t
tree_is t es e = rw (e, ← append-nil (flatten t), regrown)

stands : (entries : ℕ) (text : List ℕ) (r : Result (List Entry) Refusal) → reading entries text ≡ r → (t : Tree) → tree_in r ≡ Some t → Means text t
stands entries text (Err d) h t e = absurd cc
stands entries text (Ok es) h t e =
    let p = (reading_sound entries text es h).parsed in
    let same : p.tree ≡ t = let f = tree_is p.tree es p.table in cc in
    rw (← same) p.means

pub rules_stand : Stands
rules_stand entries text t e = stands entries text (reading entries text) refl t e
