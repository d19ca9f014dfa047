-- How many entries and how many words a tree has.
use Rattle.std.proofs.Common.{◌≡◌, ◌+◌, ◌≤◌, List, ◌∷◌, length, refl, arith, length-append}
use Rattle.language.specs.Code.{Slot, bound, waiting, code, long}
use Rattle.language.specs.Tree.{Tree, number, truth, name, prefix, binary, choose, bind, size, flatten}

-- a table has as many entries as its tree has nodes
pub length-flatten : (t : Tree) → length (flatten t) ≡ size t
length-flatten (prefix o p t) = simp (length-append, length-flatten t) (omega arith)
length-flatten (binary o p t u) = simp (length-append, length-flatten t, length-flatten u) (omega arith)
length-flatten (choose p t u v) = simp (length-append, length-flatten t, length-flatten u, length-flatten v) (omega arith)
length-flatten (bind p t u) = simp (length-append, length-flatten t, length-flatten u) (omega arith)
length-flatten _ = refl

-- a tree has as many words as are counted, and at least one
pub length-code : (s : List Slot) (t : Tree) → length (code s t) ≡ long t
length-code s (prefix o p t) = simp (length-append, length-code s t) (omega arith)
length-code s (binary o p t u) = simp (length-append, length-code s t, length-code (waiting ∷ s) u) (omega arith)
length-code s (choose p t u v) = simp (length-append, length-code s t, length-code s u, length-code s v) (omega arith)
length-code s (bind p t u) = simp (length-append, length-code s t, length-code (bound ∷ s) u) (omega arith)
length-code s _ = refl

pub long_some : (t : Tree) → 1 ≤ long t
long_some (number k p) = omega arith
long_some (truth b p) = omega arith
long_some (name k p) = omega arith
long_some (prefix o p t) = omega arith
long_some (binary o p t u) = omega arith
long_some (choose p t u v) = omega arith
long_some (bind p t u) = omega arith
