-- Where on the stack the bindings stand.
use Rattle.std.specs.Prelude.{ℕ, List, [], ◌∷◌, length}
use Rattle.language.specs.Code.{Slot, bound, waiting}

-- for each binding, the innermost first, how many words stand below its own
abbrev pub spots_of : List Slot → List ℕ
spots_of [] = []
spots_of (waiting ∷ s) = spots_of s
spots_of (bound ∷ s) = length s ∷ spots_of s
