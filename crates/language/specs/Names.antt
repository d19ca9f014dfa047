-- Which binding a name stands for.
use Rattle.std.specs.Prelude.{ℕ, ◌+◌, cond, List, [], ◌∷◌, ◌++◌, Some, None, codes, Option}
use Rattle.std.specs.Option.{option_map}
use Rattle.std.specs.Str.{bytes_eq}

-- the eight fields of a parcel, which stand outside all lets, the innermost first
abbrev pub field_names : List (List ℕ)
field_names =
    codes "weight" ∷ codes "length" ∷ codes "width" ∷ codes "height" ∷ codes "depot" ∷ codes "class" ∷ codes "belt" ∷ codes "ahead" ∷ []

-- the first place at which a name stands in a list
abbrev pub find : List ℕ → List (List ℕ) → Option ℕ
find x [] = None
find x (y ∷ ys) = cond (bytes_eq y x) (Some 0) (option_map (λ n. n + 1) (find x ys))

-- the position of a name under the lets in scope, the innermost first
abbrev pub position : List ℕ → List (List ℕ) → Option ℕ
position x scope = find x (scope ++ field_names)
