-- The first place at which a name stands, counted from a number on.
use Rattle.std.proofs.Common.{◌≡◌, ℕ, ◌+◌, cond, List, [], ◌∷◌, map, Some, None, Option, length, ltb, refl, ◌∙◌, arith, Bor}
use Rattle.std.proofs.lemmas.Iterator.Adapters.{position_from-zero}
use Rattle.std.specs.List.{position_from, position_or_len}
use Rattle.std.specs.Option.{option_map}
use Rattle.std.specs.Str.{bytes_eq}
use Rattle.language.specs.Names.{find}

map_twice : (n : ℕ) (o : Option ℕ) → option_map (λ k. k + (n + 1)) o ≡ option_map (λ k. k + n) (option_map (λ k. k + 1) o)
map_twice n o = grind arith

named_from : (x : List ℕ) (ys : List (Bor (List ℕ))) (n : ℕ) →
    position_from (λ (y : Bor (List ℕ)). bytes_eq y.now x) n ys ≡ option_map (λ k. k + n) (find x (map (λ (y : Bor (List ℕ)). y.now) ys))
named_from x [] n = refl
named_from x (y ∷ ys) n =
    let rest = named_from x ys (n + 1) ∙ map_twice n (find x (map (λ (y : Bor (List ℕ)). y.now) ys)) in
    grind arith

from_zero : (o : Option ℕ) → option_map (λ k. k + 0) o ≡ o
from_zero o = grind arith

pub named : (x : List ℕ) (ys : List (Bor (List ℕ))) (r : Option ℕ) →
    (let n = position_or_len (λ (y : Bor (List ℕ)). bytes_eq y.now x) ys in r ≡ cond (ltb n (length ys)) (Some n) None) → r ≡ find x (map (λ (y : Bor (List ℕ)). y.now) ys)
named x ys r e =
    e ∙ (position_from-zero (λ (y : Bor (List ℕ)). bytes_eq y.now x) ys
    ∙ (named_from x ys 0 ∙ from_zero (find x (map (λ (y : Bor (List ℕ)). y.now) ys))))
