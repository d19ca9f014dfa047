-- Each name of a derived tree is bound.
use Rattle.std.proofs.Common.{◌≡◌, ℕ, ◌+◌, ◌<◌, List, [], ◌∷◌, ◌++◌, length, Some, refl, arith, length-append}
use Rattle.std.proofs.lemmas.Option.{gets}
use Rattle.language.specs.Names.{find, field_names}
use Rattle.language.specs.Tokens.{Lexeme}
use Rattle.language.specs.Tree.{Tree}
use Rattle.grammar.specs.Grammar.{Derives, constant, truth_value, named, parens, prefixed, join, if_else, let_in, tighter, Bound}
use Rattle.grammar.specs.Laws.{Closed}

find_below : (x : List ℕ) (ys : List (List ℕ)) (i : ℕ) → find x ys ≡ Some i → i < length ys
find_below x [] i e = cc
find_below x (y ∷ ys) i e = grind (arith, gets, find_below x ys)

pub bound : {k : ℕ} {g : List (List ℕ)} {d : ℕ} {ts : List Lexeme} {t : Tree} → Derives k g d ts t → (n : ℕ) → n ≡ length g + 8 → Bound n t
bound (constant x e) n h = tt
bound (truth_value x e) n h = tt
bound (named {g} x {i} e f) n h = let l = find_below x.text (g ++ field_names) i f in omega (arith, length-append g field_names)
bound (parens x y e r f) n h = bound r n h
bound (prefixed x o e r) n h = bound r n h
bound (join x o r e q) n h = (bound r n h, bound q n h)
bound (if_else x y z e r f q k w) n h = (bound r n h, (bound q n h, bound w n h))
bound (let_in x m e y i j k r l q) n h = (bound r n h, bound q (n + 1) (omega arith))
bound (tighter r) n h = bound r n h

pub closed : Closed
closed ts t r = bound r 8 refl
