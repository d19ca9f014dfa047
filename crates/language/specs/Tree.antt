-- A rule as a tree, and the table that holds it in post-order. Each node has its place in the text.
use Rattle.std.specs.Prelude.{ℕ, ◌+◌, Bool, cond, List, [], ◌∷◌, ◌++◌}
use Rattle.bytecode.specs.Words.{plus}
use Rattle.bytecode.specs.declared.argument.Argument.{Argument}
use Rattle.language.specs.declared.entry.Entry.{Entry}
use Rattle.language.specs.declared.entry.Kind.{Kind}
use Rattle.language.specs.declared.entry.Kind.TheVariants.{Blank, Number, Truth, Name, Prefix, Binary, If, Let}
use Rattle.language.specs.declared.operator.Operator.{Operator}
use Rattle.language.specs.declared.operator.Prefix.{Prefix as PrefixOperator}

-- a name is the position of its binding, 0 being the innermost
pub data Tree : Type 0 where
  number : Argument → ℕ → Tree
  truth : Bool → ℕ → Tree
  name : ℕ → ℕ → Tree
  prefix : PrefixOperator → ℕ → Tree → Tree
  binary : Operator → ℕ → Tree → Tree → Tree
  choose : ℕ → Tree → Tree → Tree → Tree
  bind : ℕ → Tree → Tree → Tree

abbrev pub size : Tree → ℕ
size (number k p) = 1
size (truth b p) = 1
size (name k p) = 1
size (prefix o p t) = size t + 1
size (binary o p t u) = size t + size u + 1
size (choose p t u v) = size t + size u + size v + 1
size (bind p t u) = size t + size u + 1

abbrev pub entry : Kind → Argument → ℕ → ℕ → Entry
entry k n s p = record { kind = k; number = n; size = s; place = p }

-- all zero
abbrev pub blank : Entry
blank = entry Blank (plus 0) 0 0

abbrev pub flatten : Tree → List Entry
flatten (number k p) = entry Number k 1 p ∷ []
flatten (truth b p) = entry Truth (plus (cond b 1 0)) 1 p ∷ []
flatten (name k p) = entry Name (plus k) 1 p ∷ []
flatten (prefix o p t) = flatten t ++ entry (Prefix o) (plus 0) (size t + 1) p ∷ []
flatten (binary o p t u) = flatten t ++ (flatten u ++ entry (Binary o) (plus 0) (size t + size u + 1) p ∷ [])
flatten (choose p t u v) = flatten t ++ (flatten u ++ (flatten v ++ entry If (plus 0) (size t + size u + size v + 1) p ∷ []))
flatten (bind p t u) = flatten t ++ (flatten u ++ entry Let (plus 0) (size t + size u + 1) p ∷ [])
