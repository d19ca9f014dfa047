-- A rule as a text: each word and a blank, and each operand that is no leaf in parentheses.
use Rattle.std.specs.Prelude.{◌≡◌, ℕ, zero, suc, ◌≤◌, min, max, Bool, true, false, cond, List, [], ◌∷◌, ◌++◌, length, Ok, codes, decimal, slice_index_or}
use Rattle.bytecode.specs.declared.argument.Argument.{Argument}
use Rattle.language.specs.Names.{field_names}
use Rattle.language.specs.Reading.{reading}
use Rattle.language.specs.Tree.{Tree, number, truth, name, prefix, binary, choose, bind, size, flatten}
use Rattle.language.specs.declared.operator.Operator.{Operator}
use Rattle.language.specs.declared.operator.Operator.TheVariants.{Or, And, Equal, AtMost, Plus, Times}
use Rattle.language.specs.declared.operator.Prefix.{Prefix as PrefixOperator}
use Rattle.language.specs.declared.operator.Prefix.TheVariants.{Not, Increment}
use Rattle.grammar.specs.Grammar.{Bound}

-- the name of a let that has k lets around it: x0, x1 and so on
abbrev pub let_name : ℕ → List ℕ
let_name k = 120 ∷ decimal k

-- the names of k lets, the innermost first
abbrev pub lets : ℕ → List (List ℕ)
lets zero = []
lets (suc k) = let_name k ∷ lets k

-- the name of a binding under k lets
abbrev pub name_at : ℕ → ℕ → List ℕ
name_at k i = slice_index_or (lets k ++ field_names) i []

abbrev pub number_word : Argument → List ℕ
number_word k = cond k.negative (45 ∷ decimal k.size) (decimal k.size)

abbrev pub truth_word : Bool → List ℕ
truth_word b = cond b (codes "true") (codes "false")

abbrev pub prefix_word : PrefixOperator → List ℕ
prefix_word Not = codes "not"
prefix_word Increment = codes "++"

abbrev pub operator_word : Operator → List ℕ
operator_word Or = codes "||"
operator_word And = codes "&&"
operator_word Equal = codes "="
operator_word AtMost = codes "<="
operator_word Plus = codes "+"
operator_word Times = codes "*"

abbrev pub leaf : Tree → Bool
leaf (number k p) = true
leaf (truth b p) = true
leaf (name i p) = true
leaf (prefix o p t) = false
leaf (binary o p t u) = false
leaf (choose p t u v) = false
leaf (bind p t u) = false

-- a tree's words as an operand: in parentheses unless it is a leaf
abbrev pub enclosed : Bool → List (List ℕ) → List (List ℕ)
enclosed true ws = ws
enclosed false ws = codes "(" ∷ (ws ++ codes ")" ∷ [])

-- the words of a tree under k lets
abbrev pub words : ℕ → Tree → List (List ℕ)
words k (number a p) = number_word a ∷ []
words k (truth b p) = truth_word b ∷ []
words k (name i p) = name_at k i ∷ []
words k (prefix o p t) = prefix_word o ∷ enclosed (leaf t) (words k t)
words k (binary o p t u) = enclosed (leaf t) (words k t) ++ operator_word o ∷ enclosed (leaf u) (words k u)
words k (choose p t u v) =
    codes "if" ∷ (enclosed (leaf t) (words k t) ++ codes "then" ∷ (enclosed (leaf u) (words k u) ++ codes "else" ∷ enclosed (leaf v) (words k v)))
words k (bind p t u) =
    codes "let" ∷ let_name k ∷ codes "=" ∷ (enclosed (leaf t) (words k t) ++ codes "in" ∷ enclosed (leaf u) (words (suc k) u))

-- a blank behind each word
abbrev pub line : List (List ℕ) → List ℕ
line [] = []
line (w ∷ ws) = w ++ 32 ∷ line ws

abbrev pub printed : Tree → List ℕ
printed t = line (words 0 t)

-- how many parentheses, ifs, lets and prefixes of the text are in one another
abbrev pub around : Bool → ℕ → ℕ
around true n = n
around false n = suc n

abbrev pub nested : Tree → ℕ
nested (number a p) = 0
nested (truth b p) = 0
nested (name i p) = 0
nested (prefix o p t) = suc (around (leaf t) (nested t))
nested (binary o p t u) = max (around (leaf t) (nested t)) (around (leaf u) (nested u))
nested (choose p t u v) =
    suc (max (around (leaf t) (nested t)) (max (around (leaf u) (nested u)) (around (leaf v) (nested v))))
nested (bind p t u) = suc (max (around (leaf t) (nested t)) (around (leaf u) (nested u)))

-- each constant is from -255 to 255
abbrev pub Small : Tree → Type 0
Small (number a p) = a.size ≤ 255
Small (truth b p) = Unit {0}
Small (name i p) = Unit {0}
Small (prefix o p t) = Small t
Small (binary o p t u) = Small t × Small u
Small (choose p t u v) = Small t × (Small u × Small v)
Small (bind p t u) = Small t × Small u

-- a tree with no places
abbrev pub unplaced : Tree → Tree
unplaced (number a p) = number a 0
unplaced (truth b p) = truth b 0
unplaced (name i p) = name i 0
unplaced (prefix o p t) = prefix o 0 (unplaced t)
unplaced (binary o p t u) = binary o 0 (unplaced t) (unplaced u)
unplaced (choose p t u v) = choose 0 (unplaced t) (unplaced u) (unplaced v)
unplaced (bind p t u) = bind 0 (unplaced t) (unplaced u)

-- a tree whose text is no longer, and no deeper, than a rule may be
pub record Printable (room : ℕ) (t : Tree) : Type 0 where
  pub bound : Bound 8 t
  pub small : Small t
  pub short : length (printed t) ≤ 4096
  pub shallow : nested t ≤ 64
  pub fits : size t ≤ min room 512

-- the text of a tree is read as that tree, but for the places
pub record Back (room : ℕ) (t : Tree) : Type 0 where
  pub tree : Tree
  pub same : unplaced tree ≡ unplaced t
  pub read : reading room (printed t) ≡ Ok (flatten tree)

abbrev pub ReadsBack : Type 0
ReadsBack = (room : ℕ) (t : Tree) → Printable room t → Back room t

-- trees with one text are one tree, but for the places
abbrev pub Distinct : Type 0
Distinct = (room : ℕ) (t u : Tree) → Printable room t → Printable room u → printed t ≡ printed u → unplaced t ≡ unplaced u
