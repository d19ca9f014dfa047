-- The grammar of rules: which tokens have which tree.
use Rattle.std.specs.Prelude.{◌≡◌, ℕ, suc, ◌+◌, ◌<◌, Bool, cond, List, [], ◌∷◌, ◌++◌, Some}
use Rattle.bytecode.specs.declared.argument.Argument.{Argument}
use Rattle.language.specs.Operators.{row_of}
use Rattle.language.specs.Tokens.{Lexeme}
use Rattle.language.specs.Names.{position}
use Rattle.language.specs.Tree.{Tree, number, truth, name, prefix, binary, choose, bind}
use Rattle.language.specs.declared.operator.Operator.{Operator}
use Rattle.language.specs.declared.operator.Operator.TheVariants.{Equal}
use Rattle.language.specs.declared.operator.Prefix.{Prefix as PrefixOperator}
use Rattle.language.specs.declared.token.TokenKind.TheVariants.{Number, Truth, Name, Binary, Prefix, If, Then, Else, Let, In, Open, Close}

-- how tightly an operator binds
abbrev pub level : Operator → ℕ
level o = (row_of o).level

-- the level of its left operand: its own if it repeats, and then it groups to the left, else the next tighter one
abbrev pub left_level : Operator → ℕ
left_level o = cond (row_of o).repeats (level o) (suc (level o))

-- Derives k g d ts t: the tokens ts have the tree t at the level k, under the names g of the lets around them, the
-- innermost first, with at most d parentheses, ifs, lets and prefixes in one another. The levels: 0 is a whole
-- expression, 1 to 5 are those of the operators, and 6 is an operand.
pub data Derives : ℕ → List (List ℕ) → ℕ → List Lexeme → Tree → Type 0 where
  constant : {g : List (List ℕ)} {d : ℕ} (x : Lexeme) {k : Argument} → x.kind ≡ Number k → Derives 6 g d (x ∷ []) (number k x.place)
  truth_value : {g : List (List ℕ)} {d : ℕ} (x : Lexeme) {b : Bool} → x.kind ≡ Truth b → Derives 6 g d (x ∷ []) (truth b x.place)
  named : {g : List (List ℕ)} {d : ℕ} (x : Lexeme) {i : ℕ} → x.kind ≡ Name → position x.text g ≡ Some i → Derives 6 g d (x ∷ []) (name i x.place)
  parens : {g : List (List ℕ)} {d : ℕ} (x y : Lexeme) {ts : List Lexeme} {t : Tree} →
      x.kind ≡ Open → Derives 0 g d ts t → y.kind ≡ Close → Derives 6 g (suc d) (x ∷ (ts ++ y ∷ [])) t
  prefixed : {g : List (List ℕ)} {d : ℕ} (x : Lexeme) {ts : List Lexeme} {t : Tree} (o : PrefixOperator) →
      x.kind ≡ Prefix o → Derives 6 g d ts t → Derives 6 g (suc d) (x ∷ ts) (prefix o x.place t)
  join : {g : List (List ℕ)} {d : ℕ} (x : Lexeme) {ts us : List Lexeme} {t u : Tree} (o : Operator) →
      Derives (left_level o) g d ts t → x.kind ≡ Binary o → Derives (suc (level o)) g d us u →
      Derives (level o) g d (ts ++ x ∷ us) (binary o x.place t u)
  if_else : {g : List (List ℕ)} {d : ℕ} (x y z : Lexeme) {ts us vs : List Lexeme} {t u v : Tree} →
      x.kind ≡ If → Derives 0 g d ts t → y.kind ≡ Then → Derives 0 g d us u → z.kind ≡ Else → Derives 0 g d vs v →
      Derives 0 g (suc d) (x ∷ (ts ++ y ∷ (us ++ z ∷ vs))) (choose x.place t u v)
  let_in : {g : List (List ℕ)} {d : ℕ} (x n e y : Lexeme) {ts us : List Lexeme} {t u : Tree} →
      x.kind ≡ Let → n.kind ≡ Name → e.kind ≡ Binary Equal → Derives 0 g d ts t → y.kind ≡ In → Derives 0 (n.text ∷ g) d us u →
      Derives 0 g (suc d) (x ∷ n ∷ e ∷ (ts ++ y ∷ us)) (bind x.place t u)
  tighter : {k : ℕ} {g : List (List ℕ)} {d : ℕ} {ts : List Lexeme} {t : Tree} → Derives (suc k) g d ts t → Derives k g d ts t

-- a rule is a whole expression under no lets, with at most 64 in one another
abbrev pub Rule : List Lexeme → Tree → Type 0
Rule ts t = Derives 0 [] 64 ts t

-- each name has one of the n bindings around it, or of the lets of the tree
abbrev pub Bound : ℕ → Tree → Type 0
Bound n (number k p) = Unit {0}
Bound n (truth b p) = Unit {0}
Bound n (name k p) = k < n
Bound n (prefix o p t) = Bound n t
Bound n (binary o p t u) = Bound n t × Bound n u
Bound n (choose p t u v) = Bound n t × (Bound n u × Bound n v)
Bound n (bind p t u) = Bound n t × Bound (n + 1) u
