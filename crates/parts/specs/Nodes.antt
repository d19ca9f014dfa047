-- The root of a tree, as its table shows it.
use Rattle.std.specs.Prelude.{◌≡◌, ℕ, ◌+◌, ◌-◌, ◌<◌, Bool, cond, List, ◌++◌, length, take}
use Rattle.bytecode.specs.Words.{plus}
use Rattle.bytecode.specs.declared.argument.Argument.{Argument}
use Rattle.language.specs.Tree.{Tree, number, truth, name, prefix, binary, choose, bind, flatten}
use Rattle.language.specs.declared.entry.Entry.{Entry}
use Rattle.language.specs.declared.operator.Operator.{Operator}
use Rattle.language.specs.declared.operator.Prefix.{Prefix as PrefixOperator}
use Rattle.parts.specs.declared.node.Node.{Node}
use Rattle.parts.specs.declared.node.Node.TheVariants.{Number, Truth, Name, Prefix, Binary, If, Let}

-- what a node's tree is, and that its parts are the tables of the tree's parts
pub record NumberRoot (t : Tree) (k : Argument) : Type 0 where
  pub place : ℕ
  pub is : t ≡ number k place

pub record TruthRoot (t : Tree) (k : Argument) : Type 0 where
  pub which : Bool
  pub place : ℕ
  pub is : t ≡ truth which place
  pub worth : k ≡ plus (cond which 1 0)

pub record PrefixRoot (t : Tree) (o : PrefixOperator) (p : ℕ) (a : List Entry) : Type 0 where
  pub part : Tree
  pub is : t ≡ prefix o p part
  pub whole : a ≡ flatten part

pub record BinaryRoot (t : Tree) (o : Operator) (p : ℕ) (a b : List Entry) : Type 0 where
  pub left : Tree
  pub right : Tree
  pub is : t ≡ binary o p left right
  pub front : a ≡ flatten left
  pub back : b ≡ flatten right

pub record ChooseRoot (t : Tree) (p : ℕ) (a b c : List Entry) : Type 0 where
  pub test : Tree
  pub first : Tree
  pub second : Tree
  pub is : t ≡ choose p test first second
  pub front : a ≡ flatten test
  pub middle : b ≡ flatten first
  pub back : c ≡ flatten second

pub record BindRoot (t : Tree) (a b : List Entry) : Type 0 where
  pub value : Tree
  pub rest : Tree
  pub place : ℕ
  pub is : t ≡ bind place value rest
  pub front : a ≡ flatten value
  pub back : b ≡ flatten rest

abbrev pub RootOf : Tree → Node → Type 0
RootOf t (Number k) = NumberRoot t k
RootOf t (Truth k) = TruthRoot t k
RootOf t (Name k p) = t ≡ name k p
RootOf t (Prefix o p a) = PrefixRoot t o p a.now
RootOf t (Binary o p a b) = BinaryRoot t o p a.now b.now
RootOf t (If p a b c) = ChooseRoot t p a.now b.now c.now
RootOf t (Let a b) = BindRoot t a.now b.now

-- the parts are, in order, the entries before the last
abbrev pub Within : List Entry → Node → Type 0
Within es (Number k) = 0 < length es
Within es (Truth k) = 0 < length es
Within es (Name k p) = 0 < length es
Within es (Prefix o p a) = a.now ≡ take (length es - 1) es
Within es (Binary o p a b) = a.now ++ b.now ≡ take (length es - 1) es
Within es (If p a b c) = (a.now ++ b.now) ++ c.now ≡ take (length es - 1) es
Within es (Let a b) = a.now ++ b.now ≡ take (length es - 1) es

-- so they have an entry less than the table
abbrev pub Shorter : ℕ → Node → Type 0
Shorter n (Number k) = 0 < n
Shorter n (Truth k) = 0 < n
Shorter n (Name k p) = 0 < n
Shorter n (Prefix o p a) = length a.now + 1 ≡ n
Shorter n (Binary o p a b) = length a.now + length b.now + 1 ≡ n
Shorter n (If p a b c) = length a.now + length b.now + length c.now + 1 ≡ n
Shorter n (Let a b) = length a.now + length b.now + 1 ≡ n
