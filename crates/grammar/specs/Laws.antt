-- How reading keeps the grammar.
use Rattle.std.specs.Prelude.{◌≡◌, ℕ, ◌≤◌, min, List, [], ◌∷◌, ◌++◌, length, Ok, Err, ◌≢◌}
use Rattle.refusal.specs.declared.Refusal.{Refusal}
use Rattle.language.specs.Fold.{feeds, fresh}
use Rattle.language.specs.Reading.{tokens, parse, reading}
use Rattle.language.specs.Tokens.{Lexeme}
use Rattle.language.specs.Tree.{Tree, size, flatten}
use Rattle.language.specs.declared.entry.Entry.{Entry}
use Rattle.language.specs.declared.token.TokenKind.TheVariants.{End}
use Rattle.grammar.specs.Grammar.{Rule, Bound}

-- no end token among these
abbrev pub Endless : List Lexeme → Type 0
Endless [] = Unit {0}
Endless (x ∷ ts) = (x.kind ≢ End) × Endless ts

-- what is read is the table of a tree that the grammar derives
abbrev pub Sound : Type 0
Sound =
    (ts : List Lexeme) (e : Lexeme) (es : List Entry) → Endless ts → e.kind ≡ End → feeds fresh (ts ++ e ∷ []) ≡ Ok es →
    (t : Tree) × Rule ts t × (es ≡ flatten t)

-- each tree that the grammar derives is read as its table
abbrev pub Complete : Type 0
Complete = (ts : List Lexeme) (e : Lexeme) (t : Tree) → Rule ts t → e.kind ≡ End → feeds fresh (ts ++ e ∷ []) ≡ Ok (flatten t)

-- tokens have at most one tree
abbrev pub Unambiguous : Type 0
Unambiguous = (ts : List Lexeme) (t u : Tree) → Rule ts t → Rule ts u → t ≡ u

-- a table is that of one tree, and has an entry for each node
abbrev pub Faithful : Type 0
Faithful = (t u : Tree) → flatten t ≡ flatten u → t ≡ u

abbrev pub Sized : Type 0
Sized = (t : Tree) → size t ≡ length (flatten t)

-- each name stands for one of the eight fields or for a let around it
abbrev pub Closed : Type 0
Closed = (ts : List Lexeme) (t : Tree) → Rule ts t → Bound 8 t

-- the text stands for the tree: its tokens are those of the tree and the end
pub record Means (text : List ℕ) (t : Tree) : Type 0 where
  pub rule : List Lexeme
  pub end : Lexeme
  pub all : tokens text ≡ rule ++ end ∷ []
  pub ends : end.kind ≡ End
  pub derived : Rule rule t

-- what a text that is read stands for, and that the entries are its table
pub record Parsed (text : List ℕ) (es : List Entry) : Type 0 where
  pub tree : Tree
  pub means : Means text tree
  pub table : es ≡ flatten tree
  pub bound : Bound 8 tree

-- the same laws over texts
abbrev pub TextSound : Type 0
TextSound = (text : List ℕ) (es : List Entry) → parse text ≡ Ok es → Parsed text es

-- a text that is read as the table of a tree stands for that tree
abbrev pub TextExact : Type 0
TextExact = (text : List ℕ) (t : Tree) → parse text ≡ Ok (flatten t) → Means text t

abbrev pub TextComplete : Type 0
TextComplete = (text : List ℕ) (t : Tree) → Means text t → parse text ≡ Ok (flatten t)

abbrev pub TextUnambiguous : Type 0
TextUnambiguous = (text : List ℕ) (t u : Tree) → Means text t → Means text u → t ≡ u

-- a text that is refused stands for no tree
abbrev pub TextRefused : Type 0
TextRefused = (text : List ℕ) (r : Refusal) (t : Tree) → parse text ≡ Err r → Means text t → ⊥

-- the same for a table of `room` entries: a text of at most 4096 bytes whose tree has at most 512 nodes, and no more than there is room for
pub record Read (room : ℕ) (text : List ℕ) (es : List Entry) : Type 0 where
  pub parsed : Parsed text es
  pub short : length text ≤ 4096
  pub fits : length es ≤ min room 512

abbrev pub ReadingSound : Type 0
ReadingSound = (room : ℕ) (text : List ℕ) (es : List Entry) → reading room text ≡ Ok es → Read room text es

abbrev pub ReadingComplete : Type 0
ReadingComplete =
    (room : ℕ) (text : List ℕ) (t : Tree) → Means text t → length text ≤ 4096 → size t ≤ min room 512 → reading room text ≡ Ok (flatten t)
