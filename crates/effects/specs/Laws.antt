-- How the words of a rule keep the height of the stack.
use Rattle.std.specs.Prelude.{◌≡◌, ℕ, ◌+◌, ◌*◌, ◌<◌, ◌≤◌, length, Some}
use Rattle.std.specs.List.{slice_get}
use Rattle.bytecode.specs.declared.instruction.Instruction.{Instruction}
use Rattle.grammar.specs.Grammar.{Bound}
use Rattle.language.specs.Code.{long, tall, height, translation}
use Rattle.language.specs.Tree.{Tree, size}
use Rattle.effects.specs.Effects.{taken, needed, Leads, Walks, steps}

-- a place of a rule, and the height there: the eight fields always stand, and at the end nothing stands above them
pub record Kept (t : Tree) (q h : ℕ) : Type 0 where
  pub within : q ≤ long t
  pub low : 8 ≤ h
  pub high : h ≤ height t
  pub ends : q ≡ long t → h ≡ 8

-- whichever way a rule is walked
abbrev pub KeepsHeight : Type 0
KeepsHeight = (t : Tree) (q h : ℕ) → Walks (translation t) 0 8 q h → Kept t q h

-- each step goes ahead
abbrev pub GoesAhead : Type 0
GoesAhead = (t : Tree) (q h r k : ℕ) → Walks (translation t) 0 8 q h → Leads (translation t) q h r k → q < r

-- so there is at most a step for each word
abbrev pub IsBrief : Type 0
IsBrief = (t : Tree) (q h : ℕ) (w : Walks (translation t) 0 8 q h) → steps w ≤ long t

-- before the end there is a next step
abbrev pub GoesOn : Type 0
GoesOn = (t : Tree) (q h : ℕ) → Walks (translation t) 0 8 q h → q < long t → (r : ℕ) × (k : ℕ) × Leads (translation t) q h r k

-- some way leads to the end, and some way to the height; either branch of an if may be taken, whatever its condition
pub record Reached (t : Tree) : Type 0 where
  pub end : Walks (translation t) 0 8 (long t) 8
  pub top : ℕ
  pub high : Walks (translation t) 0 8 top (height t)

abbrev pub ReachesHeight : Type 0
ReachesHeight = (t : Tree) → Reached t

-- an instruction finds what it needs, and takes off none of the eight fields
pub record Finds (i : Instruction) (h : ℕ) : Type 0 where
  pub needs : needed i ≤ h
  pub own : 8 + taken i ≤ h

-- each word that is reached, where each name has a binding
abbrev pub IsFed : Type 0
IsFed = (t : Tree) (q h : ℕ) (i : Instruction) → Bound 8 t → Walks (translation t) 0 8 q h → slice_get (translation t) q ≡ Some i → Finds i h

-- a word at least, and three for each node at most; less height than nodes
pub record Short (t : Tree) : Type 0 where
  pub words : length (translation t) ≡ long t
  pub some : 1 ≤ long t
  pub few : long t ≤ 3 * size t
  pub low : tall t < size t

abbrev pub AreShort : Type 0
AreShort = (t : Tree) → Short t
