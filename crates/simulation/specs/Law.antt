-- A rule's code, run on the machine, does what the rule is worth.
use Rattle.std.specs.Prelude.{◌≡◌, ℕ, ◌+◌, ◌<◌, ◌≤◌, Bool, true, false, ◌&&◌, List, ◌++◌, map, length, take, Some, None, Ok}
use Rattle.arithmetic.specs.Words.{Ops, naught, unit, truth}
use Rattle.bytecode.specs.Words.{written}
use Rattle.bytecode.specs.declared.instruction.Word.{Word}
use Rattle.evaluation.specs.Worth.{Worth, word, over, unbound, worth, placed}
use Rattle.grammar.specs.Grammar.{Bound}
use Rattle.language.specs.Code.{long, tall, translation}
use Rattle.language.specs.Tree.{Tree, size}
use Rattle.language.specs.Typing.{type_of}
use Rattle.language.specs.declared.operator.ValueType.{ValueType}
use Rattle.language.specs.declared.operator.ValueType.TheVariants.{Number, Truth}
use Rattle.machine.specs.Runs.{Ended, ended, runs}
use Rattle.machine.specs.Steps.{state, fetch}
use Rattle.refusal.specs.declared.Refusal.TheVariants.{Overflow}

-- what is asked of the words for 0 and 1: they differ, and their product is that of the numbers
pub record Lawful {W : Type 0} (ops : Ops W) : Type 0 where
  pub zero_same : ops.same (naught ops) (naught ops) ≡ true
  pub one_other : ops.same (unit ops) (naught ops) ≡ false
  pub product : (a b : Bool) → ops.times (truth ops a) (truth ops b) ≡ Some (truth ops (a && b))

-- a truth is the word for 1 or for 0
abbrev pub Fits : {W : Type 0} → Ops W → ValueType → W → Type 0
Fits ops Number v = Unit {0}
Fits ops Truth v = (b : Bool) × (v ≡ truth ops b)

abbrev pub words_of : Tree → List Word
words_of t = map written (translation t)

-- How a run of the rule t of the type a ends, by what the rule is worth. It began with the words st above the base, the top
-- first, and the unused words free. With a word: at the end of the code, in at most as many steps as the code has words,
-- and the words above the base are as they were. With an overflow: by that refusal, at the place of the node's word,
-- and the words above the base are as they were but for words on top of them.
abbrev pub Closes : {W : Type 0} → Ops W → Tree → ValueType → List W → List W → Worth W → Ended W → Type 0
Closes ops t a st free (word v) e =
    (k : ℕ) × (after : List _) × ((k ≤ long t) × (length after ≡ length free) × Fits ops a v × (e ≡ ended (state (long t) v st after k) None))
Closes ops t a st free (over i) e =
    (k : ℕ) × (hand : _) × (above : List _) × (after : List _) × ((i < size t) × (k < long t) × (length above + length after ≡ length free) × (e ≡ ended (state (placed t i) hand (above ++ st) after k) (Some (Overflow (placed t i)))))
Closes ops t a st free unbound e = ⊥

-- Every well typed rule, on any stack whose eight top words are the fields, with room for its height and a budget of its
-- length: the run ends by what the rule is worth under the fields, and in no other way.
abbrev pub ComputesIn : {W : Type 0} → Ops W → Type 0
ComputesIn ops =
    Lawful ops → (t : Tree) (a : ValueType) → type_of t ≡ Ok a →
    (acc : _) (st free : List _) → 8 ≤ length st → tall t ≤ length free → (budget : ℕ) → long t ≤ budget →
    Closes ops t a st free (worth ops t (take 8 st)) (runs ops (length (words_of t)) (fetch (words_of t)) budget (state 0 acc st free 0))

abbrev pub Computes : Type 0 → Type 0
Computes W = (ops : Ops W) → ComputesIn ops

-- each name of a well typed rule has a binding, or is one of the eight fields
abbrev pub AreBound : Type 0
AreBound = (t : Tree) (a : ValueType) → type_of t ≡ Ok a → Bound 8 t
