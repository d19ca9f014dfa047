-- What a rule is worth: its word, under the words of the names in scope, or the node at which it overflows.
use Rattle.std.specs.Prelude.{ℕ, ◌+◌, ◌-◌, Bool, cond, not, ◌&&◌, ◌||◌, List, ◌∷◌, Some, None, Option, nat_lt}
use Rattle.std.specs.List.{slice_get}
use Rattle.arithmetic.specs.Words.{Ops, naught, unit, truth as truth_word}
use Rattle.language.specs.Code.{long}
use Rattle.language.specs.Tree.{Tree, number, truth, name, prefix, binary, choose, bind, size}
use Rattle.language.specs.declared.operator.Operator.{Operator}
use Rattle.language.specs.declared.operator.Operator.TheVariants.{Or, And, Equal, AtMost, Plus, Times}
use Rattle.language.specs.declared.operator.Prefix.{Prefix}
use Rattle.language.specs.declared.operator.Prefix.TheVariants.{Not, Increment}

-- `over i`: the node of number i overflows, where the nodes are counted from 0 in post-order
pub data Worth (W : Type 0) : Type 0 where
  word : W → Worth W
  over : ℕ → Worth W
  unbound : Worth W

-- the first part of a node, and what is made of its word
abbrev pub first : {W : Type 0} → Worth W → (W → Worth W) → Worth W
first (word x) f = f x
first (over i) f = over i
first unbound f = unbound

-- the same of a part that n nodes stand before
abbrev pub then : {W : Type 0} → ℕ → Worth W → (W → Worth W) → Worth W
then n (word x) f = f x
then n (over i) f = over (n + i)
then n unbound f = unbound

abbrev pub gives : {W : Type 0} → ℕ → Option W → Worth W
gives n None = over n
gives n (Some x) = word x

abbrev pub finds : {W : Type 0} → Option W → Worth W
finds None = unbound
finds (Some x) = word x

-- whether a word stands for a truth that holds: it is not the word for 0
abbrev pub holds : {W : Type 0} → Ops W → W → Bool
holds ops x = not (ops.same x (naught ops))

-- what an operator makes of the words of its operands; none where it overflows
abbrev pub joined : {W : Type 0} → Ops W → Operator → W → W → Option W
joined ops Or x y = Some (truth_word ops (holds ops x || holds ops y))
joined ops And x y = Some (truth_word ops (holds ops x && holds ops y))
joined ops Equal x y = Some (truth_word ops (ops.same x y))
joined ops AtMost x y = Some (truth_word ops (ops.at_most x y))
joined ops Plus x y = ops.plus x y
joined ops Times x y = ops.times x y

abbrev pub turned : {W : Type 0} → Ops W → Prefix → W → Option W
turned ops Not x = Some (truth_word ops (not (holds ops x)))
turned ops Increment x = ops.plus x (unit ops)

-- the worth of a rule, where `env` has the words of the names in scope, the innermost first
abbrev pub worth : {W : Type 0} → Ops W → Tree → List W → Worth W
worth ops (number k p) env = word (ops.number k)
worth ops (truth b p) env = word (truth_word ops b)
worth ops (name k p) env = finds (slice_get env k)
worth ops (prefix o p t) env = first (worth ops t env) (λ x. gives (size t) (turned ops o x))
worth ops (binary o p t u) env =
    first (worth ops t env) (λ x. then (size t) (worth ops u env) (λ y. gives (size t + size u) (joined ops o x y)))
worth ops (choose p t u v) env =
    first (worth ops t env) (λ x. cond (holds ops x) (then (size t) (worth ops u env) word) (then (size t + size u) (worth ops v env) word))
worth ops (bind p t u) env = first (worth ops t env) (λ x. then (size t) (worth ops u (x ∷ env)) word)

-- of two parts with one word between them: the words and nodes of each, and where the nodes of each stand
abbrev pub pair_places : ℕ → ℕ → ℕ → ℕ → (ℕ → ℕ) → (ℕ → ℕ) → ℕ → ℕ
pair_places la lb sa sb pa pb i = cond (nat_lt i sa) (pa i) (cond (nat_lt i (sa + sb)) (la + 1 + pb (i - sa)) (la + 1 + lb))

-- the place, in the rule's code, of the word at which the node of number i can overflow: the last one of its own
abbrev pub placed : Tree → ℕ → ℕ
placed (number k p) i = 0
placed (truth b p) i = 0
placed (name k p) i = 0
placed (prefix o p t) i = cond (nat_lt i (size t)) (placed t i) (long t + 2)
placed (binary o p t u) i = pair_places (long t) (long u) (size t) (size u) (placed t) (placed u) i
placed (choose p t u v) i =
    cond (nat_lt i (size t)) (placed t i)
    (cond (nat_lt i (size t + size u)) (long t + 1 + long v + 1 + placed u (i - size t)) (long t + 1 + placed v (i - (size t + size u))))
placed (bind p t u) i = pair_places (long t) (long u) (size t) (size u) (placed t) (placed u) i
