-- Levels, and the frames that end at one.
use Rattle.std.proofs.Common.{◌≡◌, ℕ, suc, ◌+◌, ◌<◌, ◌≤◌, Bool, true, false, List, [], ◌∷◌, ◌++◌, length, refl, arith}
use Rattle.std.proofs.lemmas.Bool.Decides.{nat_tests}
use Rattle.language.specs.Frames.{left, closed, scoped, leaving, above, binds}
use Rattle.language.specs.Fold.{ends}
use Rattle.language.specs.declared.operator.Operator.{Operator}
use Rattle.language.specs.declared.frame.Frame.{Frame}
use Rattle.language.specs.declared.frame.Mark.{Mark}
use Rattle.grammar.specs.Grammar.{level, left_level}

-- the level of an operator, and that of its left operand
pub levels : (o : Operator) → (1 ≤ level o) × ((level o ≤ 5) × ((level o ≤ left_level o) × (left_level o ≤ suc (level o))))
levels o = grind arith

pub ends_left : (o : Operator) → ends o ≡ left_level o
ends_left o = grind arith

-- whether the newest frame ends at a level
abbrev pub top_binds : ℕ → List Frame → Bool
top_binds k [] = false
top_binds k (f ∷ fs) = binds k f.mark

pub loose : (k : ℕ) (fs : List Frame) → above fs < k → top_binds k fs ≡ false
loose k fs h = grind (arith, nat_tests)

loose_by : (k : ℕ) (fs : List Frame) → 1 ≤ k → top_binds k fs ≡ false → above fs < k
loose_by k fs h b = grind (arith, nat_tests)

-- if it does not, none does
pub none_ends : (k : ℕ) (fs : List Frame) (n : ℕ) (g : List (List ℕ)) → top_binds k fs ≡ false →
    (left k fs ≡ fs) × ((closed k fs n ≡ []) × (scoped k fs g ≡ g))
none_ends k fs n g b = grind arith

-- where a frame ends at k, it ends at each looser level
pub tight : (j k : ℕ) (m : Mark) → j ≤ k → binds k m ≡ true → binds j m ≡ true
tight j k m h b = grind (arith, nat_tests)

-- what ends at j ends first at k, then the rest
pub left_left : (j k : ℕ) (fs : List Frame) → j ≤ k → left j fs ≡ left j (left k fs)
left_left j k [] h = refl
left_left j k (f ∷ fs) h = grind (arith, tight, left_left j k fs h)

pub scoped_scoped : (j k : ℕ) (fs : List Frame) (g : List (List ℕ)) → j ≤ k → scoped j fs g ≡ scoped j (left k fs) (scoped k fs g)
scoped_scoped j k [] g h = refl
scoped_scoped j k (f ∷ fs) g h = grind (arith, tight, scoped_scoped j k fs (leaving f.mark g) h)

pub closed_closed : (j k : ℕ) (fs : List Frame) (n : ℕ) → j ≤ k → closed j fs n ≡ closed k fs n ++ closed j (left k fs) (n + length (closed k fs n))
closed_closed j k [] n h = refl
closed_closed j k (f ∷ fs) n h = grind (arith, tight, closed_closed j k fs (n + 1) h)

-- the level of what is on top once all at the level k has ended
pub above_left : (k : ℕ) (fs : List Frame) → 1 ≤ k → above (left k fs) < k
above_left k [] h = h
above_left k (f ∷ fs) h = grind (arith, loose_by k (f ∷ fs), above_left k fs h)
