-- Operators find room, and so do the names of lets.
use Rattle.std.proofs.Common.{◌≡◌, ℕ, ◌<◌, ◌≤◌, Bool, true, false, List, [], ◌∷◌, Some, arith}
use Rattle.std.proofs.lemmas.Bool.{cond_both, leb-false}
use Rattle.language.specs.Fold.{ends}
use Rattle.language.specs.Frames.{level_by, above, binds, left, nests, deep, is_body}
use Rattle.language.specs.declared.frame.Frame.{Frame}
use Rattle.language.specs.declared.frame.Mark.{Mark}
use Rattle.language.specs.declared.operator.Operator.{Operator}
use Rattle.language.specs.declared.step.Sequel.{Sequel}
use Rattle.language.specs.declared.step.Sequel.TheVariants.{Join, Turn as TurnTo, Bring, Shut, Finish}
use Rattle.reader.specs.Lets.{is_value, is_binder, counted, values, bodies, top_binds}
use Rattle.reader.specs.Stacks.{top}
use Rattle.reader.specs.Steps.{Low, least_by}

-- what does not end at a level holds less tightly than it
looser : (k : ℕ) (m : Mark) → 1 ≤ k → k ≤ 6 → binds k m ≡ false → level_by m < k
looser k m low high b = grind (arith, leb-false)

left_above : (k : ℕ) (fs : List Frame) → 1 ≤ k → k ≤ 6 → above (left k fs) < k
left_above k [] low high = omega arith
left_above k (f ∷ fs) low high =
    cond_both (binds k f.mark) (left k fs) (f ∷ fs) (λ gs. above gs < k) (λ b. left_above k fs low high) (λ b. looser k f.mark low high b)

ends_low : (o : Operator) → 1 ≤ ends o
ends_low o = grind arith

ends_high : (o : Operator) → ends o ≤ 6
ends_high o = grind arith

-- what an operator leaves open holds less tightly than it ends
pub low_left : (q : Sequel) (fs : List Frame) → Low q (left (least_by q) fs)
low_left (Join o) fs = left_above (ends o) fs (ends_low o) (ends_high o)
low_left (TurnTo w) fs = tt
low_left Bring fs = tt
low_left Shut fs = tt
low_left Finish fs = tt

nested_body : (m : Mark) → is_body m ≡ true → nests m ≡ true
nested_body m e = grind arith

value_marks : (m : Mark) → is_value m ≡ true → (is_body m ≡ false) × (nests m ≡ true)
value_marks m e = grind arith

binder_marks : (m : Mark) → is_binder m ≡ true → (is_value m ≡ false) × (nests m ≡ true)
binder_marks m e = grind arith

-- frames that nest are no more than the depth
counted_more : (test : Mark → Bool) (f : Frame) (fs : List Frame) → (test f.mark ≡ true → nests f.mark ≡ true) → counted test fs ≤ deep fs → counted test (f ∷ fs) ≤ deep (f ∷ fs)
counted_more test f fs all h = grind arith

counted_deep : (test : Mark → Bool) → ((m : Mark) → test m ≡ true → nests m ≡ true) → (fs : List Frame) → counted test fs ≤ deep fs
counted_deep test all [] = omega arith
counted_deep test all (f ∷ fs) = counted_more test f fs (all f.mark) (counted_deep test all fs)

-- a let whose name is due is nested, and no let before `in` yet
pub binder_room : (fs : List Frame) → top_binds fs ≡ true → values fs < deep fs
binder_room [] t = grind arith
binder_room (f ∷ fs) t =
    let m = binder_marks f.mark t in
    let few = counted_deep is_value (λ n e. (value_marks n e).1) fs in
    grind (arith, few)

-- a let in its first expression is nested, and its name is not in scope yet
pub value_room : (fs : List Frame) (f : Frame) → top fs ≡ Some f → is_value f.mark ≡ true → bodies fs < deep fs
value_room [] f t v = grind arith
value_room (g ∷ fs) f t v =
    let m = value_marks f.mark v in
    let few = counted_deep is_body nested_body fs in
    grind (arith, few)
