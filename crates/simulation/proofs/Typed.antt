-- What a typed tree has: the types of its parts, and words of these types.
use Rattle.std.proofs.Common.{◌≡◌, ℕ, zero, suc, ◌≤◌, Bool, true, false, List, [], ◌∷◌, length, take, replicate, Some, None, Ok, Err, Option, Result, refl, ap, add-one, arith}
use Rattle.std.proofs.lemmas.Bool.{and_parts}
use Rattle.std.specs.List.{slice_get}
use Rattle.std.proofs.lemmas.Option.{slice_get_within}
use Rattle.arithmetic.specs.Words.{Ops}
use Rattle.grammar.specs.Grammar.{Bound}
use Rattle.language.specs.Code.{Slot, bound, waiting, above}
use Rattle.language.specs.Operators.{row_of, prefix_row_of}
use Rattle.language.specs.Tree.{Tree, number, truth, name, prefix, binary, choose, bind}
use Rattle.language.specs.Typing.{fields, same_type, and_then, fitting, known, typed}
use Rattle.language.specs.declared.operator.ValueType.{ValueType}
use Rattle.language.specs.declared.operator.ValueType.TheVariants.{Number, Truth}
use Rattle.simulation.specs.Law.{Fits, AreBound}

-- the tree has this type under these types of the names, part by part
abbrev pub Well : List ValueType → Tree → ValueType → Type 0
Well env (number k p) a = a ≡ Number
Well env (truth b p) a = a ≡ Truth
Well env (name k p) a = slice_get env k ≡ Some a
Well env (prefix o p t) a = Well env t (prefix_row_of o).takes × (a ≡ (prefix_row_of o).gives)
Well env (binary o p t u) a = Well env t (row_of o).takes × (Well env u (row_of o).takes × (a ≡ (row_of o).gives))
Well env (choose p t u v) a = Well env t Truth × (Well env u a × Well env v a)
Well env (bind p t u) a = (b : ValueType) × (Well env t b × Well (b ∷ env) u a)

and_then_parts : (r : Result ValueType ℕ) (f : ValueType → Result ValueType ℕ) (c : ValueType) → and_then r f ≡ Ok c → (a : ValueType) × ((r ≡ Ok a) × (f a ≡ Ok c))
and_then_parts (Ok a) f c e = (a, (refl, e))
and_then_parts (Err p) f c e = cc

fit : (b : Bool) (g : ValueType) (p : ℕ) (c : ValueType) → fitting b g p ≡ Ok c → (b ≡ true) × (c ≡ g)
fit true g p c e = (refl, cc)
fit false g p c e = cc

same_is : (a b : ValueType) → same_type a b ≡ true → a ≡ b
same_is Number Number e = refl
same_is Number Truth e = cc
same_is Truth Number e = cc
same_is Truth Truth e = refl

known_is : (o : Option ValueType) (p : ℕ) (a : ValueType) → known o p ≡ Ok a → o ≡ Some a
known_is None p a e = cc
known_is (Some b) p a e = cc

pub well : (env : List ValueType) (t : Tree) (a : ValueType) → typed env t ≡ Ok a → Well env t a
well env (number k p) a e = cc
well env (truth b p) a e = cc
well env (name k p) a e = known_is (slice_get env k) p a e
well env (prefix o p t) a e =
    let (c, (h, r)) = and_then_parts _ _ a e in
    let f = fit _ _ p a r in
    (rw (same_is c (prefix_row_of o).takes f.0) at (well env t c h), f.1)
well env (binary o p t u) a e =
    let (c, (h, r)) = and_then_parts _ _ a e in
    let (d, (i, q)) = and_then_parts _ _ a r in
    let f = fit _ _ p a q in
    let g = and_parts _ _ f.0 in
    (rw (same_is c (row_of o).takes g.0) at (well env t c h), (rw (same_is d (row_of o).takes g.1) at (well env u d i), f.1))
well env (choose p t u v) a e =
    let (b, (h, r)) = and_then_parts _ _ a e in
    let (c, (i, q)) = and_then_parts _ _ a r in
    let (d, (j, s)) = and_then_parts _ _ a q in
    let f = fit _ _ p a s in
    let g = and_parts _ _ f.0 in
    (rw (same_is b Truth g.0) at (well env t b h), (rw f.1 (well env u c i), rw (f.1, same_is c d g.1) (well env v d j)))
well env (bind p t u) a e =
    let (b, (h, r)) = and_then_parts _ _ a e in
    (b, (well env t b h, well (b ∷ env) u a r))

-- each name of a typed tree has a binding
pub well_bound : (env : List ValueType) (t : Tree) (a : ValueType) → Well env t a → Bound (length env) t
well_bound env (number k p) a w = tt
well_bound env (truth b p) a w = tt
well_bound env (name k p) a w = slice_get_within env k a w
well_bound env (prefix o p t) a w = well_bound env t (prefix_row_of o).takes w.0
well_bound env (binary o p t u) a w = (well_bound env t (row_of o).takes w.0, well_bound env u (row_of o).takes w.1.0)
well_bound env (choose p t u v) a w = (well_bound env t Truth w.0, (well_bound env u a w.1.0, well_bound env v a w.1.1))
well_bound env (bind p t u) a w =
    (well_bound env t w.0 w.1.0, rw add-one (well_bound (w.0 ∷ env) u a w.1.1))

pub are_bound : AreBound
are_bound t a e = well_bound fields t a (well fields t a e)

-- the words of the names on a stack, the innermost first
abbrev pub values : {W : Type 0} → List Slot → List W → List W
values [] st = []
values (x ∷ s) [] = []
values (bound ∷ s) (w ∷ st) = w ∷ values s st
values (waiting ∷ s) (w ∷ st) = values s st

-- each word is of its name's type
abbrev pub Agree : {W : Type 0} → Ops W → List ValueType → List W → Type 0
Agree ops [] vs = Unit {0}
Agree ops (a ∷ env) [] = ⊥
Agree ops (a ∷ env) (v ∷ vs) = Fits ops a v × Agree ops env vs

pub agree_at : {W : Type 0} (ops : Ops W) (env : List ValueType) (vs : List W) (k : ℕ) (a : ValueType) → Agree ops env vs → slice_get env k ≡ Some a → (v : W) × ((slice_get vs k ≡ Some v) × Fits ops a v)
agree_at ops [] vs k a h e = cc
agree_at ops (b ∷ env) [] k a h e = elim h [ ]
agree_at ops (b ∷ env) (v ∷ vs) zero a h e = let f : b ≡ a = cc in (v, (refl, rw f at h.0))
agree_at ops (b ∷ env) (v ∷ vs) (suc k) a h e = agree_at ops env vs k a h.1 e

-- a name's word lies where its code looks for it
pub above_is : {W : Type 0} (s : List Slot) (st : List W) (k : ℕ) (v : W) → slice_get (values s st) k ≡ Some v → slice_get st (above s k) ≡ Some v
above_is [] st k v e = cc
above_is (x ∷ s) [] k v e = cc
above_is (bound ∷ s) (w ∷ st) zero v e = e
above_is (bound ∷ s) (w ∷ st) (suc k) v e = rw add-one (above_is s st k v e)
above_is (waiting ∷ s) (w ∷ st) k v e = rw add-one (above_is s st k v e)

pub values_top : {W : Type 0} (n : ℕ) (st : List W) → values (replicate n bound) st ≡ take n st
values_top zero st = refl
values_top (suc n) [] = refl
values_top (suc n) (w ∷ st) = ap (λ z. w ∷ z) (values_top n st)

pub agree_numbers : {W : Type 0} (ops : Ops W) (n : ℕ) (st : List W) → n ≤ length st → Agree ops (replicate n Number) (values (replicate n bound) st)
agree_numbers ops zero st h = tt
agree_numbers ops (suc n) [] h = absurd (omega arith)
agree_numbers ops (suc n) (w ∷ st) h = (tt, agree_numbers ops n st (omega arith))
