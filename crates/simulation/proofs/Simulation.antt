-- The simulation: the code of a tree, at any place of any code, on any stack, does what the tree is worth.
use Rattle.std.proofs.Common.{◌≡◌, ℕ, suc, ◌+◌, ◌<◌, ◌≤◌, Bool, true, false, cond, not, ◌&&◌, ◌||◌, List, [], ◌∷◌, ◌++◌, length, drop, Some, None, Ok, Err, Option, sym, refl, ap, ◌∙◌, append_assoc, arith, length-append, length-drop}
use Rattle.std.proofs.lemmas.Bool.{cond-true, cond-false, le-leb, lt-ltb, le-ltb}
use Rattle.std.proofs.Math.Nat.{add_assoc}
use Rattle.arithmetic.specs.Words.{Ops, naught, unit, truth as truth_word}
use Rattle.bytecode.specs.Words.{plus}
use Rattle.bytecode.specs.declared.instruction.Instruction.{Instruction}
use Rattle.bytecode.specs.declared.instruction.Instruction.TheVariants.{Push, Consti, Acc, Popi, Branch, Branchif}
use Rattle.evaluation.specs.Worth.{Worth, word, over, unbound, first, then, gives, holds, joined, turned, worth, placed}
use Rattle.language.specs.Code.{Slot, bound, waiting, above, code, long, tall}
use Rattle.language.specs.Operators.{row_of, prefix_row_of}
use Rattle.language.specs.Tree.{Tree, number, truth, name, prefix, binary, choose, bind, size}
use Rattle.language.specs.declared.operator.Operator.{Operator}
use Rattle.language.specs.declared.operator.Operator.TheVariants.{Or, And, Equal, AtMost, Plus, Times}
use Rattle.language.specs.declared.operator.Prefix.{Prefix}
use Rattle.language.specs.declared.operator.Prefix.TheVariants.{Not, Increment}
use Rattle.language.specs.declared.operator.ValueType.{ValueType}
use Rattle.language.specs.declared.operator.ValueType.TheVariants.{Number, Truth}
use Rattle.machine.specs.Steps.{state, step, performed, landed, became?}
use Rattle.refusal.specs.declared.Refusal.TheVariants.{Overflow}
use Rattle.simulation.specs.Law.{Lawful, Fits}
use Rattle.simulation.proofs.Places.{Two, two_places, Three, three_places, CodeAt, split_code, code_fits}
use Rattle.simulation.proofs.Reached.{Comes, comes_join, comes_on, step_at, pushes, branches}
use Rattle.simulation.proofs.Typed.{Well, values, Agree, agree_at, above_is}

holds_truth : {W : Type 0} (ops : Ops W) → Lawful ops → (b : Bool) → holds ops (truth_word ops b) ≡ b
holds_truth ops law true = ap not law.one_other
holds_truth ops law false = ap not law.zero_same

-- `||` on any two words
either : {W : Type 0} (u z : W) (a b : Bool) → cond (a && b) z u ≡ cond (not a || not b) u z
either u z true true = refl
either u z true false = refl
either u z false b = refl

twice : {W : Type 0} (u z : W) (a : Bool) → cond a u z ≡ cond (not (not a)) u z
twice u z true = refl
twice u z false = refl

-- the word that an operator gives is of its type
joined_fits : {W : Type 0} (ops : Ops W) (o : Operator) (x y v : W) → joined ops o x y ≡ Some v → Fits ops (row_of o).gives v
joined_fits ops Or x y v e = (holds ops x || holds ops y, cc)
joined_fits ops And x y v e = (holds ops x && holds ops y, cc)
joined_fits ops Equal x y v e = (ops.same x y, cc)
joined_fits ops AtMost x y v e = (ops.at_most x y, cc)
joined_fits ops Plus x y v e = tt
joined_fits ops Times x y v e = tt

turned_fits : {W : Type 0} (ops : Ops W) (o : Prefix) (x v : W) → turned ops o x ≡ Some v → Fits ops (prefix_row_of o).gives v
turned_fits ops Not x v e = (not (holds ops x), cc)
turned_fits ops Increment x v e = tt

product : {W : Type 0} (ops : Ops W) → Lawful ops → (x y : W) → Fits ops Truth x → Fits ops Truth y → ops.times x y ≡ Some (truth_word ops (holds ops x && holds ops y))
product ops law x y (a, e) (b, f) = simp (e, f, holds_truth ops law a, holds_truth ops law b) (law.product a b)

-- the instruction of an operator does what the operator does
joins : {W : Type 0} (ops : Ops W) → Lawful ops → (end : ℕ) (o : Operator) (r q : ℕ) (x y : W) (st fs : List W) (m : ℕ) → Fits ops (row_of o).takes x → Fits ops (row_of o).takes y →
    performed ops end (row_of o).instruction r (state q y (x ∷ st) fs m) ≡ landed r (joined ops o x y) q st (x ∷ fs) m
joins ops law end Or r q x y st fs m f g = ap (λ z. landed r (Some z) q st (x ∷ fs) m) (either (unit ops) (naught ops) (ops.same x (naught ops)) (ops.same y (naught ops)))
joins ops law end And r q x y st fs m f g = ap (λ z. landed r z q st (x ∷ fs) m) (product ops law x y f g)
joins ops law end Equal r q x y st fs m f g = refl
joins ops law end AtMost r q x y st fs m f g = refl
joins ops law end Plus r q x y st fs m f g = refl
joins ops law end Times r q x y st fs m f g = refl

turns : {W : Type 0} (ops : Ops W) (end : ℕ) (o : Prefix) (r q : ℕ) (x : W) (st fs : List W) (m : ℕ) →
    performed ops end (prefix_row_of o).instruction r (state q (ops.number (prefix_row_of o).constant) (x ∷ st) fs m) ≡ landed r (turned ops o x) q st (x ∷ fs) m
turns ops end Not r q x st fs m = ap (λ z. landed r (Some z) q st (x ∷ fs) m) (twice (unit ops) (naught ops) (ops.same x (naught ops)))
turns ops end Increment r q x st fs m = refl

module _ {W : Type 0} (ops : Ops W) (law : Lawful ops) (end : ℕ) (get : ℕ → Option (Instruction × ℕ)) (past : (p : ℕ) → end ≤ p → get p ≡ None) where
  -- after at most len steps the word v is at hand, len places on, and the stack is as it was, with as many unused words
  pub record Gave (p : ℕ) (acc : W) (st fs : List W) (n len : ℕ) (good : W → Type 0) (v : W) : Type 0 where
    pub steps : ℕ
    pub few : steps ≤ len
    pub after : List W
    pub room : length after ≡ length fs
    pub fits : good v
    pub comes : Comes ops end get past steps p acc st fs n (p + len) v st after

  -- after fewer than len steps the machine stops at q for an overflow, and the stack is as it was but for words above
  pub record Stopped (p : ℕ) (acc : W) (st fs : List W) (n len q : ℕ) : Type 0 where
    pub steps : ℕ
    pub few : steps < len
    pub hand : W
    pub above : List W
    pub after : List W
    pub room : length above + length after ≡ length fs
    pub comes : Comes ops end get past steps p acc st fs n q hand (above ++ st) after
    pub stops : step ops end get (state q hand (above ++ st) after (n + steps)) ≡ Err (Overflow q)

  abbrev pub Sim : ℕ → W → List W → List W → ℕ → ℕ → ℕ → (ℕ → ℕ) → (W → Type 0) → Worth W → Type 0
  Sim p acc st fs n len sz pl good (word v) = Gave p acc st fs n len good v
  Sim p acc st fs n len sz pl good (over i) = (i < sz) × Stopped p acc st fs n len (p + pl i)
  Sim p acc st fs n len sz pl good unbound = ⊥

  stopped_so : {p n len len' q q' : ℕ} {acc : W} {st fs : List W} → Stopped p acc st fs n len q → len ≤ len' → q ≡ q' → Stopped p acc st fs n len' q'
  stopped_so h le e =
      rw (← e) (record { steps = h.steps; few = omega (arith, h.few); hand = h.hand; above = h.above; after = h.after; room = h.room; comes = h.comes; stops = h.stops })

  stopped_after : {k p n r len len' q q' : ℕ} {acc x : W} {st fs gs : List W} (ws : List W) → Comes ops end get past k p acc st fs n r x (ws ++ st) gs → Stopped r x (ws ++ st) gs (n + k) len q →
      k + len ≤ len' → q ≡ q' → length ws + length gs ≡ length fs → Stopped p acc st fs n len' q'
  stopped_after {k} {n = n} ws c h le e room =
      rw (← e)
      (record {
        steps = k + h.steps;
        few = omega (arith, h.few);
        hand = h.hand;
        above = h.above ++ ws;
        after = h.after;
        room = omega (arith, length-append h.above ws, h.room, room);
        comes = rw append_assoc (comes_join c h.comes);
        stops = rw (append_assoc, ← add_assoc n k h.steps) h.stops;
      })

  -- the last instruction of a node, which takes x off the stack
  abbrev pub Ends : (W → Type 0) → ℕ → W → W → List W → List W → ℕ → ℕ → Worth W → Type 0
  Ends good q x y st fs m i (word v) = good v × (step ops end get (state q y (x ∷ st) fs m) ≡ Ok (state (q + 1) v st (x ∷ fs) (m + 1)))
  Ends good q x y st fs m i (over j) = (j ≡ i) × (step ops end get (state q y (x ∷ st) fs m) ≡ Err (Overflow q))
  Ends good q x y st fs m i unbound = ⊥

  ends_of : (good : W → Type 0) (q : ℕ) (x y : W) (st fs : List W) (m i : ℕ) (o : Option W) → ((v : W) → o ≡ Some v → good v) →
      step ops end get (state q y (x ∷ st) fs m) ≡ landed (q + 1) o q st (x ∷ fs) m → Ends good q x y st fs m i (gives i o)
  ends_of good q x y st fs m i None g e = (refl, e)
  ends_of good q x y st fs m i (Some v) g e = (g v refl, e)

  last : {p n len sz sz' q k : ℕ} {acc x y : W} {st fs gs : List W} (pl : ℕ → ℕ) (good : W → Type 0) (w : Worth W) →
      Comes ops end get past k p acc st fs n q y (x ∷ st) gs → Ends good q x y st gs (n + k) sz w →
      k < len → q + 1 ≡ p + len → sz < sz' → q ≡ p + pl sz → suc (length gs) ≡ length fs → Sim p acc st fs n len sz' pl good w
  last {k = k} {x = x} {gs = gs} pl good (word v) c e few to lt at room =
      record {
        steps = k + 1;
        few = omega arith;
        after = x ∷ gs;
        room = omega arith;
        fits = e.0;
        comes = rw (← to) (comes_on c e.1);
      }
  last {p} {q = q} {k = k} {x = x} {y} {gs = gs} pl good (over j) c e few to lt at room =
      let z : q ≡ p + pl j = at ∙ ap (λ i. p + pl i) (sym e.0) in
      (omega (arith, e.0), rw (← z) (record { steps = k; few = few; hand = y; above = x ∷ []; after = gs; room = omega (arith, room); comes = c; stops = e.1 }))
  last pl good unbound c e few to lt at room = elim e [ ]

  module _ (p : ℕ) (acc : W) (st fs : List W) (n : ℕ) {la lb sa sb : ℕ} {pa pb pl : ℕ → ℕ} (at : Two la lb sa sb pa pb pl) (fa fb good : W → Type 0) where
    two_second : (k : ℕ) (x : W) (gs : List W) (w : Worth W) (f : W → Worth W) → k ≤ la + 1 → suc (length gs) ≡ length fs →
        Comes ops end get past k p acc st fs n (p + la + 1) x (x ∷ st) gs →
        Sim (p + la + 1) x (x ∷ st) gs (n + k) lb sb pb fb w →
        ((y : W) (m : ℕ) (hs : List W) → fb y → Ends good (p + la + 1 + lb) x y st hs m (sa + sb) (f y)) →
        Sim p acc st fs n (la + 1 + lb + 1) (sa + sb + 1) pl good (then sa w f)
    two_second k x gs (word y) f few room c h e =
        last pl good (f y) (comes_join c h.comes) (e y (n + (k + h.steps)) h.after h.fits) (omega (arith, h.few)) (omega arith) (omega arith) (omega (arith, at.last)) (omega (arith, h.room, room))
    two_second k x gs (over i) f few room c (lt, h) e =
        (omega arith, stopped_after (x ∷ []) c h (omega arith) (omega (arith, at.other i lt)) (omega (arith, room)))
    two_second k x gs unbound f few room c h e = elim h [ ]

    -- a node of two parts: the word of the first is pushed, and an instruction joins it with that of the second
    two : (w : Worth W) (f : W → Worth W) (g : W → W → Worth W) → get (p + la) ≡ Some (Push, p + la + 1) → 0 < length fs →
        Sim p acc st fs n la sa pa fa w →
        ((x : W) (m : ℕ) (gs : List W) → fa x → suc (length gs) ≡ length fs → Sim (p + la + 1) x (x ∷ st) gs m lb sb pb fb (f x)) →
        ((x y : W) (m : ℕ) (gs : List W) → fa x → fb y → Ends good (p + la + 1 + lb) x y st gs m (sa + sb) (g x y)) →
        Sim p acc st fs n (la + 1 + lb + 1) (sa + sb + 1) pl good (first w (λ x. then sa (f x) (g x)))
    two (word x) f g push some h second e =
        let k = h.steps in
        let r : 0 < length h.after = omega (arith, h.room) in
        let l : suc (length (drop 1 h.after)) ≡ length fs = omega (arith, length-drop 1 h.after, h.room) in
        two_second (k + 1) x (drop 1 h.after) (f x) (g x) (omega (arith, h.few)) l
        (comes_on h.comes (pushes ops end get past (p + la) x st h.after (n + k) push r))
        (second x (n + (k + 1)) (drop 1 h.after) h.fits l) (λ y m gs. e x y m gs h.fits)
    two (over i) f g push some (lt, h) second e =
        (omega arith, stopped_so h (omega arith) (omega (arith, at.one i lt)))
    two unbound f g push some h second e = elim h [ ]

  module _ (p : ℕ) (acc : W) (st fs : List W) (n la : ℕ) {sa : ℕ} (pa pl : ℕ → ℕ) (same : (i : ℕ) → i < sa → pl i ≡ pa i) (own : pl sa ≡ la + 2) (fa good : W → Type 0) where
    -- a node of one part: its word is pushed, and an instruction joins it with a constant
    one : (w : Worth W) (g : W → Worth W) (c : W) → get (p + la) ≡ Some (Push, p + la + 1) →
        ((x : W) (su gs : List W) (m : ℕ) → step ops end get (state (p + la + 1) x su gs m) ≡ Ok (state (p + la + 1 + 1) c su gs (m + 1))) → 0 < length fs →
        Sim p acc st fs n la sa pa fa w →
        ((x : W) (m : ℕ) (gs : List W) → fa x → Ends good (p + la + 1 + 1) x c st gs m sa (g x)) →
        Sim p acc st fs n (la + 3) (sa + 1) pl good (first w g)
    one (word x) g c push sets some h e =
        let k = h.steps in
        let r : 0 < length h.after = omega (arith, h.room) in
        let l : suc (length (drop 1 h.after)) ≡ length fs = omega (arith, length-drop 1 h.after, h.room) in
        let gs = drop 1 h.after in
        let d = comes_on h.comes (pushes ops end get past (p + la) x st h.after (n + k) push r) in
        last pl good (g x) (comes_on d (sets x (x ∷ st) gs (n + (k + 1)))) (e x (n + (k + 1 + 1)) gs h.fits) (omega (arith, h.few)) (omega arith) (omega arith) (omega (arith, own)) l
    one (over i) g c push sets some (lt, h) e =
        (omega arith, stopped_so h (omega arith) (omega (arith, same i lt)))
    one unbound g c push sets some h e = elim h [ ]

  module _ (p : ℕ) (acc : W) (st fs : List W) (n la : ℕ) {lc lb sc sa sb : ℕ} {pc pa pb pl : ℕ → ℕ} (at : Three lc lb sc sa sb pc pa pb pl) (fc good : W → Type 0) where
    chosen : (k : ℕ) (x : W) (gs : List W) (w : Worth W) → k ≤ lc + 1 → length gs ≡ length fs → Comes ops end get past k p acc st fs n (p + lc + 1 + lb + 1) x st gs →
        Sim (p + lc + 1 + lb + 1) x st gs (n + k) la sa pa good w → Sim p acc st fs n (lc + 1 + lb + 1 + la) (sc + sa + sb + 1) pl good (then sc w word)
    chosen k x gs (word v) few room c h =
        let to : p + lc + 1 + lb + 1 + la ≡ p + (lc + 1 + lb + 1 + la) = omega arith in
        record {
          steps = k + h.steps;
          few = omega (arith, h.few);
          after = h.after;
          room = h.room ∙ room;
          fits = h.fits;
          comes = rw (← to) (comes_join c h.comes);
        }
    chosen k x gs (over i) few room c (lt, h) =
        (omega arith, stopped_after [] c h (omega arith) (omega (arith, at.taken i lt)) (omega (arith, room)))
    chosen k x gs unbound few room c h = elim h [ ]

    otherwise : (k : ℕ) (x : W) (gs : List W) (w : Worth W) → k ≤ lc + 1 → length gs ≡ length fs → Comes ops end get past k p acc st fs n (p + lc + 1) x st gs →
        ((y : W) (hs : List W) (m : ℕ) → step ops end get (state (p + lc + 1 + lb) y st hs m) ≡ Ok (state (p + (lc + 1 + lb + 1 + la)) y st hs (m + 1))) →
        Sim (p + lc + 1) x st gs (n + k) lb sb pb good w → Sim p acc st fs n (lc + 1 + lb + 1 + la) (sc + sa + sb + 1) pl good (then (sc + sa) w word)
    otherwise k x gs (word v) few room c j h =
        record {
          steps = k + h.steps + 1;
          few = omega (arith, h.few);
          after = h.after;
          room = h.room ∙ room;
          fits = h.fits;
          comes = comes_on (comes_join c h.comes) (j v h.after (n + (k + h.steps)));
        }
    otherwise k x gs (over i) few room c j (lt, h) =
        (omega arith, stopped_after [] c h (omega arith) (omega (arith, at.left i lt)) (omega (arith, room)))
    otherwise k x gs unbound few room c j h = elim h [ ]

    module _ (test : get (p + lc) ≡ Some (Branchif (plus (lb + 2)), p + lc + 1)) (jump : get (p + lc + 1 + lb) ≡ Some (Branch (plus (la + 1)), p + lc + 1 + lb + 1))
        (inside : p + (lc + 1 + lb + 1 + la) ≤ end) (wa wb : Worth W)
        (taken : (x : W) (m : ℕ) (gs : List W) → length gs ≡ length fs → Sim (p + lc + 1 + lb + 1) x st gs m la sa pa good wa)
        (left : (x : W) (m : ℕ) (gs : List W) → length gs ≡ length fs → Sim (p + lc + 1) x st gs m lb sb pb good wb) where
      three_by : (x : W) (k : ℕ) (gs : List W) → k ≤ lc → length gs ≡ length fs → Comes ops end get past k p acc st fs n (p + lc) x st gs →
          (b : Bool) → ops.same x (naught ops) ≡ b →
          Sim p acc st fs n (lc + 1 + lb + 1 + la) (sc + sa + sb + 1) pl good (cond (not b) (then sc wa word) (then (sc + sa) wb word))
      three_by x k gs few room c true e =
          let r : p + lc + 1 + lb + (la + 1) ≡ p + (lc + 1 + lb + 1 + la) = omega arith in
          let s : step ops end get (state (p + lc) x st gs (n + k)) ≡ Ok (state (p + lc + 1) x st gs (n + k + 1)) =
          step_at ops end get past (Branchif (plus (lb + 2))) (p + lc) x st gs (n + k) test ∙ cond-true _ _ _ e in
          otherwise (k + 1) x gs wb (omega arith) room (comes_on c s)
          (λ y hs m. step_at ops end get past (Branch (plus (la + 1))) (p + lc + 1 + lb) y st hs m jump ∙ branches ops end get past (la + 1) (p + lc + 1 + lb) y st hs m (omega arith) ∙ ap (λ z. Ok (state z y st hs (m + 1))) r)
          (left x (n + (k + 1)) gs room)
      three_by x k gs few room c false e =
          let r : p + lc + (lb + 2) ≡ p + lc + 1 + lb + 1 = omega arith in
          let s : step ops end get (state (p + lc) x st gs (n + k)) ≡ Ok (state (p + lc + 1 + lb + 1) x st gs (n + k + 1)) =
          step_at ops end get past (Branchif (plus (lb + 2))) (p + lc) x st gs (n + k) test ∙ cond-false _ _ _ e
          ∙ branches ops end get past (lb + 2) (p + lc) x st gs (n + k) (omega arith) ∙ ap (λ z. Ok (state z x st gs (n + k + 1))) r in
          chosen (k + 1) x gs wa (omega arith) room (comes_on c s) (taken x (n + (k + 1)) gs room)

      -- a choice: the else part follows the condition, and then the other
      three : (w : Worth W) → Sim p acc st fs n lc sc pc fc w →
          Sim p acc st fs n (lc + 1 + lb + 1 + la) (sc + sa + sb + 1) pl good (first w (λ x. cond (holds ops x) (then sc wa word) (then (sc + sa) wb word)))
      three (word x) h = three_by x h.steps h.after h.few h.room h.comes (ops.same x (naught ops)) refl
      three (over i) (lt, h) =
          (omega arith, stopped_so h (omega arith) (omega (arith, at.test i lt)))
      three unbound h = elim h [ ]

  constant : (p : ℕ) (acc : W) (st fs : List W) (n : ℕ) (good : W → Type 0) (v : W) → good v → step ops end get (state p acc st fs n) ≡ Ok (state (p + 1) v st fs (n + 1)) → Gave p acc st fs n 1 good v
  constant p acc st fs n good v g e = record { steps = 1; few = omega arith; after = fs; room = refl; fits = g; comes = record { reaches = (state (p + 1) v st fs (n + 1), (e, refl)) } }

  -- The central lemma.
  pub simulated : (t : Tree) (s : List Slot) (env : List ValueType) (p : ℕ) (acc : W) (st fs : List W) (n : ℕ) (a : ValueType) →
      CodeAt get p (code s t) → Well env t a → Agree ops env (values s st) → tall t ≤ length fs →
      Sim p acc st fs n (long t) (size t) (placed t) (Fits ops a) (worth ops t (values s st))
  simulated (number k pos) s env p acc st fs n a c w g r =
      rw w
      (constant p acc st fs n (Fits ops Number) (ops.number k) tt (step_at ops end get past (Consti k) p acc st fs n c.0))
  simulated (truth b pos) s env p acc st fs n a c w g r =
      rw w
      (constant p acc st fs n (Fits ops Truth) (truth_word ops b) (b, refl) (step_at ops end get past (Consti (plus (cond b 1 0))) p acc st fs n c.0 ∙ ap (λ z. Ok (state (p + 1) z st fs (n + 1))) (truth_is b)))
    where
      truth_is : (b : Bool) → ops.number (plus (cond b 1 0)) ≡ truth_word ops b
      truth_is true = refl
      truth_is false = refl
  simulated (name k pos) s env p acc st fs n a c w g r =
      let f = agree_at ops env (values s st) k a g w in
      let v = f.0 in
      rw f.1.0
      (constant p acc st fs n (Fits ops a) v f.1.1 (step_at ops end get past (Acc (above s k)) p acc st fs n c.0 ∙ ap (λ o. became? o (p + 1) (state p acc st fs n)) (above_is s st k v f.1.0)))
  simulated (prefix o pos t) s env p acc st fs n a c w g r =
      let ca = split_code get t s (Push ∷ Consti (prefix_row_of o).constant ∷ (prefix_row_of o).instruction ∷ []) p c in
      rw w.1
      (one p acc st fs n (long t) (placed t) (placed (prefix o pos t)) (λ i h. cond-true _ _ _ (lt-ltb i (size t) h)) (cond-false _ _ _ (le-ltb (size t) (size t) (omega arith)))
      (Fits ops (prefix_row_of o).takes) (Fits ops (prefix_row_of o).gives)
      (worth ops t (values s st)) (λ x. gives (size t) (turned ops o x)) (ops.number (prefix_row_of o).constant) ca.1.0
      (λ x su gs m. step_at ops end get past (Consti (prefix_row_of o).constant) (p + long t + 1) x su gs m ca.1.1.0) (omega arith)
      (simulated t s env p acc st fs n (prefix_row_of o).takes ca.0 w.0 g (omega arith))
      (λ x m gs f. ends_of (Fits ops (prefix_row_of o).gives) (p + long t + 1 + 1) x (ops.number (prefix_row_of o).constant) st gs m (size t) (turned ops o x) (λ v e. turned_fits ops o x v e)
      (step_at ops end get past (prefix_row_of o).instruction (p + long t + 1 + 1) (ops.number (prefix_row_of o).constant) (x ∷ st) gs m ca.1.1.1.0 ∙ turns ops end o (p + long t + 1 + 1 + 1) (p + long t + 1 + 1) x st gs m)))
  simulated (binary o pos t u) s env p acc st fs n a c w g r =
      let ca = split_code get t s (Push ∷ (code (waiting ∷ s) u ++ (row_of o).instruction ∷ [])) p c in
      let cb = split_code get u (waiting ∷ s) ((row_of o).instruction ∷ []) (p + long t + 1) ca.1.1 in
      rw w.1.1
      (two p acc st fs n (two_places (long t) (long u) (size t) (size u) (placed t) (placed u))
      (Fits ops (row_of o).takes) (Fits ops (row_of o).takes) (Fits ops (row_of o).gives)
      (worth ops t (values s st)) (λ x. worth ops u (values s st)) (λ x y. gives (size t + size u) (joined ops o x y)) ca.1.0 (omega arith)
      (simulated t s env p acc st fs n (row_of o).takes ca.0 w.0 g (omega arith))
      (λ x m gs f l. simulated u (waiting ∷ s) env (p + long t + 1) x (x ∷ st) gs m (row_of o).takes cb.0 w.1.0 g (omega arith))
      (λ x y m gs f h. ends_of (Fits ops (row_of o).gives) (p + long t + 1 + long u) x y st gs m (size t + size u) (joined ops o x y) (λ v e. joined_fits ops o x y v e)
      (step_at ops end get past (row_of o).instruction (p + long t + 1 + long u) y (x ∷ st) gs m cb.1.0 ∙ joins ops law end o (p + long t + 1 + long u + 1) (p + long t + 1 + long u) x y st gs m f h)))
  simulated (choose pos t u v) s env p acc st fs n a c w g r =
      let ct = split_code get t s (Branchif (plus (long v + 2)) ∷ (code s v ++ Branch (plus (long u + 1)) ∷ code s u)) p c in
      let cv = split_code get v s (Branch (plus (long u + 1)) ∷ code s u) (p + long t + 1) ct.1.1 in
      let f = code_fits get end past s u (p + long t + 1 + long v + 1) cv.1.1 in
      three p acc st fs n (long u) (three_places (long t) (long v) (size t) (size u) (size v) (placed t) (placed u) (placed v)) (Fits ops Truth) (Fits ops a)
      ct.1.0 cv.1.0 (omega arith) (worth ops u (values s st)) (worth ops v (values s st))
      (λ x m gs l. simulated u s env (p + long t + 1 + long v + 1) x st gs m a cv.1.1 w.1.0 g (omega arith))
      (λ x m gs l. simulated v s env (p + long t + 1) x st gs m a cv.0 w.1.1 g (omega arith))
      (worth ops t (values s st)) (simulated t s env p acc st fs n Truth ct.0 w.0 g (omega arith))
  simulated (bind pos t u) s env p acc st fs n a c w g r =
      let ca = split_code get t s (Push ∷ (code (bound ∷ s) u ++ Popi 1 ∷ [])) p c in
      let cb = split_code get u (bound ∷ s) (Popi 1 ∷ []) (p + long t + 1) ca.1.1 in
      let b = w.0 in
      two p acc st fs n (two_places (long t) (long u) (size t) (size u) (placed t) (placed u))
      (Fits ops b) (Fits ops a) (Fits ops a)
      (worth ops t (values s st)) (λ x. worth ops u (x ∷ values s st)) (λ x y. word y) ca.1.0 (omega arith)
      (simulated t s env p acc st fs n b ca.0 w.1.0 g (omega arith))
      (λ x m gs f l. simulated u (bound ∷ s) (b ∷ env) (p + long t + 1) x (x ∷ st) gs m a cb.0 w.1.1 (f, g) (omega arith))
      (λ x y m gs f h. (h, step_at ops end get past (Popi 1) (p + long t + 1 + long u) y (x ∷ st) gs m cb.1.0 ∙ cond-true _ _ _ (le-leb 1 (length (x ∷ st)) (omega arith))))
