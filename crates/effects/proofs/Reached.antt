-- The end of a rule is reached, and so is its height.
use Rattle.std.proofs.Common.{◌≡◌, ℕ, ◌+◌, max, cond, List, [], ◌∷◌, ◌++◌, Some, refl, subst, inl, inr, arith}
use native.Mathlib.Omega.{max_cases}
use Rattle.std.specs.List.{slice_get}
use Rattle.bytecode.specs.Words.{plus}
use Rattle.bytecode.specs.declared.instruction.Instruction.{Instruction}
use Rattle.bytecode.specs.declared.instruction.Instruction.TheVariants.{Push, Consti, Acc, Popi, Branch, Branchif}
use Rattle.language.specs.Code.{Slot, bound, waiting, above, code, long, tall, translation, field_slots}
use Rattle.language.specs.Operators.{row_of, prefix_row_of}
use Rattle.language.specs.Tree.{Tree, number, truth, name, prefix, binary, choose, bind}
use Rattle.language.specs.declared.operator.Operator.{Operator}
use Rattle.language.specs.declared.operator.Operator.TheVariants.{Or, And, Equal, AtMost, Plus, Times}
use Rattle.language.specs.declared.operator.Prefix.{Prefix}
use Rattle.language.specs.declared.operator.Prefix.TheVariants.{Not, Increment}
use Rattle.effects.specs.Effects.{after, Next, Walks, here, more}
use Rattle.effects.specs.Laws.{ReachesHeight}
use Rattle.effects.proofs.Lengths.{Lies, cut_code, lies}

pub operator_next : (o : Operator) (p : ℕ) → Next (row_of o).instruction p (p + 1)
operator_next Or p = refl
operator_next And p = refl
operator_next Equal p = refl
operator_next AtMost p = refl
operator_next Plus p = refl
operator_next Times p = refl

operator_after : (o : Operator) (b : ℕ) → b ≡ after (row_of o).instruction (b + 1)
operator_after Or b = omega arith
operator_after And b = omega arith
operator_after Equal b = omega arith
operator_after AtMost b = omega arith
operator_after Plus b = omega arith
operator_after Times b = omega arith

pub prefix_next : (o : Prefix) (p : ℕ) → Next (prefix_row_of o).instruction p (p + 1)
prefix_next Not p = refl
prefix_next Increment p = refl

prefix_after : (o : Prefix) (b : ℕ) → b ≡ after (prefix_row_of o).instruction (b + 1)
prefix_after Not b = omega arith
prefix_after Increment b = omega arith

module _ (whole : List Instruction) where
  -- one walk, and then another
  then : {p h q k r j : ℕ} → Walks whole p h q k → Walks whole q k r j → Walks whole p h r j
  then v here = v
  then v (more w go) = more (then v w) go

  -- the step of a known word
  by : (i : Instruction) (p h q k : ℕ) → slice_get whole p ≡ Some i → Next i p q → k ≡ after i h → Walks whole p h q k
  by i p h q k e n m = more here (record { word = i; there = e; next = n; high = m })

  -- two parts, through the first and its push
  enters : (t : Tree) (p b : ℕ) → Walks whole p b (p + long t) b → slice_get whole (p + long t) ≡ Some Push → Walks whole p b (p + long t + 1) (b + 1)
  enters t p b w push = then w (by Push (p + long t) b (p + long t + 1) (b + 1) push refl (omega arith))

  through : (t : Tree) (s : List Slot) (p b : ℕ) → Lies whole p (code s t) → Walks whole p b (p + long t) b
  through (number k x) s p b c = by (Consti k) p b (p + 1) b c.0 refl (omega arith)
  through (truth v x) s p b c = by (Consti (plus (cond v 1 0))) p b (p + 1) b c.0 refl (omega arith)
  through (name k x) s p b c = by (Acc (above s k)) p b (p + 1) b c.0 refl (omega arith)
  through (prefix o x t) s p b c =
      let d = cut_code whole s t (Push ∷ Consti (prefix_row_of o).constant ∷ (prefix_row_of o).instruction ∷ []) p c in
      let e : p + long t + 1 + 1 + 1 ≡ p + (long t + 3) = omega arith in
      subst (λ q. Walks whole p b q b) e
      (then (then (enters t p b (through t s p b d.0) d.1.0)
      (by (Consti (prefix_row_of o).constant) (p + long t + 1) (b + 1) (p + long t + 1 + 1) (b + 1) d.1.1.0 refl (omega arith)))
      (by (prefix_row_of o).instruction (p + long t + 1 + 1) (b + 1) (p + long t + 1 + 1 + 1) b d.1.1.1.0 (prefix_next o (p + long t + 1 + 1)) (prefix_after o b)))
  through (binary o x t u) s p b c =
      let d = cut_code whole s t (Push ∷ (code (waiting ∷ s) u ++ (row_of o).instruction ∷ [])) p c in
      let f = cut_code whole (waiting ∷ s) u ((row_of o).instruction ∷ []) (p + long t + 1) d.1.1 in
      let e : p + long t + 1 + long u + 1 ≡ p + (long t + 1 + long u + 1) = omega arith in
      subst (λ q. Walks whole p b q b) e
      (then (then (enters t p b (through t s p b d.0) d.1.0) (through u (waiting ∷ s) (p + long t + 1) (b + 1) f.0))
      (by (row_of o).instruction (p + long t + 1 + long u) (b + 1) (p + long t + 1 + long u + 1) b f.1.0 (operator_next o (p + long t + 1 + long u)) (operator_after o b)))
  through (choose x t u v) s p b c =
      let d = cut_code whole s t (Branchif (plus (long v + 2)) ∷ (code s v ++ Branch (plus (long u + 1)) ∷ code s u)) p c in
      let f = cut_code whole s v (Branch (plus (long u + 1)) ∷ code s u) (p + long t + 1) d.1.1 in
      let e : p + long t + 1 + long v + (long u + 1) ≡ p + (long t + 1 + long v + 1 + long u) = omega arith in
      subst (λ q. Walks whole p b q b) e
      (then (then (then (through t s p b d.0)
      (by (Branchif (plus (long v + 2))) (p + long t) b (p + long t + 1) b d.1.0 (inl refl) (omega arith)))
      (through v s (p + long t + 1) b f.0))
      (by (Branch (plus (long u + 1))) (p + long t + 1 + long v) b (p + long t + 1 + long v + (long u + 1)) b f.1.0 refl (omega arith)))
  through (bind x t u) s p b c =
      let d = cut_code whole s t (Push ∷ (code (bound ∷ s) u ++ Popi 1 ∷ [])) p c in
      let f = cut_code whole (bound ∷ s) u (Popi 1 ∷ []) (p + long t + 1) d.1.1 in
      let e : p + long t + 1 + long u + 1 ≡ p + (long t + 1 + long u + 1) = omega arith in
      subst (λ q. Walks whole p b q b) e
      (then (then (enters t p b (through t s p b d.0) d.1.0) (through u (bound ∷ s) (p + long t + 1) (b + 1) f.0))
      (by (Popi 1) (p + long t + 1 + long u) (b + 1) (p + long t + 1 + long u + 1) b f.1.0 refl (omega arith)))

  -- some place at that height
  abbrev Up : ℕ → ℕ → ℕ → Type 0
  Up p b h = (q : ℕ) × Walks whole p b q h

  up_so : (p b h k : ℕ) → h ≡ k → Up p b h → Up p b k
  up_so p b h k e u = (u.0, subst (λ x. Walks whole p b u.0 x) e u.1)

  -- the higher of two
  higher : (p b m n : ℕ) → Up p b (b + m) → Up p b (b + n) → Up p b (b + max m n)
  higher p b m n u v =
      max_cases m n (Up p b (b + max m n)) (λ l e. up_so p b (b + n) (b + max m n) (omega arith) v) (λ l e. up_so p b (b + m) (b + max m n) (omega arith) u)

  behind : (p b q k h : ℕ) → Walks whole p b q k → Up q k h → Up p b h
  behind p b q k h w u = (u.0, then w u.1)

  up : (t : Tree) (s : List Slot) (p b : ℕ) → Lies whole p (code s t) → Up p b (b + tall t)
  up (number k x) s p b c = up_so p b b (b + 0) (omega arith) (p, here)
  up (truth v x) s p b c = up_so p b b (b + 0) (omega arith) (p, here)
  up (name k x) s p b c = up_so p b b (b + 0) (omega arith) (p, here)
  up (prefix o x t) s p b c =
      let d = cut_code whole s t (Push ∷ Consti (prefix_row_of o).constant ∷ (prefix_row_of o).instruction ∷ []) p c in
      higher p b (tall t) 1 (up t s p b d.0) (p + long t + 1, enters t p b (through t s p b d.0) d.1.0)
  up (binary o x t u) s p b c =
      let d = cut_code whole s t (Push ∷ (code (waiting ∷ s) u ++ (row_of o).instruction ∷ [])) p c in
      let f = cut_code whole (waiting ∷ s) u ((row_of o).instruction ∷ []) (p + long t + 1) d.1.1 in
      higher p b (tall t) (tall u + 1) (up t s p b d.0)
      (up_so p b (b + 1 + tall u) (b + (tall u + 1)) (omega arith)
      (behind p b (p + long t + 1) (b + 1) (b + 1 + tall u) (enters t p b (through t s p b d.0) d.1.0) (up u (waiting ∷ s) (p + long t + 1) (b + 1) f.0)))
  up (choose x t u v) s p b c =
      let d = cut_code whole s t (Branchif (plus (long v + 2)) ∷ (code s v ++ Branch (plus (long u + 1)) ∷ code s u)) p c in
      let f = cut_code whole s v (Branch (plus (long u + 1)) ∷ code s u) (p + long t + 1) d.1.1 in
      let e : p + long t + 1 + long v + 1 ≡ p + long t + (long v + 2) = omega arith in
      let w = through t s p b d.0 in
      higher p b (tall t) (max (tall u) (tall v)) (up t s p b d.0)
      (higher p b (tall u) (tall v)
      (behind p b (p + long t + 1 + long v + 1) b (b + tall u)
      (then w (by (Branchif (plus (long v + 2))) (p + long t) b (p + long t + 1 + long v + 1) b d.1.0 (inr e) (omega arith)))
      (up u s (p + long t + 1 + long v + 1) b f.1.1))
      (behind p b (p + long t + 1) b (b + tall v)
      (then w (by (Branchif (plus (long v + 2))) (p + long t) b (p + long t + 1) b d.1.0 (inl refl) (omega arith)))
      (up v s (p + long t + 1) b f.0)))
  up (bind x t u) s p b c =
      let d = cut_code whole s t (Push ∷ (code (bound ∷ s) u ++ Popi 1 ∷ [])) p c in
      let f = cut_code whole (bound ∷ s) u (Popi 1 ∷ []) (p + long t + 1) d.1.1 in
      higher p b (tall t) (tall u + 1) (up t s p b d.0)
      (up_so p b (b + 1 + tall u) (b + (tall u + 1)) (omega arith)
      (behind p b (p + long t + 1) (b + 1) (b + 1 + tall u) (enters t p b (through t s p b d.0) d.1.0) (up u (bound ∷ s) (p + long t + 1) (b + 1) f.0)))

pub reaches : ReachesHeight
reaches t =
    let e : 0 + long t ≡ long t = omega arith in
    let c = lies (translation t) in
    let u = up (translation t) t field_slots 0 8 c in
    record { end = subst (λ q. Walks (translation t) 0 8 q 8) e (through (translation t) t field_slots 0 8 c); top = u.0; high = u.1 }
