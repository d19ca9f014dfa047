-- Each word that is reached finds what it needs.
use Rattle.std.proofs.Common.{◌≡◌, ℕ, zero, suc, ◌+◌, ◌<◌, ◌≤◌, cond, ◌⊎◌, List, [], ◌∷◌, ◌++◌, length, Some, None, sym, refl, ap, ◌∙◌, subst, inl, inr, arith}
use Rattle.std.specs.List.{slice_get}
use Rattle.std.proofs.lemmas.Option.{slice_get_past}
use Rattle.bytecode.specs.Words.{plus}
use Rattle.bytecode.specs.declared.instruction.Instruction.{Instruction}
use Rattle.bytecode.specs.declared.instruction.Instruction.TheVariants.{Push, Consti, Acc, Popi, Branch, Branchif}
use Rattle.grammar.specs.Grammar.{Bound}
use Rattle.language.specs.Code.{Slot, bound, waiting, above, code, long, translation, field_slots}
use Rattle.language.specs.Operators.{row_of, prefix_row_of}
use Rattle.language.specs.Tree.{Tree, number, truth, name, prefix, binary, choose, bind}
use Rattle.language.specs.declared.operator.Operator.{Operator}
use Rattle.language.specs.declared.operator.Operator.TheVariants.{Or, And, Equal, AtMost, Plus, Times}
use Rattle.language.specs.declared.operator.Prefix.{Prefix}
use Rattle.language.specs.declared.operator.Prefix.TheVariants.{Not, Increment}
use Rattle.effects.specs.Laws.{Finds, IsFed}
use Rattle.effects.proofs.Heights.{Spot, Inside, reached}
use Rattle.effects.proofs.Lengths.{Lies, cut_code, lies}
use Rattle.language.proofs.Lengths.{length-code}

-- how many bindings are on the stack
abbrev bindings : List Slot → ℕ
bindings [] = 0
bindings (bound ∷ s) = bindings s + 1
bindings (waiting ∷ s) = bindings s

above_within : (s : List Slot) (k : ℕ) → k < bindings s → above s k < length s
above_within [] k h = absurd (omega arith)
above_within (waiting ∷ s) k h = let e = above_within s k h in omega arith
above_within (bound ∷ s) zero h = omega arith
above_within (bound ∷ s) (suc k) h = let e = above_within s k (omega arith) in omega arith

operator_finds : (o : Operator) (b : ℕ) → 8 ≤ b → Finds (row_of o).instruction (b + 1)
operator_finds Or b low = record { needs = omega arith; own = omega arith }
operator_finds And b low = record { needs = omega arith; own = omega arith }
operator_finds Equal b low = record { needs = omega arith; own = omega arith }
operator_finds AtMost b low = record { needs = omega arith; own = omega arith }
operator_finds Plus b low = record { needs = omega arith; own = omega arith }
operator_finds Times b low = record { needs = omega arith; own = omega arith }

prefix_finds : (o : Prefix) (b : ℕ) → 8 ≤ b → Finds (prefix_row_of o).instruction (b + 1)
prefix_finds Not b low = record { needs = omega arith; own = omega arith }
prefix_finds Increment b low = record { needs = omega arith; own = omega arith }

-- cases of four, and of five
pub four : {A B C D G : Type 0} → A ⊎ (B ⊎ (C ⊎ D)) → (A → G) → (B → G) → (C → G) → (D → G) → G
four (inl x) a b c d = a x
four (inr (inl x)) a b c d = b x
four (inr (inr (inl x))) a b c d = c x
four (inr (inr (inr x))) a b c d = d x

pub five : {A B C D E G : Type 0} → A ⊎ (B ⊎ (C ⊎ (D ⊎ E))) → (A → G) → (B → G) → (C → G) → (D → G) → (E → G) → G
five (inl x) a b c d e = a x
five (inr (inl x)) a b c d e = b x
five (inr (inr (inl x))) a b c d e = c x
five (inr (inr (inr (inl x)))) a b c d e = d x
five (inr (inr (inr (inr x)))) a b c d e = e x

module _ (whole : List Instruction) (q h : ℕ) (i : Instruction) (there : slice_get whole q ≡ Some i) where
  finds : (w : Instruction) (p b : ℕ) → slice_get whole p ≡ Some w → Finds w b → Spot p b q h → Finds i h
  finds w p b known f at =
      let g : slice_get whole q ≡ Some w = ap (slice_get whole) at.place ∙ known in
      let e : w ≡ i = cc in
      subst (λ x. Finds x h) e (subst (λ x. Finds w x) (sym at.high) f)

  fed : (t : Tree) (s : List Slot) (p b : ℕ) → Lies whole p (code s t) → Bound (bindings s) t → length s ≡ b → 8 ≤ b → Inside t p b q h → Finds i h
  fed (number k x) s p b c n l low e = finds (Consti k) p b c.0 (record { needs = omega arith; own = omega arith }) e
  fed (truth v x) s p b c n l low e = finds (Consti (plus (cond v 1 0))) p b c.0 (record { needs = omega arith; own = omega arith }) e
  fed (name k x) s p b c n l low e =
      let a = above_within s k n in
      finds (Acc (above s k)) p b c.0 (record { needs = omega arith; own = omega arith }) e
  fed (prefix o x t) s p b c n l low e =
      let d = cut_code whole s t (Push ∷ Consti (prefix_row_of o).constant ∷ (prefix_row_of o).instruction ∷ []) p c in
      four e (λ g. fed t s p b d.0 n l low g)
      (λ g. finds Push (p + long t) b d.1.0 (record { needs = omega arith; own = omega arith }) g)
      (λ g. finds (Consti (prefix_row_of o).constant) (p + long t + 1) (b + 1) d.1.1.0 (record { needs = omega arith; own = omega arith }) g)
      (λ g. finds (prefix_row_of o).instruction (p + long t + 1 + 1) (b + 1) d.1.1.1.0 (prefix_finds o b low) g)
  fed (binary o x t u) s p b c n l low e =
      let d = cut_code whole s t (Push ∷ (code (waiting ∷ s) u ++ (row_of o).instruction ∷ [])) p c in
      let f = cut_code whole (waiting ∷ s) u ((row_of o).instruction ∷ []) (p + long t + 1) d.1.1 in
      four e (λ g. fed t s p b d.0 n.0 l low g)
      (λ g. finds Push (p + long t) b d.1.0 (record { needs = omega arith; own = omega arith }) g)
      (λ g. fed u (waiting ∷ s) (p + long t + 1) (b + 1) f.0 n.1 (omega arith) (omega arith) g)
      (λ g. finds (row_of o).instruction (p + long t + 1 + long u) (b + 1) f.1.0 (operator_finds o b low) g)
  fed (choose x t u v) s p b c n l low e =
      let d = cut_code whole s t (Branchif (plus (long v + 2)) ∷ (code s v ++ Branch (plus (long u + 1)) ∷ code s u)) p c in
      let f = cut_code whole s v (Branch (plus (long u + 1)) ∷ code s u) (p + long t + 1) d.1.1 in
      five e (λ g. fed t s p b d.0 n.0 l low g)
      (λ g. finds (Branchif (plus (long v + 2))) (p + long t) b d.1.0 (record { needs = omega arith; own = omega arith }) g)
      (λ g. fed v s (p + long t + 1) b f.0 n.1.1 l low g)
      (λ g. finds (Branch (plus (long u + 1))) (p + long t + 1 + long v) b f.1.0 (record { needs = omega arith; own = omega arith }) g)
      (λ g. fed u s (p + long t + 1 + long v + 1) b f.1.1 n.1.0 l low g)
  fed (bind x t u) s p b c n l low e =
      let d = cut_code whole s t (Push ∷ (code (bound ∷ s) u ++ Popi 1 ∷ [])) p c in
      let f = cut_code whole (bound ∷ s) u (Popi 1 ∷ []) (p + long t + 1) d.1.1 in
      four e (λ g. fed t s p b d.0 n.0 l low g)
      (λ g. finds Push (p + long t) b d.1.0 (record { needs = omega arith; own = omega arith }) g)
      (λ g. fed u (bound ∷ s) (p + long t + 1) (b + 1) f.0 n.1 (omega arith) (omega arith) g)
      (λ g. finds (Popi 1) (p + long t + 1 + long u) (b + 1) f.1.0 (record { needs = omega arith; own = omega arith }) g)

pub is_fed : IsFed
is_fed t q h i n w there = on (reached t w)
  where
    on : Inside t 0 8 q h ⊎ Spot (0 + long t) 8 q h → Finds i h
    on (inl e) = fed (translation t) q h i there t field_slots 0 8 (lies (translation t)) n refl (omega arith) e
    on (inr e) =
        let l = length-code field_slots t in
        let f : slice_get (translation t) q ≡ None = slice_get_past (translation t) q (omega arith) in
        let z : ◌≡◌ {A = ℕ} 0 1 = cc in
        absurd (omega arith)
