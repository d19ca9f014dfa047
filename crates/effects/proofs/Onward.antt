-- No way through a rule stops before its end.
use Rattle.std.proofs.Common.{◌≡◌, ℕ, ◌+◌, cond, ◌⊎◌, List, [], ◌∷◌, ◌++◌, Some, sym, refl, ap, ◌∙◌, subst, inl, inr, arith}
use Rattle.std.specs.List.{slice_get}
use Rattle.bytecode.specs.Words.{plus}
use Rattle.bytecode.specs.declared.instruction.Instruction.{Instruction}
use Rattle.bytecode.specs.declared.instruction.Instruction.TheVariants.{Push, Consti, Acc, Popi, Branch, Branchif}
use Rattle.language.specs.Code.{Slot, bound, waiting, above, code, long, translation, field_slots}
use Rattle.language.specs.Operators.{row_of, prefix_row_of}
use Rattle.language.specs.Tree.{Tree, number, truth, name, prefix, binary, choose, bind}
use Rattle.effects.specs.Effects.{after, Next, Leads}
use Rattle.effects.specs.Laws.{GoesOn}
use Rattle.effects.proofs.Fed.{four, five}
use Rattle.effects.proofs.Heights.{Spot, Inside, reached}
use Rattle.effects.proofs.Lengths.{Lies, cut_code, lies}
use Rattle.effects.proofs.Reached.{operator_next, prefix_next}

module _ (whole : List Instruction) (q h : ℕ) where
  abbrev On : Type 0
  On = (r : ℕ) × (k : ℕ) × Leads whole q h r k

  steps_on : (w : Instruction) (p b r : ℕ) → slice_get whole p ≡ Some w → Next w p r → Spot p b q h → On
  steps_on w p b r known next at =
      (r, after w h, record { word = w; there = ap (slice_get whole) at.place ∙ known; next = subst (λ x. Next w x r) (sym at.place) next; high = refl })

  goes : (t : Tree) (s : List Slot) (p b : ℕ) → Lies whole p (code s t) → Inside t p b q h → On
  goes (number k x) s p b c e = steps_on (Consti k) p b (p + 1) c.0 refl e
  goes (truth v x) s p b c e = steps_on (Consti (plus (cond v 1 0))) p b (p + 1) c.0 refl e
  goes (name k x) s p b c e = steps_on (Acc (above s k)) p b (p + 1) c.0 refl e
  goes (prefix o x t) s p b c e =
      let d = cut_code whole s t (Push ∷ Consti (prefix_row_of o).constant ∷ (prefix_row_of o).instruction ∷ []) p c in
      four e (λ g. goes t s p b d.0 g)
      (λ g. steps_on Push (p + long t) b (p + long t + 1) d.1.0 refl g)
      (λ g. steps_on (Consti (prefix_row_of o).constant) (p + long t + 1) (b + 1) (p + long t + 1 + 1) d.1.1.0 refl g)
      (λ g. steps_on (prefix_row_of o).instruction (p + long t + 1 + 1) (b + 1) (p + long t + 1 + 1 + 1) d.1.1.1.0 (prefix_next o (p + long t + 1 + 1)) g)
  goes (binary o x t u) s p b c e =
      let d = cut_code whole s t (Push ∷ (code (waiting ∷ s) u ++ (row_of o).instruction ∷ [])) p c in
      let f = cut_code whole (waiting ∷ s) u ((row_of o).instruction ∷ []) (p + long t + 1) d.1.1 in
      four e (λ g. goes t s p b d.0 g)
      (λ g. steps_on Push (p + long t) b (p + long t + 1) d.1.0 refl g)
      (λ g. goes u (waiting ∷ s) (p + long t + 1) (b + 1) f.0 g)
      (λ g. steps_on (row_of o).instruction (p + long t + 1 + long u) (b + 1) (p + long t + 1 + long u + 1) f.1.0 (operator_next o (p + long t + 1 + long u)) g)
  goes (choose x t u v) s p b c e =
      let d = cut_code whole s t (Branchif (plus (long v + 2)) ∷ (code s v ++ Branch (plus (long u + 1)) ∷ code s u)) p c in
      let f = cut_code whole s v (Branch (plus (long u + 1)) ∷ code s u) (p + long t + 1) d.1.1 in
      five e (λ g. goes t s p b d.0 g)
      (λ g. steps_on (Branchif (plus (long v + 2))) (p + long t) b (p + long t + 1) d.1.0 (inl refl) g)
      (λ g. goes v s (p + long t + 1) b f.0 g)
      (λ g. steps_on (Branch (plus (long u + 1))) (p + long t + 1 + long v) b (p + long t + 1 + long v + (long u + 1)) f.1.0 refl g)
      (λ g. goes u s (p + long t + 1 + long v + 1) b f.1.1 g)
  goes (bind x t u) s p b c e =
      let d = cut_code whole s t (Push ∷ (code (bound ∷ s) u ++ Popi 1 ∷ [])) p c in
      let f = cut_code whole (bound ∷ s) u (Popi 1 ∷ []) (p + long t + 1) d.1.1 in
      four e (λ g. goes t s p b d.0 g)
      (λ g. steps_on Push (p + long t) b (p + long t + 1) d.1.0 refl g)
      (λ g. goes u (bound ∷ s) (p + long t + 1) (b + 1) f.0 g)
      (λ g. steps_on (Popi 1) (p + long t + 1 + long u) (b + 1) (p + long t + 1 + long u + 1) f.1.0 refl g)

pub goes_on : GoesOn
goes_on t q h w few = on (reached t w)
  where
    on : Inside t 0 8 q h ⊎ Spot (0 + long t) 8 q h → On (translation t) q h
    on (inl e) = goes (translation t) q h t field_slots 0 8 (lies (translation t)) e
    on (inr e) = absurd (omega arith)
