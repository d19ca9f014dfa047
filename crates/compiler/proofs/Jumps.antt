-- Jumps over the branches of an if.
use Rattle.std.proofs.Common.{◌≡◌, ℕ, ◌+◌, ◌≤◌, min, Bool, true, false, cond, List, [], ◌∷◌, Some, None, Ok, Option, Result, refl, sym, ap, ◌∙◌, subst, arith}
use Rattle.std.proofs.lemmas.Bool.{or_parts, ltb-false}
use Rattle.std.proofs.lemmas.Grind.{common_steps}
use Rattle.refusal.specs.declared.Refusal.{Refusal}
use Rattle.bytecode.specs.Words.{plus, written}
use Rattle.bytecode.specs.declared.instruction.Instruction.{Instruction}
use Rattle.bytecode.specs.declared.instruction.Instruction.TheVariants.{Branch, Branchif}
use Rattle.bytecode.specs.declared.instruction.Word.{Word}
use Rattle.language.specs.Code.{long, wide, or_else}
use Rattle.language.specs.Tree.{Tree, choose, flatten}
use Rattle.language.specs.declared.entry.Entry.{Entry}
use Rattle.parts.specs.Nodes.{ChooseRoot}
use Rattle.shapes.specs.Shapes.{shape_of}
use Rattle.shapes.specs.declared.shape.Shape.{Shape}
use Rattle.compiler.specs.Emitting.{Adds, Emits}

none_right : (a b : Option ℕ) → or_else a b ≡ None → b ≡ None
none_right None b e = e
none_right (Some x) b e = let z : ◌≡◌ {A = ℕ} 0 1 = cc in absurd (omega arith)

unmarked : (b : Bool) (p : ℕ) → cond b (Some p) None ≡ None → b ≡ false
unmarked true p e = let z : ◌≡◌ {A = ℕ} 0 1 = cc in absurd (omega arith)
unmarked false p e = refl

-- an if that is not too wide has short branches
pub short : (p : ℕ) (t u v : Tree) → wide (choose p t u v) ≡ None → (long u ≤ 254) × (long v ≤ 253)
short p t u v e =
    let w = or_parts _ _ (unmarked _ p (none_right (wide v) _ (none_right (wide u) _ (none_right (wide t) _ e)))) in
    (ltb-false _ _ w.0, ltb-false _ _ w.1)

-- the code of an if whose parts' code was added
pub choice_emits : (es xs ys zs : List Entry) (spots : List ℕ) (high room p : ℕ) (x y : Shape) (i j : Instruction) (r : Result (Unit {0}) Refusal) (b₀ b₁ b₂ b₃ b₄ b₅ : List Word) →
    ((t : Tree) → es ≡ flatten t → ChooseRoot t p xs ys zs) →
    ((t : Tree) → ys ≡ flatten t → x ≡ shape_of t) → ((t : Tree) → zs ≡ flatten t → y ≡ shape_of t) →
    i ≡ Branchif (plus (min (y.length + 2) 255)) → j ≡ Branch (plus (min (x.length + 1) 255)) →
    Emits xs spots high room (Ok tt) b₀ b₁ → Adds room (Ok tt) b₁ b₂ (written i ∷ []) →
    Emits zs spots high room (Ok tt) b₂ b₃ → Adds room (Ok tt) b₃ b₄ (written j ∷ []) →
    Emits ys spots high room r b₄ b₅ → Emits es spots high room r b₀ b₅
choice_emits es xs ys zs spots high room p x y i j r b₀ b₁ b₂ b₃ b₄ b₅ root first second over_else over_then f g f' g' f'' t s h l k m n =
    let v = root t h in
    let w = short p v.test v.first v.second (sym (ap wide v.is) ∙ n) in
    grind (arith, common_steps)

-- the same at an equal room and layout
pub adds_at : {room was : ℕ} (r : Result (Unit {0}) Refusal) (b₀ b₁ ws : List Word) → room ≡ was → Adds room r b₀ b₁ ws → Adds was r b₀ b₁ ws
adds_at r b₀ b₁ ws e f = subst (λ (x : ℕ). Adds x r b₀ b₁ ws) e f

pub emits_at : {spots was : List ℕ} {high low room full : ℕ} (es : List Entry) (r : Result (Unit {0}) Refusal) (b₀ b₁ : List Word) → spots ≡ was → high ≡ low → room ≡ full →
    Emits es spots high room r b₀ b₁ → Emits es was low full r b₀ b₁
emits_at {was = was} {high = high} {low = low} {room = room} es r b₀ b₁ p q e f =
    subst (λ (x : ℕ). Emits es was low x r b₀ b₁) e (subst (λ (x : ℕ). Emits es was x room r b₀ b₁) q (subst (λ (x : List ℕ). Emits es x high room r b₀ b₁) p f))
