-- The whole translation.
use Rattle.std.proofs.Common.{◌≡◌, ℕ, ◌+◌, ◌≤◌, List, [], ◌∷◌, ◌++◌, map, length, None, Ok, Err, Result, refl, sym, ap, ◌∙◌, arith, length-append}
use Rattle.std.proofs.lemmas.List.{length-map}
use Rattle.refusal.specs.declared.Refusal.{Refusal}
use Rattle.bytecode.specs.Words.{written}
use Rattle.bytecode.specs.declared.instruction.Word.{Word}
use Rattle.language.proofs.Lengths.{length-code}
use Rattle.language.specs.Code.{Slot, bound, waiting, code, long, tall, field_slots, translation, refusal_of}
use Rattle.language.specs.Tree.{Tree, number, truth, name, prefix, binary, choose, bind, flatten}
use Rattle.language.specs.declared.entry.Entry.{Entry}
use Rattle.compiler.specs.Emitting.{Emits}
use Rattle.compiler.specs.Layouts.{spots_of}
use Rattle.compiler.specs.Translating.{reason_for}
use Rattle.shapes.specs.Shapes.{shape_of}
use Rattle.shapes.specs.declared.shape.Shape.{Shape}

-- where there is no reason against it, the code is low, thin and short
pub record Accepted (room : ℕ) (m : Shape) : Type 0 where
  pub low : 8 + m.tall ≤ 128
  pub thin : m.wide ≡ None
  pub short : m.length ≤ room

pub accepted : (room : ℕ) (m : Shape) → reason_for room m ≡ None → Accepted room m
accepted room m e = record { low = grind arith; thin = grind arith; short = grind arith }

-- what a table that is not refused leaves, if it holds the tree t
pub record Whole (room : ℕ) (r : Result (Unit {0}) Refusal) (after : List Word) (t : Tree) : Type 0 where
  pub answer : r ≡ Ok tt
  pub words : after ≡ map written (translation t)
  pub free : refusal_of room t ≡ None

pub whole : (es : List Entry) (spots : List ℕ) (high cap room was : ℕ) (m : Shape) (r : Result (Unit {0}) Refusal) (before after : List Word) → ((t : Tree) → es ≡ flatten t → m ≡ shape_of t) →
    reason_for cap m ≡ None → cap ≡ was → room ≡ was → spots ≡ spots_of field_slots → high ≡ 8 → before ≡ [] → Emits es spots high room r before after →
    (t : Tree) → es ≡ flatten t → Whole was r after t
whole es spots high cap room was m r before after q e i j l k b f t h =
    let n : reason_for was (shape_of t) ≡ None = sym (ap (reason_for cap) (q t h) ∙ ap (λ x. reason_for x (shape_of t)) i) ∙ e in
    let a = accepted was (shape_of t) n in
    let c : length (map written (translation t)) ≡ long t = length-map (translation t) written ∙ length-code field_slots t in
    let z : length before ≡ 0 = ap length b in
    let lowness : 8 + tall t ≤ 128 = a.low in
    let shortness : long t ≤ was = a.short in
    let w = f t field_slots h (sym l) (sym k) (omega arith) a.thin (omega arith) in
    record { answer = w.0; words = w.1 ∙ ap (λ x. x ++ map written (translation t)) b; free = n }

pub no_refusal : (room : ℕ) (x : Refusal) (after : List Word) (t : Tree) → Whole room (Err x) after t → ⊥
no_refusal room x after t w = let p = w.answer in let z : ◌≡◌ {A = ℕ} 0 1 = cc in omega arith
