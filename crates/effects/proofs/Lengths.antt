-- How many words a tree becomes, and where they lie in the whole.
use Rattle.std.proofs.Common.{◌≡◌, ℕ, ◌+◌, ◌*◌, ◌<◌, ◌≤◌, List, [], ◌∷◌, ◌++◌, length, Some, refl, subst, append_assoc, arith, length-append}
use Rattle.std.specs.List.{slice_get}
use Rattle.bytecode.specs.declared.instruction.Instruction.{Instruction}
use Rattle.language.proofs.Lengths.{length-code, long_some}
use Rattle.language.specs.Code.{Slot, bound, waiting, code, long, tall, field_slots}
use Rattle.language.specs.Tree.{Tree, number, truth, name, prefix, binary, choose, bind, size}
use Rattle.effects.specs.Laws.{AreShort}

long_few : (t : Tree) → long t ≤ 3 * size t
long_few (number k x) = omega arith
long_few (truth b x) = omega arith
long_few (name k x) = omega arith
long_few (prefix o x t) = let e = long_few t in omega arith
long_few (binary o x t u) = let e = long_few t in let f = long_few u in omega arith
long_few (choose x t u v) = let e = long_few t in let f = long_few u in let g = long_few v in omega arith
long_few (bind x t u) = let e = long_few t in let f = long_few u in omega arith

tall_low : (t : Tree) → tall t < size t
tall_low (number k x) = omega arith
tall_low (truth b x) = omega arith
tall_low (name k x) = omega arith
tall_low (prefix o x t) = let e = tall_low t in omega arith
tall_low (binary o x t u) = let e = tall_low t in let f = tall_low u in omega arith
tall_low (choose x t u v) = let e = tall_low t in let f = tall_low u in let g = tall_low v in omega arith
tall_low (bind x t u) = let e = tall_low t in let f = tall_low u in omega arith

pub short : AreShort
short t = record { words = length-code field_slots t; some = long_some t; few = long_few t; low = tall_low t }

-- words that lie in the whole from the place p on
abbrev pub Lies : List Instruction → ℕ → List Instruction → Type 0
Lies whole p [] = Unit {0}
Lies whole p (i ∷ is) = (slice_get whole p ≡ Some i) × Lies whole (p + 1) is

cut : (whole xs ys : List Instruction) (p : ℕ) → Lies whole p (xs ++ ys) → Lies whole p xs × Lies whole (p + length xs) ys
cut whole [] ys p h = let e : p ≡ p + 0 = omega arith in (tt, subst (λ q. Lies whole q ys) e h)
cut whole (x ∷ xs) ys p h =
    let r = cut whole xs ys (p + 1) h.1 in
    let e : p + 1 + length xs ≡ p + length (x ∷ xs) = omega arith in
    ((h.0, r.0), subst (λ q. Lies whole q ys) e r.1)

pub cut_code : (whole : List Instruction) (s : List Slot) (t : Tree) (ys : List Instruction) (p : ℕ) →
    Lies whole p (code s t ++ ys) → Lies whole p (code s t) × Lies whole (p + long t) ys
cut_code whole s t ys p h =
    let r = cut whole (code s t) ys p h in
    (r.0, subst (λ n. Lies whole (p + n) ys) (length-code s t) r.1)

nth_behind : (xs : List Instruction) (y : Instruction) (ys : List Instruction) → slice_get (xs ++ y ∷ ys) (length xs) ≡ Some y
nth_behind [] y ys = refl
nth_behind (x ∷ xs) y ys = nth_behind xs y ys

lies_behind : (xs ys : List Instruction) → Lies (xs ++ ys) (length xs) ys
lies_behind xs [] = tt
lies_behind xs (y ∷ ys) =
    let e : (xs ++ y ∷ []) ++ ys ≡ xs ++ y ∷ ys = append_assoc xs (y ∷ []) ys in
    let l : length (xs ++ y ∷ []) ≡ length xs + 1 = simp length-append in
    (nth_behind xs y ys, subst (λ n. Lies (xs ++ y ∷ ys) n ys) l (subst (λ w. Lies w (length (xs ++ y ∷ [])) ys) e (lies_behind (xs ++ y ∷ []) ys)))

pub lies : (xs : List Instruction) → Lies xs 0 xs
lies xs = lies_behind [] xs
