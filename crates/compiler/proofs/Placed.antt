-- Bindings on the stack, and the words above them.
use Rattle.std.proofs.Common.{◌≡◌, ℕ, zero, suc, ◌+◌, ◌≤◌, List, [], ◌∷◌, length, Some, None, Option, sym, refl, subst, arith}
use Rattle.std.specs.List.{slice_get}
use Rattle.language.specs.Code.{Slot, bound, waiting, above}
use Rattle.compiler.specs.Layouts.{spots_of}

-- below a binding stand all words but those above it and its own
Stands : ℕ → ℕ → Option ℕ → Type 0
Stands high over None = high ≡ over
Stands high over (Some below) = over + below + 1 ≡ high

one_more : (high over : ℕ) (o : Option ℕ) → Stands high over o → Stands (suc high) (over + 1) o
unfolding Stands
one_more high over None h = omega arith
one_more high over (Some below) h = omega arith

stands : (s : List Slot) (k : ℕ) → Stands (length s) (above s k) (slice_get (spots_of s) k)
unfolding Stands
stands [] k = refl
stands (waiting ∷ s) k = one_more _ _ (slice_get (spots_of s) k) (stands s k)
stands (bound ∷ s) zero = omega arith
stands (bound ∷ s) (suc k) = one_more _ _ (slice_get (spots_of s) k) (stands s k)

pub above_found : (s : List Slot) (k below : ℕ) → Some below ≡ slice_get (spots_of s) k → above s k + below + 1 ≡ length s
unfolding Stands
above_found s k below e = subst (λ (o : Option ℕ). Stands (length s) (above s k) o) (sym e) (stands s k)

pub above_missing : (s : List Slot) (k : ℕ) → None ≡ slice_get (spots_of s) k → length s ≡ above s k
unfolding Stands
above_missing s k e = subst (λ (o : Option ℕ). Stands (length s) (above s k) o) (sym e) (stands s k)

-- at most all words stand above a binding
pub above_low : (s : List Slot) (k : ℕ) → above s k ≤ length s
above_low [] k = omega arith
above_low (waiting ∷ s) k = let l = above_low s k in omega arith
above_low (bound ∷ s) zero = omega arith
above_low (bound ∷ s) (suc k) = let l = above_low s k in omega arith
