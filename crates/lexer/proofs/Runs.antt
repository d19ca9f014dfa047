-- A run of bytes that pass a test.
use Rattle.std.proofs.Common.{◌≡◌, ℕ, ◌+◌, ◌≤◌, Bool, true, false, cond, List, [], ◌∷◌, length, ap, refl, arith}
use Rattle.std.specs.List.{prefix_len}
use Rattle.language.specs.Tokens.{run_of}

-- a run in the word of std
pub run_of-prefix_len : (test : ℕ → Bool) (bs : List ℕ) → prefix_len test bs ≡ run_of test bs
run_of-prefix_len test [] = refl
run_of-prefix_len test (b ∷ bs) = let e : 1 + prefix_len test bs ≡ run_of test bs + 1 = omega (arith, run_of-prefix_len test bs) in ap (λ n. cond (test b) n 0) e

counted : (t : Bool) (n m : ℕ) → n ≤ m → cond t (n + 1) 0 ≤ m + 1
counted true n m h = omega arith
counted false n m h = omega arith

pub run_within : (test : ℕ → Bool) (bs : List ℕ) → run_of test bs ≤ length bs
run_within test [] = omega arith
run_within test (b ∷ bs) = let h = counted (test b) (run_of test bs) (length bs) (run_within test bs) in omega arith
