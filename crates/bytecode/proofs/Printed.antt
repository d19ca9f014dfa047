-- An argument's text: - below 0, and its size in decimal.
use Rattle.std.proofs.Common.{◌≡◌, ℕ, zero, suc, ◌≤◌, Bool, true, false, cond, [], ◌++◌, codes, decimal, refl, arith}
use Rattle.bytecode.specs.Text.{text_of}
use Rattle.bytecode.specs.declared.argument.Argument.{Argument}

signed_text : (n : Bool) (k : ℕ) (h : cond {A = ℕ} n 1 0 ≤ k) → text_of (record { negative = n; size = k; proper = h }) ≡ cond n (codes "-") [] ++ decimal k
signed_text false k h = refl
signed_text true zero h = absurd (omega arith)
signed_text true (suc k) h = refl

pub text_is : (k : Argument) → text_of k ≡ cond k.negative (codes "-") [] ++ decimal k.size
text_is k = signed_text k.negative k.size k.proper
