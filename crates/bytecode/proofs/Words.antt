-- Words and instructions are two ways to write one thing.
use Rattle.std.proofs.Common.{◌≡◌, ℕ, zero, suc, ◌-◌, ◌≤◌, Bool, true, false, cond, List, [], ◌∷◌, ◌++◌, length, get_or, take, drop, Some, None, Option, sym, refl, ap, ◌∙◌, arith}
use lib.Seq.{take-length}
use native.Mathlib.Bridge.{le_prop}
use mathlib.Core.HLevel.{is_prop→PathP}
use Rattle.std.specs.Option.{option_map}
use Rattle.bytecode.specs.Words.{plus, minus, word, bytes_of, signed_word, written, empty_of, size_of, argument_of, instruction_of, instruction_in, parted, decoded}
use Rattle.bytecode.specs.declared.argument.Argument.{Argument}
use Rattle.bytecode.specs.declared.instruction.Word.{Word}
use Rattle.bytecode.specs.declared.instruction.Instruction.{Instruction}
use Rattle.bytecode.specs.declared.instruction.Instruction.TheVariants.{Push, Addi, Eqi, Ori, Consti, Pop, Acc, Popi, Branch, Branchif, Assign, Multi, Leqi}

-- two arguments of one sign and one size are one argument
pub same_argument : {a b : Argument} → a.negative ≡ b.negative → a.size ≡ b.size → a ≡ b
same_argument {a = a} {b = b} p q = λ i. record { negative = p i; size = q i; proper = is_prop→PathP (λ k. cond {A = ℕ} (p k) 1 0 ≤ q k) (λ k. le_prop) a.proper b.proper i }

-- the sign and the size of an argument read as that argument, and as no other
pub argument_back : (n : Bool) (k : ℕ) (h : cond {A = ℕ} n 1 0 ≤ k) → argument_of (cond n 1 0) k ≡ Some (record { negative = n; size = k; proper = h })
argument_back false k h = ap Some (same_argument refl refl)
argument_back true zero h = absurd (omega arith)
argument_back true (suc k) h = ap Some (same_argument refl refl)

pub argument_only : (s v : ℕ) (a : Argument) → argument_of s v ≡ Some a → (o : ℕ) → signed_word o a ≡ word o s v
argument_only zero v a e o = let h : a ≡ plus v = cc in ap (signed_word o) h
argument_only (suc zero) zero a e o = let z : ◌≡◌ {A = ℕ} 0 1 = cc in absurd (omega arith)
argument_only (suc zero) (suc v) a e o = let h : a ≡ minus v = cc in ap (signed_word o) h
argument_only (suc (suc s)) v a e o = let z : ◌≡◌ {A = ℕ} 0 1 = cc in absurd (omega arith)

-- an instruction reads back from its word
pub word_back : (i : Instruction) → instruction_in (written i) ≡ Some i
word_back Push = refl
word_back Addi = refl
word_back Eqi = refl
word_back Ori = refl
word_back (Consti k) = ap (option_map Consti) (argument_back k.negative k.size k.proper)
word_back Pop = refl
word_back (Acc k) = refl
word_back (Popi k) = refl
word_back (Branch k) = ap (option_map Branch) (argument_back k.negative k.size k.proper)
word_back (Branchif k) = ap (option_map Branchif) (argument_back k.negative k.size k.proper)
word_back (Assign k) = refl
word_back Multi = refl
word_back Leqi = refl

pub reads_back : (i : Instruction) (w : Word) → w ≡ written i → (rest : List ℕ) → decoded (bytes_of w ++ rest) ≡ (Some i, rest)
reads_back i w e rest = let h : instruction_in w ≡ Some i = ap instruction_in e ∙ word_back i in ap (λ o. parted o (bytes_of w ++ rest) rest) h

-- a word that reads as an instruction is the one that writes it
bare_only : (j i : Instruction) (s v o : ℕ) → written j ≡ word o 0 0 → empty_of j s v ≡ Some i → written i ≡ word o s v
bare_only j i zero zero o w e = let h : i ≡ j = cc in ap written h ∙ w
bare_only j i zero (suc v) o w e = let z : ◌≡◌ {A = ℕ} 0 1 = cc in absurd (omega arith)
bare_only j i (suc s) v o w e = let z : ◌≡◌ {A = ℕ} 0 1 = cc in absurd (omega arith)

sized_only : (f : ℕ → Instruction) (i : Instruction) (s v o : ℕ) → ((k : ℕ) → written (f k) ≡ word o 0 k) → option_map f (size_of s v) ≡ Some i → written i ≡ word o s v
sized_only f i zero v o w e = let h : i ≡ f v = cc in ap written h ∙ w v
sized_only f i (suc s) v o w e = let z : ◌≡◌ {A = ℕ} 0 1 = cc in absurd (omega arith)

signed_only : (f : Argument → Instruction) (i : Instruction) (s v o : ℕ) → ((a : Argument) → written (f a) ≡ signed_word o a) → option_map f (argument_of s v) ≡ Some i → written i ≡ word o s v
signed_only f i s v o w e = by (argument_of s v) refl e
  where
    by : (r : Option Argument) → argument_of s v ≡ r → option_map f r ≡ Some i → written i ≡ word o s v
    by None p q = let z : ◌≡◌ {A = ℕ} 0 1 = cc in absurd (omega arith)
    by (Some a) p q = let h : i ≡ f a = cc in ap written h ∙ w a ∙ argument_only s v a p o

pub only_written : (o s v : ℕ) (i : Instruction) → instruction_of o s v ≡ Some i → written i ≡ word o s v
only_written zero s v i e = bare_only Push i s v 0 refl e
only_written (suc zero) s v i e = bare_only Addi i s v 1 refl e
only_written (suc (suc zero)) s v i e = bare_only Eqi i s v 2 refl e
only_written (suc (suc (suc zero))) s v i e = bare_only Ori i s v 3 refl e
only_written (suc (suc (suc (suc zero)))) s v i e = signed_only Consti i s v 4 (λ a. refl) e
only_written (suc (suc (suc (suc (suc zero))))) s v i e = bare_only Pop i s v 5 refl e
only_written (suc (suc (suc (suc (suc (suc zero)))))) s v i e = sized_only Acc i s v 6 (λ k. refl) e
only_written (suc (suc (suc (suc (suc (suc (suc zero))))))) s v i e = sized_only Popi i s v 7 (λ k. refl) e
only_written (suc (suc (suc (suc (suc (suc (suc (suc zero)))))))) s v i e = signed_only Branch i s v 8 (λ a. refl) e
only_written (suc (suc (suc (suc (suc (suc (suc (suc (suc zero))))))))) s v i e = signed_only Branchif i s v 9 (λ a. refl) e
only_written (suc (suc (suc (suc (suc (suc (suc (suc (suc (suc zero)))))))))) s v i e = sized_only Assign i s v 10 (λ k. refl) e
only_written (suc (suc (suc (suc (suc (suc (suc (suc (suc (suc (suc zero))))))))))) s v i e = bare_only Multi i s v 11 refl e
only_written (suc (suc (suc (suc (suc (suc (suc (suc (suc (suc (suc (suc zero)))))))))))) s v i e = bare_only Leqi i s v 12 refl e
only_written (suc (suc (suc (suc (suc (suc (suc (suc (suc (suc (suc (suc (suc o))))))))))))) s v i e = let z : ◌≡◌ {A = ℕ} 0 1 = cc in absurd (omega arith)

-- what stands behind the first three of a list
behind_three : (o s v : ℕ) (rest : List ℕ) → take (length (o ∷ (s ∷ (v ∷ rest))) - 3) rest ≡ rest
behind_three o s v rest = let e : length (o ∷ (s ∷ (v ∷ rest))) - 3 ≡ length rest = omega arith in ap (λ n. take n rest) e ∙ take-length rest

-- bytes that read as an instruction are those that write it, before what stands behind them
pub decodes_only : (i : Instruction) (w : Word) (bs : List ℕ) → 3 ≤ length bs → bytes_of w ≡ get_or bs 0 0 ∷ (get_or bs 1 0 ∷ (get_or bs 2 0 ∷ [])) → instruction_in w ≡ Some i → bs ≡ bytes_of (written i) ++ take (length bs - 3) (drop 3 bs)
decodes_only i w [] h b e = absurd (omega arith)
decodes_only i w (o ∷ []) h b e = absurd (omega arith)
decodes_only i w (o ∷ (s ∷ [])) h b e = absurd (omega arith)
decodes_only i w (o ∷ (s ∷ (v ∷ rest))) h b e =
    let front : bytes_of (written i) ≡ o ∷ (s ∷ (v ∷ [])) = ap bytes_of (only_written w.opcode w.sign w.value i e) ∙ b in
    sym (ap (λ x. x ++ take (length (o ∷ (s ∷ (v ∷ rest))) - 3) rest) front ∙ ap (λ r. o ∷ (s ∷ (v ∷ r))) (behind_three o s v rest))

-- a size that is not 0 makes a number below 0
pub below_zero : (k : ℕ) (h : 1 ≤ k) → (k ≡ 0 → ⊥) → Some (record { negative = true; size = k; proper = h }) ≡ argument_of 1 k
below_zero zero h n = absurd (n refl)
below_zero (suc k) h n = ap Some (same_argument refl refl)
