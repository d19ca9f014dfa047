-- Where the nodes of a tree stand, and code at a place.
use Rattle.std.proofs.Common.{◌≡◌, ℕ, ◌+◌, ◌-◌, ◌<◌, ◌≤◌, cond, ltb, ◌⊎◌, List, [], ◌∷◌, ◌++◌, map, length, Some, None, Option, refl, ap, ◌∙◌, inl, inr, append_assoc, arith, length-append}
use Rattle.std.specs.List.{slice_get}
use Rattle.std.proofs.lemmas.Option.{slice_get_past, slice_get-get_or}
use Rattle.std.proofs.lemmas.Bool.Decides.{nat_tests}
use Rattle.std.proofs.Math.Nat.{add-zero}
use Rattle.std.proofs.Math.Seq.{get_or-append_seam}
use Rattle.std.proofs.lemmas.Bool.{cases_lt}
use Rattle.bytecode.specs.Words.{written}
use Rattle.bytecode.proofs.Words.{word_back}
use Rattle.bytecode.specs.declared.instruction.Word.{Word}
use Rattle.bytecode.specs.declared.instruction.Instruction.{Instruction}
use Rattle.evaluation.specs.Worth.{pair_places}
use Rattle.language.proofs.Lengths.{length-code, long_some}
use Rattle.language.specs.Code.{Slot, bound, waiting, code, long}
use Rattle.language.specs.Tree.{Tree, number, truth, name, prefix, binary, choose, bind}
use Rattle.machine.specs.Steps.{fetch, read_as, followed}

pub record Two (la lb sa sb : ℕ) (pa pb pl : ℕ → ℕ) : Type 0 where
  pub one : (i : ℕ) → i < sa → pl i ≡ pa i
  pub other : (i : ℕ) → i < sb → pl (sa + i) ≡ la + 1 + pb i
  pub last : pl (sa + sb) ≡ la + 1 + lb

pub two_places : (la lb sa sb : ℕ) (pa pb : ℕ → ℕ) → Two la lb sa sb pa pb (λ i. pair_places la lb sa sb pa pb i)
two_places la lb sa sb pa pb =
    record { one = λ i h. grind (arith, nat_tests); other = λ i h. grind (arith, nat_tests); last = grind (arith, nat_tests) }

pub record Three (lc lb sc sa sb : ℕ) (pc pa pb pl : ℕ → ℕ) : Type 0 where
  pub test : (i : ℕ) → i < sc → pl i ≡ pc i
  pub taken : (i : ℕ) → i < sa → pl (sc + i) ≡ lc + 1 + lb + 1 + pa i
  pub left : (i : ℕ) → i < sb → pl (sc + sa + i) ≡ lc + 1 + pb i

pub three_places : (lc lb sc sa sb : ℕ) (pc pa pb : ℕ → ℕ) →
    Three lc lb sc sa sb pc pa pb (λ i. cond (ltb i sc) (pc i) (cond (ltb i (sc + sa)) (lc + 1 + lb + 1 + pa (i - sc)) (lc + 1 + pb (i - (sc + sa)))))
three_places lc lb sc sa sb pc pa pb =
    record { test = λ i h. grind (arith, nat_tests); taken = λ i h. grind (arith, nat_tests); left = λ i h. grind (arith, nat_tests) }

-- these instructions lie at the place p
abbrev pub CodeAt : (ℕ → Option (Instruction × ℕ)) → ℕ → List Instruction → Type 0
CodeAt get p [] = Unit {0}
CodeAt get p (x ∷ xs) = (get p ≡ Some (x, p + 1)) × CodeAt get (p + 1) xs

pub split_at : (get : ℕ → Option (Instruction × ℕ)) (xs ys : List Instruction) (p : ℕ) → CodeAt get p (xs ++ ys) → CodeAt get p xs × CodeAt get (p + length xs) ys
split_at get [] ys p h = (tt, rw add-zero h)
split_at get (x ∷ xs) ys p h =
    let r = split_at get xs ys (p + 1) h.1 in
    let e : p + 1 + length xs ≡ p + length (x ∷ xs) = omega arith in
    ((h.0, r.0), rw e at r.1)

pub split_code : (get : ℕ → Option (Instruction × ℕ)) (t : Tree) (s : List Slot) (ys : List Instruction) (p : ℕ) →
    CodeAt get p (code s t ++ ys) → CodeAt get p (code s t) × CodeAt get (p + long t) ys
split_code get t s ys p h =
    let r = split_at get (code s t) ys p h in
    (r.0, rw length-code at r.1)

-- nothing lies past the end, so code that lies at a place ends within
before_end : (get : ℕ → Option (Instruction × ℕ)) (end : ℕ) → ((p : ℕ) → end ≤ p → get p ≡ None) → (x : Instruction) (p q : ℕ) → get p ≡ Some (x, q) → p < end
before_end get end past x p q f = by (cases_lt p end)
  where
    by : (p < end) ⊎ (end ≤ p) → p < end
    by (inl lt) = lt
    by (inr ge) = let e = past p ge in cc

pub at_fits : (get : ℕ → Option (Instruction × ℕ)) (end : ℕ) → ((p : ℕ) → end ≤ p → get p ≡ None) → (xs : List Instruction) (p : ℕ) → 0 < length xs → CodeAt get p xs → p + length xs ≤ end
at_fits get end past [] p h c = absurd (omega arith)
at_fits get end past (x ∷ []) p h c = let r = before_end get end past x p (p + 1) c.0 in omega arith
at_fits get end past (x ∷ (y ∷ xs)) p h c = let r = at_fits get end past (y ∷ xs) (p + 1) (omega arith) c.1 in omega arith

pub code_fits : (get : ℕ → Option (Instruction × ℕ)) (end : ℕ) → ((p : ℕ) → end ≤ p → get p ≡ None) → (s : List Slot) (t : Tree) (p : ℕ) → CodeAt get p (code s t) → p + long t ≤ end
code_fits get end past s t p c = rw length-code at (at_fits get end past (code s t) p (rw length-code (long_some t)) c)

-- the words of instructions, read from the list of them
code_stands_after : (ws : List Word) (xs : List Instruction) → CodeAt (fetch (ws ++ map written xs)) (length ws) xs
code_stands_after ws [] = tt
code_stands_after ws (x ∷ xs) =
    let n : slice_get (ws ++ written x ∷ map written xs) (length ws) ≡ Some (written x) =
    slice_get-get_or (ws ++ written x ∷ map written xs) (length ws) (written x) (omega (arith, length-append ws (written x ∷ map written xs))) ∙ ap Some (get_or-append_seam ws (written x) (map written xs) (written x)) in
    let b = word_back x in
    (simp (n, b), simp (append_assoc, length-append) at (code_stands_after (ws ++ written x ∷ []) xs))

pub code_whole : (xs : List Instruction) → CodeAt (fetch (map written xs)) 0 xs
code_whole xs = code_stands_after [] xs

pub past_end : (ws : List Word) (p : ℕ) → length ws ≤ p → fetch ws p ≡ None
past_end ws p le = ap (λ o. followed (read_as o) (p + 1)) (slice_get_past ws p le)
