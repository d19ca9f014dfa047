-- The words of a text scan as what they are, and names stand for their bindings.
use Rattle.std.proofs.Common.{◌≡◌, ℕ, zero, suc, ◌+◌, ◌^◌, ◌<◌, ◌≤◌, Bool, true, false, cond, ◌&&◌, eqb, ltb, List, [], ◌∷◌, ◌++◌, length, get_or, take, Some, decimal, sym, refl, ap, ◌∙◌, subst, add-one, arith}
use Rattle.std.proofs.lemmas.Fmt.{digits_decimal, digits_value-decimal, decimal_digit, decimal_nonempty, first_decimal, decimal_injective}
use Rattle.std.proofs.lemmas.Slice.Eq.{bytes_eq-Decides}
use Rattle.std.proofs.lemmas.List.{take_at}
use Rattle.std.proofs.lemmas.Str.Parse.{IsNumeralModel, numerals_by_fold, tells_all_ascii_digits}
use Rattle.std.proofs.lemmas.Bool.{cond-true, cond-false, le-ltb}
use Rattle.std.proofs.lemmas.Bool.Decides.{nat_tests}
use Rattle.std.specs.Option.{option_map}
use Rattle.std.specs.Int.{IsInRange}
use Rattle.std.specs.Str.{all_ascii_digits, bytes_eq}
use Rattle.bytecode.specs.declared.argument.Argument.{Argument}
use Rattle.bytecode.proofs.Words.{argument_back}
use Rattle.language.specs.Names.{position}
use Rattle.language.specs.Reading.{is_last}
use Rattle.language.specs.Tokens.{scanned, begun, numeral, numeral_at, number_by, word, longer, is_blank, is_digit, is_word, is_minus, run_of, value_from}
use Rattle.language.specs.declared.operator.Operator.{Operator}
use Rattle.language.specs.declared.operator.Operator.TheVariants.{Or, And, Equal, AtMost, Plus, Times}
use Rattle.language.specs.declared.operator.Prefix.{Prefix as PrefixOperator}
use Rattle.language.specs.declared.operator.Prefix.TheVariants.{Not, Increment}
use Rattle.language.specs.declared.token.TokenKind.{TokenKind}
use Rattle.language.specs.declared.token.TokenKind.TheVariants.{Number, Truth, Name, Binary, Prefix, Bad, TooLarge}
use Rattle.printing.specs.Printing.{let_name, lets, name_at, number_word, truth_word, prefix_word, operator_word}
use Rattle.printing.proofs.Lexing.{Good, kind_of}

-- a word that is one token of the kind k
pub record Reads (w : List ℕ) (k : TokenKind) : Type 0 where
  pub good : Good w
  pub kind : kind_of w ≡ k

reads : (w : List ℕ) (k : TokenKind) → ((rest : List ℕ) → scanned (w ++ 32 ∷ rest) ≡ (k, length w)) → is_last k ≡ false → ((rest : List ℕ) → run_of is_blank (w ++ 32 ∷ rest) ≡ 0) → Reads w k
reads w k h l d =
    let e : kind_of w ≡ k = ap (λ s. s.0) (h []) in
    record { good = record { scans = λ rest. rw e (h rest); more = rw e l; dark = d }; kind = e }

-- a text that is not empty
scanned_some : (b : ℕ) (bs : List ℕ) → scanned (b ∷ bs) ≡ begun b (get_or bs 0 0) (b ∷ bs)
scanned_some b bs = grind (arith, nat_tests)

-- words and marks, of which all is computed: the token, whether it is the last, and how many blanks are before it
abbrev pub Start : Type 0
Start = (TokenKind × ℕ) × (Bool × ℕ)

pub fixed : (b : ℕ) (bs : List ℕ) (k : TokenKind) →
    ((rest : List ℕ) → ◌≡◌ {A = Start} (begun b (get_or (bs ++ 32 ∷ rest) 0 0) (b ∷ (bs ++ 32 ∷ rest)), (is_last k, run_of is_blank (b ∷ (bs ++ 32 ∷ rest)))) ((k, suc (length bs)), (false, 0))) → Reads (b ∷ bs) k
fixed b bs k h =
    reads (b ∷ bs) k (λ rest. scanned_some b (bs ++ 32 ∷ rest) ∙ ap (λ (z : Start). z.0) (h rest)) (ap (λ (z : Start). z.1.0) (h [])) (λ rest. ap (λ (z : Start). z.1.1) (h rest))

pub reads_truth : (b : Bool) → Reads (truth_word b) (Truth b)
reads_truth true = fixed _ _ _ (λ rest. refl)
reads_truth false = fixed _ _ _ (λ rest. refl)

pub reads_prefix : (o : PrefixOperator) → Reads (prefix_word o) (Prefix o)
reads_prefix Not = fixed _ _ _ (λ rest. refl)
reads_prefix Increment = fixed _ _ _ (λ rest. refl)

pub reads_operator : (o : Operator) → Reads (operator_word o) (Binary o)
reads_operator Or = fixed _ _ _ (λ rest. refl)
reads_operator And = fixed _ _ _ (λ rest. refl)
reads_operator Equal = fixed _ _ _ (λ rest. refl)
reads_operator AtMost = fixed _ _ _ (λ rest. refl)
reads_operator Plus = fixed _ _ _ (λ rest. refl)
reads_operator Times = fixed _ _ _ (λ rest. refl)

-- digits
own : IsNumeralModel (λ ds. all_ascii_digits ds ≡ true) (value_from 0)
own = numerals_by_fold _ tells_all_ascii_digits value_from (record { empty = λ n. refl; more = λ n c cs h. refl })

-- a run of digits ends at the blank
run_digits : (test : ℕ → Bool) (ds rest : List ℕ) → ((c : ℕ) → IsInRange 48 57 c → test c ≡ true) → test 32 ≡ false → all_ascii_digits ds ≡ true → run_of test (ds ++ 32 ∷ rest) ≡ length ds
run_digits test [] rest h e d = cond-false _ _ _ e
run_digits test (c ∷ ds) rest h e d =
    let p = tells_all_ascii_digits.parts c ds d in
    let r = run_digits test ds rest h e p.1 in
    cond-true _ _ _ (h c p.0) ∙ omega arith

huge : (k : ℕ) → k ≤ 255 → k < 2 ^ 64
huge k h = omega arith

-- a name of a let
pub reads_let_name : (k : ℕ) → k ≤ 255 → Reads (let_name k) Name
reads_let_name k h =
    reads (let_name k) Name (λ rest. scanned_some 120 (decimal k ++ 32 ∷ rest) ∙ ap (λ n. (word (take n (120 ∷ (decimal k ++ 32 ∷ rest))), n)) (run rest)) refl (λ rest. refl)
  where
    run : (rest : List ℕ) → run_of is_word (120 ∷ (decimal k ++ 32 ∷ rest)) ≡ suc (length (decimal k))
    run rest = let e = run_digits is_word (decimal k) rest (λ c h. grind (arith, nat_tests)) refl (digits_decimal own k (huge k h)) in omega arith

-- a number
numeral_is : (a : Argument) → a.size ≤ 255 → numeral a.negative (decimal a.size) ≡ Number a
numeral_is a h =
    let s = huge a.size h in
    cond-false _ Bad _ (no_zero a.size s)
    ∙ rw (digits_value-decimal own a.size s) (cond-false (ltb 255 a.size) TooLarge _ (le-ltb 255 a.size h) ∙ ap number_by (argument_back a.negative a.size a.proper))
  where
    no_zero : (n : ℕ) → n < 2 ^ 64 → (ltb 1 (length (decimal n)) && eqb (get_or (decimal n) 0 0) 48) ≡ false
    no_zero zero s = ap (λ ds. ltb 1 (length ds) && eqb (get_or ds 0 0) 48) (decimal_digit 0 (omega arith))
    no_zero (suc n) s = let f = first_decimal (suc n) (omega arith) s in grind (arith, nat_tests)

numeral_is_at : (a : Argument) → a.size ≤ 255 → (rest : List ℕ) → numeral_at a.negative (decimal a.size ++ 32 ∷ rest) ≡ (Number a, length (decimal a.size))
numeral_is_at a h rest =
    let r = run_digits is_digit (decimal a.size) rest (λ c h. grind (arith, nat_tests)) refl (digits_decimal own a.size (huge a.size h)) in
    let t = take_at (decimal a.size) (32 ∷ rest) (length (decimal a.size)) refl in
    let n = numeral_is a h in
    simp (r, t, n)

-- what begins with a digit is no blank, and is a number
digits_dark : (ds rest : List ℕ) → all_ascii_digits ds ≡ true → 0 < length ds → run_of is_blank (ds ++ 32 ∷ rest) ≡ 0
digits_dark [] rest h l = absurd (omega arith)
digits_dark (c ∷ ds) rest h l = let p = (tells_all_ascii_digits.parts c ds h).0 in grind (arith, nat_tests)

scanned_digits : (ds rest : List ℕ) → all_ascii_digits ds ≡ true → 0 < length ds → scanned (ds ++ 32 ∷ rest) ≡ numeral_at false (ds ++ 32 ∷ rest)
scanned_digits [] rest h l = absurd (omega arith)
scanned_digits (c ∷ ds) rest h l = let p = (tells_all_ascii_digits.parts c ds h).0 in scanned_some c (ds ++ 32 ∷ rest) ∙ cond-true (is_digit c) _ _ (grind (arith, nat_tests))

scanned_minus : (ds rest : List ℕ) → all_ascii_digits ds ≡ true → 48 < get_or ds 0 0 → scanned (45 ∷ (ds ++ 32 ∷ rest)) ≡ longer (numeral_at true (ds ++ 32 ∷ rest))
scanned_minus [] rest h l = absurd (omega arith)
scanned_minus (c ∷ ds) rest h l = let p = (tells_all_ascii_digits.parts c ds h).0 in scanned_some 45 (c ∷ (ds ++ 32 ∷ rest)) ∙ cond-true (is_minus 45 c) _ _ (grind (arith, nat_tests))

pub reads_number : (a : Argument) → a.size ≤ 255 → Reads (number_word a) (Number a)
reads_number a h = go a.negative refl
  where
    go : (b : Bool) → a.negative ≡ b → Reads (cond b (45 ∷ decimal a.size) (decimal a.size)) (Number a)
    go false e =
        let s = huge a.size h in
        let d = digits_decimal own a.size s in
        let l = decimal_nonempty a.size s in
        reads (decimal a.size) (Number a) (λ rest. scanned_digits (decimal a.size) rest d l ∙ (ap (λ b. numeral_at b (decimal a.size ++ 32 ∷ rest)) (sym e) ∙ numeral_is_at a h rest)) refl (λ rest. digits_dark (decimal a.size) rest d l)
    go true e =
        let s = huge a.size h in
        let some : 0 < a.size = subst (λ b. cond {A = ℕ} b 1 0 ≤ a.size) e a.proper in
        reads (45 ∷ decimal a.size) (Number a)
        (λ rest. scanned_minus (decimal a.size) rest (digits_decimal own a.size s) (first_decimal a.size some s)
        ∙ (ap (λ b. longer (numeral_at b (decimal a.size ++ 32 ∷ rest))) (sym e)
        ∙ (ap longer (numeral_is_at a h rest) ∙ ap (λ n. (Number a, n)) (add-one (length (decimal a.size)))))) refl (λ rest. refl)

-- names
let_apart : (m k : ℕ) → k < m → m ≤ 255 → bytes_eq (let_name m) (let_name k) ≡ false
let_apart m k l h = go (bytes_eq (decimal m) (decimal k)) refl
  where
    go : (b : Bool) → bytes_eq (decimal m) (decimal k) ≡ b → b ≡ false
    go true e = let z = decimal_injective m k (huge m h) (omega arith) ((bytes_eq-Decides (decimal m) (decimal k)).0 e) in absurd (omega arith)
    go false e = refl

-- the name of a binding is a name, stands for it, and is none of the lets within
pub record Named (k i : ℕ) : Type 0 where
  pub word : Reads (name_at k i) Name
  pub place : position (name_at k i) (lets k) ≡ Some i
  pub apart : (m : ℕ) → k ≤ m → m ≤ 255 → bytes_eq (let_name m) (name_at k i) ≡ false

pub named : (k i : ℕ) → k ≤ 255 → i < k + 8 → Named k i
named zero zero h l = record { word = fixed _ _ _ (λ rest. refl); place = refl; apart = λ m g b. refl }
named zero (suc zero) h l = record { word = fixed _ _ _ (λ rest. refl); place = refl; apart = λ m g b. refl }
named zero (suc (suc zero)) h l = record { word = fixed _ _ _ (λ rest. refl); place = refl; apart = λ m g b. refl }
named zero (suc (suc (suc zero))) h l = record { word = fixed _ _ _ (λ rest. refl); place = refl; apart = λ m g b. refl }
named zero (suc (suc (suc (suc zero)))) h l = record { word = fixed _ _ _ (λ rest. refl); place = refl; apart = λ m g b. refl }
named zero (suc (suc (suc (suc (suc zero))))) h l = record { word = fixed _ _ _ (λ rest. refl); place = refl; apart = λ m g b. refl }
named zero (suc (suc (suc (suc (suc (suc zero)))))) h l = record { word = fixed _ _ _ (λ rest. refl); place = refl; apart = λ m g b. refl }
named zero (suc (suc (suc (suc (suc (suc (suc zero))))))) h l = record { word = fixed _ _ _ (λ rest. refl); place = refl; apart = λ m g b. refl }
named zero (suc (suc (suc (suc (suc (suc (suc (suc i)))))))) h l = absurd (omega arith)
named (suc k) zero h l =
    record {
      word = reads_let_name k (omega arith);
      place = cond-true _ _ _ ((bytes_eq-Decides (let_name k) (let_name k)).1 refl);
      apart = λ m g b. let_apart m k (omega arith) b;
    }
named (suc k) (suc i) h l =
    let n = named k i (omega arith) (omega arith) in
    record {
      word = n.word;
      place = cond-false _ _ _ (n.apart k (omega arith) (omega arith)) ∙ (ap (option_map (λ n. n + 1)) n.place ∙ ap Some (add-one i));
      apart = λ m g b. n.apart m (omega arith) b;
    }
