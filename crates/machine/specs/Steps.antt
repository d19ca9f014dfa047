-- One step of the machine, over any arithmetic.
use Rattle.std.specs.Prelude.{ℕ, zero, suc, ◌+◌, cond, ◌&&◌, List, [], ◌∷◌, length, drop, ℤ, pos, negsuc, ◌+ℤ◌, Some, None, Ok, Err, Option, Result, nat_le, nat_lt, slice_set}
use Rattle.std.specs.List.{slice_get}
use Rattle.arithmetic.specs.Words.{Ops, naught, unit, truth}
use Rattle.bytecode.specs.Words.{instruction_in, whole}
use Rattle.bytecode.specs.declared.argument.Argument.{Argument}
use Rattle.bytecode.specs.declared.instruction.Word.{Word}
use Rattle.bytecode.specs.declared.instruction.Instruction.{Instruction}
use Rattle.bytecode.specs.declared.instruction.Instruction.TheVariants.{Push, Addi, Eqi, Ori, Consti, Pop, Acc, Popi, Branch, Branchif, Assign, Multi, Leqi}
use Rattle.refusal.specs.declared.Refusal.{Refusal}
use Rattle.refusal.specs.declared.Refusal.TheVariants.{BadWord, StackEmpty, StackFull, PlaceOutside, Overflow}

-- the place, the accumulator, the words above the base with the top first, the unused words above the top with the lowest
-- first, and how many steps were made
pub data State (W : Type 0) : Type 0 where
  state : ℕ → W → List W → List W → ℕ → State W

abbrev pub place : {W : Type 0} → State W → ℕ
place (state p a st free n) = p

-- the word for 0 if both words are it, else the word for 1
abbrev pub either : {W : Type 0} → Ops W → W → W → W
either ops x a = cond (ops.same x (naught ops) && ops.same a (naught ops)) (naught ops) (unit ops)

-- In each of these, q is the next place. A word that is taken off stays where it was, as the lowest unused one.
abbrev pub pushed : {W : Type 0} → ℕ → State W → Result (State W) Refusal
pushed q (state p a st [] n) = Err (StackFull p)
pushed q (state p a st (x ∷ free) n) = Ok (state q a (a ∷ st) free (n + 1))

abbrev pub landed : {W : Type 0} → ℕ → Option W → ℕ → List W → List W → ℕ → Result (State W) Refusal
landed q None p st free n = Err (Overflow p)
landed q (Some v) p st free n = Ok (state q v st free (n + 1))

-- f makes the new accumulator of the word on top of the stack and the old accumulator, or none where it overflows
abbrev pub merged : {W : Type 0} → (W → W → Option W) → ℕ → State W → Result (State W) Refusal
merged f q (state p a [] free n) = Err (StackEmpty p)
merged f q (state p a (x ∷ st) free n) = landed q (f x a) p st (x ∷ free) n

abbrev pub became : {W : Type 0} → W → ℕ → State W → Result (State W) Refusal
became v q (state p a st free n) = Ok (state q v st free (n + 1))

abbrev pub became? : {W : Type 0} → Option W → ℕ → State W → Result (State W) Refusal
became? None q s = Err (StackEmpty (place s))
became? (Some v) q s = became v q s

abbrev pub peeked : {W : Type 0} → ℕ → ℕ → State W → Result (State W) Refusal
peeked k q (state p a st free n) = became? (slice_get st k) q (state p a st free n)

abbrev pub assigned : {W : Type 0} → ℕ → ℕ → State W → Result (State W) Refusal
assigned k q (state p a st free n) = cond (nat_lt k (length st)) (Ok (state q a (slice_set st k a) free (n + 1))) (Err (StackEmpty p))

-- the unused words once k words are taken off
abbrev pub freed : {W : Type 0} → ℕ → List W → List W → List W
freed zero st free = free
freed (suc k) [] free = free
freed (suc k) (x ∷ st) free = freed k st (x ∷ free)

abbrev pub dropped : {W : Type 0} → ℕ → ℕ → State W → Result (State W) Refusal
dropped k q (state p a st free n) = cond (nat_le k (length st)) (Ok (state q a (drop k st) (freed k st free) (n + 1))) (Err (StackEmpty p))

-- a place from 0 to `end`, or none
abbrev pub inside : ℕ → ℤ → Option ℕ
inside end (pos r) = cond (nat_le r end) (Some r) None
inside end (negsuc r) = None

-- where a branch at p leads: to its own place plus k
abbrev pub aimed : ℕ → Argument → ℕ → Option ℕ
aimed end k p = inside end (pos p +ℤ whole k)

abbrev pub went : {W : Type 0} → Option ℕ → State W → Result (State W) Refusal
went None s = Err (PlaceOutside (place s))
went (Some r) (state p a st free n) = Ok (state r a st free (n + 1))

abbrev pub branched : {W : Type 0} → ℕ → Argument → State W → Result (State W) Refusal
branched end k s = went (aimed end k (place s)) s

-- a branch that is taken if the accumulator is not the word for 0
abbrev pub branched_if : {W : Type 0} → Ops W → ℕ → Argument → ℕ → State W → Result (State W) Refusal
branched_if ops end k q (state p a st free n) = cond (ops.same a (naught ops)) (became a q (state p a st free n)) (branched end k (state p a st free n))

-- one instruction, in code of `end` words
abbrev pub performed : {W : Type 0} → Ops W → ℕ → Instruction → ℕ → State W → Result (State W) Refusal
performed ops end Push q = pushed q
performed ops end Addi q = merged ops.plus q
performed ops end Eqi q = merged (λ x a. Some (truth ops (ops.same x a))) q
performed ops end Ori q = merged (λ x a. Some (either ops x a)) q
performed ops end (Consti k) q = became (ops.number k) q
performed ops end Pop q = merged (λ x a. Some x) q
performed ops end (Acc k) q = peeked k q
performed ops end (Popi k) q = dropped k q
performed ops end (Branch k) q = branched end k
performed ops end (Branchif k) q = branched_if ops end k q
performed ops end (Assign k) q = assigned k q
performed ops end Multi q = merged ops.times q
performed ops end Leqi q = merged (λ x a. Some (truth ops (ops.at_most x a))) q

-- the instruction at a place of the code, with the place after it
abbrev pub read_as : Option Word → Option Instruction
read_as None = None
read_as (Some w) = instruction_in w

abbrev pub followed : Option Instruction → ℕ → Option (Instruction × ℕ)
followed None q = None
followed (Some i) q = Some (i, q)

abbrev pub fetch : List Word → ℕ → Option (Instruction × ℕ)
fetch code p = followed (read_as (slice_get code p)) (p + 1)

abbrev pub fetched : {W : Type 0} → Ops W → ℕ → Option (Instruction × ℕ) → State W → Result (State W) Refusal
fetched ops end None s = Err (BadWord (place s))
fetched ops end (Some i) s = performed ops end i.0 i.1 s

-- the step: what the state goes over to, or why it does not
abbrev pub step : {W : Type 0} → Ops W → ℕ → (ℕ → Option (Instruction × ℕ)) → State W → Result (State W) Refusal
step ops end fetch s = fetched ops end (fetch (place s)) s
