-- How instructions are written as words of three bytes, and read back.
use Rattle.std.specs.Prelude.{ℕ, zero, suc, true, false, cond, List, [], ◌∷◌, ℤ, pos, neg_ℤ, Some, None, Option}
use Rattle.std.proofs.Common.{zero-le, suc-le-suc}
use Rattle.std.specs.List.{slice_get}
use Rattle.std.specs.Option.{option_map}
use Rattle.bytecode.specs.declared.argument.Argument.{Argument}
use Rattle.bytecode.specs.declared.instruction.Word.{Word}
use Rattle.bytecode.specs.declared.instruction.Instruction.{Instruction}
use Rattle.bytecode.specs.declared.instruction.Instruction.TheVariants.{Push, Addi, Eqi, Ori, Consti, Pop, Acc, Popi, Branch, Branchif, Assign, Multi, Leqi}

-- the argument n, and the argument -(n + 1)
abbrev pub plus : ℕ → Argument
plus n = record { negative = false; size = n; proper = zero-le }

abbrev pub minus : ℕ → Argument
minus n = record { negative = true; size = suc n; proper = suc-le-suc zero-le }

-- the whole number that an argument is
abbrev pub whole : Argument → ℤ
whole k = cond k.negative (neg_ℤ (pos k.size)) (pos k.size)

abbrev pub word : ℕ → ℕ → ℕ → Word
word o s v = record { opcode = o; sign = s; value = v }

abbrev pub bytes_of : Word → List ℕ
bytes_of w = w.opcode ∷ (w.sign ∷ (w.value ∷ []))

-- a signed argument: sign 1 below 0, else sign 0, and its size as value
abbrev pub signed_word : ℕ → Argument → Word
signed_word o a = word o (cond a.negative 1 0) a.size

-- the word of an instruction; without an argument both last bytes are 0
abbrev pub written : Instruction → Word
written Push = word 0 0 0
written Addi = word 1 0 0
written Eqi = word 2 0 0
written Ori = word 3 0 0
written (Consti k) = signed_word 4 k
written Pop = word 5 0 0
written (Acc k) = word 6 0 k
written (Popi k) = word 7 0 k
written (Branch k) = signed_word 8 k
written (Branchif k) = signed_word 9 k
written (Assign k) = word 10 0 k
written Multi = word 11 0 0
written Leqi = word 12 0 0

-- what stands behind an opcode: nothing, a size from 0 up, or a signed number
pub data Shape : Type 0 where
  bare : Instruction → Shape
  sized : (ℕ → Instruction) → Shape
  signed : (Argument → Instruction) → Shape

-- the instructions by opcode, from 0 on
abbrev pub shapes : List Shape
shapes =
    bare Push ∷ bare Addi ∷ bare Eqi ∷ bare Ori ∷ signed Consti ∷ bare Pop ∷ sized Acc ∷ sized Popi
    ∷ signed Branch ∷ signed Branchif ∷ sized Assign ∷ bare Multi ∷ bare Leqi ∷ []

-- bytes that are not used are 0; sign 0 is not below 0, sign 1 is below it, and no other sign is one
abbrev pub empty_of : Instruction → ℕ → ℕ → Option Instruction
empty_of i zero zero = Some i
empty_of i zero (suc v) = None
empty_of i (suc s) v = None

abbrev pub size_of : ℕ → ℕ → Option ℕ
size_of zero v = Some v
size_of (suc s) v = None

abbrev pub argument_of : ℕ → ℕ → Option Argument
argument_of zero v = Some (plus v)
argument_of (suc zero) zero = None
argument_of (suc zero) (suc v) = Some (minus v)
argument_of (suc (suc s)) v = None

abbrev pub shaped_as : Option Shape → ℕ → ℕ → Option Instruction
shaped_as None s v = None
shaped_as (Some (bare i)) s v = empty_of i s v
shaped_as (Some (sized f)) s v = option_map f (size_of s v)
shaped_as (Some (signed f)) s v = option_map f (argument_of s v)

-- the instruction of three bytes, or none
abbrev pub instruction_of : ℕ → ℕ → ℕ → Option Instruction
instruction_of o s v = shaped_as (slice_get shapes o) s v

abbrev pub instruction_in : Word → Option Instruction
instruction_in w = instruction_of w.opcode w.sign w.value

-- the first instruction of a list of bytes with the bytes behind it, or none with all of them
abbrev pub parted : Option Instruction → List ℕ → List ℕ → Option Instruction × List ℕ
parted None bytes rest = (None, bytes)
parted (Some i) bytes rest = (Some i, rest)

abbrev pub decoded : List ℕ → Option Instruction × List ℕ
decoded [] = (None, [])
decoded (o ∷ []) = (None, o ∷ [])
decoded (o ∷ (s ∷ [])) = (None, o ∷ (s ∷ []))
decoded (o ∷ (s ∷ (v ∷ rest))) = parted (instruction_of o s v) (o ∷ (s ∷ (v ∷ rest))) rest
