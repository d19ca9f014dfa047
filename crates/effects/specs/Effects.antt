-- What the words of code do to the height of the stack, and the ways through them.
use Rattle.std.specs.Prelude.{◌≡◌, ℕ, ◌+◌, ◌-◌, Bool, true, false, ◌⊎◌, List, Some}
use Rattle.std.specs.List.{slice_get}
use Rattle.bytecode.specs.declared.instruction.Instruction.{Instruction}
use Rattle.bytecode.specs.declared.instruction.Instruction.TheVariants.{Push, Addi, Eqi, Ori, Consti, Pop, Acc, Popi, Branch, Branchif, Assign, Multi, Leqi}

-- how many words an instruction takes off the stack
abbrev pub taken : Instruction → ℕ
taken Push = 0
taken Addi = 1
taken Eqi = 1
taken Ori = 1
taken (Consti k) = 0
taken Pop = 1
taken (Acc k) = 0
taken (Popi k) = k
taken (Branch k) = 0
taken (Branchif k) = 0
taken (Assign k) = 0
taken Multi = 1
taken Leqi = 1

-- how many it puts on
abbrev pub given : Instruction → ℕ
given Push = 1
given Addi = 0
given Eqi = 0
given Ori = 0
given (Consti k) = 0
given Pop = 0
given (Acc k) = 0
given (Popi k) = 0
given (Branch k) = 0
given (Branchif k) = 0
given (Assign k) = 0
given Multi = 0
given Leqi = 0

-- how many it must find there: a word that is read or overwritten, with all above it, and each that is taken off
abbrev pub needed : Instruction → ℕ
needed Push = 0
needed Addi = 1
needed Eqi = 1
needed Ori = 1
needed (Consti k) = 0
needed Pop = 1
needed (Acc k) = k + 1
needed (Popi k) = k
needed (Branch k) = 0
needed (Branchif k) = 0
needed (Assign k) = k + 1
needed Multi = 1
needed Leqi = 1

-- the height behind an instruction
abbrev pub after : Instruction → ℕ → ℕ
after i h = h - taken i + given i

-- a branch goes from the place p to the place q: ahead, or back if it is below 0
abbrev pub Goes : Bool → ℕ → ℕ → ℕ → Type 0
Goes false n p q = q ≡ p + n
Goes true n p q = q + n ≡ p

-- q may be the next place behind an instruction at p
abbrev pub Next : Instruction → ℕ → ℕ → Type 0
Next Push p q = q ≡ p + 1
Next Addi p q = q ≡ p + 1
Next Eqi p q = q ≡ p + 1
Next Ori p q = q ≡ p + 1
Next (Consti k) p q = q ≡ p + 1
Next Pop p q = q ≡ p + 1
Next (Acc k) p q = q ≡ p + 1
Next (Popi k) p q = q ≡ p + 1
Next (Branch k) p q = Goes k.negative k.size p q
Next (Branchif k) p q = (q ≡ p + 1) ⊎ Goes k.negative k.size p q
Next (Assign k) p q = q ≡ p + 1
Next Multi p q = q ≡ p + 1
Next Leqi p q = q ≡ p + 1

-- one step through code: from a place and a height to the next
pub record Leads (words : List Instruction) (p h q k : ℕ) : Type 0 where
  pub word : Instruction
  pub there : slice_get words p ≡ Some word
  pub next : Next word p q
  pub high : k ≡ after word h

-- any number of steps, the last one last
pub data Walks (words : List Instruction) (p h : ℕ) : ℕ → ℕ → Type 0 where
  here : Walks words p h p h
  more : {q k r j : ℕ} → Walks words p h q k → Leads words q k r j → Walks words p h r j

abbrev pub steps : {words : List Instruction} {p h q k : ℕ} → Walks words p h q k → ℕ
steps here = 0
steps (more w go) = steps w + 1
