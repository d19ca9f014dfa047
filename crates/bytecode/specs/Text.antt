-- How instructions and arguments are printed.
use Rattle.std.specs.Prelude.{ℕ, List, [], ◌++◌, Some, None, Option, codes}
use Rattle.std.specs.Fmt.{signed_decimal}
use Rattle.bytecode.specs.Words.{plus, whole}
use Rattle.bytecode.specs.declared.argument.Argument.{Argument}
use Rattle.bytecode.specs.declared.instruction.Instruction.{Instruction}
use Rattle.bytecode.specs.declared.instruction.Instruction.TheVariants.{Push, Addi, Eqi, Ori, Consti, Pop, Acc, Popi, Branch, Branchif, Assign, Multi, Leqi}

-- an instruction's name
abbrev pub name_of : Instruction → List ℕ
name_of Push = codes "Push"
name_of Addi = codes "Addi"
name_of Eqi = codes "Eqi"
name_of Ori = codes "Ori"
name_of (Consti k) = codes "Consti"
name_of Pop = codes "Pop"
name_of (Acc k) = codes "Acc"
name_of (Popi k) = codes "Popi"
name_of (Branch k) = codes "Branch"
name_of (Branchif k) = codes "Branchif"
name_of (Assign k) = codes "Assign"
name_of Multi = codes "Multi"
name_of Leqi = codes "Leqi"

-- its argument, if it has one
abbrev pub argument_in : Instruction → Option Argument
argument_in Push = None
argument_in Addi = None
argument_in Eqi = None
argument_in Ori = None
argument_in (Consti k) = Some k
argument_in Pop = None
argument_in (Acc k) = Some (plus k)
argument_in (Popi k) = Some (plus k)
argument_in (Branch k) = Some k
argument_in (Branchif k) = Some k
argument_in (Assign k) = Some (plus k)
argument_in Multi = None
argument_in Leqi = None

-- an argument in decimal, with - before a negative one
abbrev pub text_of : Argument → List ℕ
text_of k = signed_decimal (whole k)

-- an argument behind a blank
abbrev pub argument_text : Option Argument → List ℕ
argument_text None = []
argument_text (Some k) = codes " " ++ text_of k

-- an instruction: its name, and its argument if it has one
abbrev pub instruction_text : Instruction → List ℕ
instruction_text i = name_of i ++ argument_text (argument_in i)
