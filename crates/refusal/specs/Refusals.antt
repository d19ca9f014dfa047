-- The number, part, detail and printed line of each refusal.
use Rattle.std.specs.Prelude.{ℕ, List, ◌++◌, codes, decimal}
use Rattle.refusal.specs.declared.Part.{Part}
use Rattle.refusal.specs.declared.Part.TheVariants.{Reader, Judge, Translator, CodeMemory, Machine, Arithmetic, Listing}
use Rattle.refusal.specs.declared.Refusal.{Refusal}
use Rattle.refusal.specs.declared.Refusal.TheVariants.{TextTooLong, NoToken, NumberTooLarge, Unexpected, UnboundName, TooDeep, TooManyEntries, IllTyped, TooHigh, BranchTooLong, MemoryFull, BadWord, StackTooShort, StackEmpty, StackFull, PlaceOutside, BudgetSpent, Overflow, OutputTooShort}

abbrev pub number_of : Refusal → ℕ
number_of (TextTooLong n) = 1
number_of (NoToken n) = 2
number_of (NumberTooLarge n) = 3
number_of (Unexpected n) = 4
number_of (UnboundName n) = 5
number_of (TooDeep n) = 6
number_of (TooManyEntries n) = 7
number_of (IllTyped n) = 8
number_of (TooHigh n) = 9
number_of (BranchTooLong n) = 10
number_of (MemoryFull n) = 11
number_of StackTooShort = 14
number_of (BadWord n) = 15
number_of (StackEmpty n) = 16
number_of (StackFull n) = 17
number_of (PlaceOutside n) = 18
number_of (BudgetSpent n) = 19
number_of (Overflow n) = 20
number_of (OutputTooShort n) = 21

abbrev pub part_of : Refusal → Part
part_of (TextTooLong n) = Reader
part_of (NoToken n) = Reader
part_of (NumberTooLarge n) = Reader
part_of (Unexpected n) = Reader
part_of (UnboundName n) = Reader
part_of (TooDeep n) = Reader
part_of (TooManyEntries n) = Reader
part_of (IllTyped n) = Judge
part_of (TooHigh n) = Translator
part_of (BranchTooLong n) = Translator
part_of (MemoryFull n) = CodeMemory
part_of StackTooShort = Machine
part_of (BadWord n) = Machine
part_of (StackEmpty n) = Machine
part_of (StackFull n) = Machine
part_of (PlaceOutside n) = Machine
part_of (BudgetSpent n) = Machine
part_of (Overflow n) = Arithmetic
part_of (OutputTooShort n) = Listing

abbrev pub detail_of : Refusal → ℕ
detail_of (TextTooLong n) = n
detail_of (NoToken n) = n
detail_of (NumberTooLarge n) = n
detail_of (Unexpected n) = n
detail_of (UnboundName n) = n
detail_of (TooDeep n) = n
detail_of (TooManyEntries n) = n
detail_of (IllTyped n) = n
detail_of (TooHigh n) = n
detail_of (BranchTooLong n) = n
detail_of (MemoryFull n) = n
detail_of StackTooShort = 0
detail_of (BadWord n) = n
detail_of (StackEmpty n) = n
detail_of (StackFull n) = n
detail_of (PlaceOutside n) = n
detail_of (BudgetSpent n) = n
detail_of (Overflow n) = n
detail_of (OutputTooShort n) = n

-- a part's name, as printed
abbrev pub name_of : Part → List ℕ
name_of Reader = codes "reader"
name_of Judge = codes "judge"
name_of Translator = codes "translator"
name_of CodeMemory = codes "code memory"
name_of Machine = codes "machine"
name_of Arithmetic = codes "arithmetic"
name_of Listing = codes "listing"

-- the printed line, without its end: refused NUMBER PART DETAIL
abbrev pub line_of : Refusal → List ℕ
line_of x = codes "refused " ++ (decimal (number_of x) ++ (codes " " ++ (name_of (part_of x) ++ (codes " " ++ decimal (detail_of x)))))
