-- Where in the rule's text a refusal points.
use Rattle.std.specs.Prelude.{ℕ, Some, None, Option}
use Rattle.refusal.specs.declared.Refusal.{Refusal}
use Rattle.refusal.specs.declared.Refusal.TheVariants.{TextTooLong, NoToken, NumberTooLarge, Unexpected, UnboundName, TooDeep, TooManyEntries, IllTyped, TooHigh, BranchTooLong, MemoryFull, BadWord, StackTooShort, StackEmpty, StackFull, PlaceOutside, BudgetSpent, Overflow, OutputTooShort}

abbrev pub place_of : Refusal → Option ℕ
place_of (TextTooLong n) = None
place_of (NoToken p) = Some p
place_of (NumberTooLarge p) = Some p
place_of (Unexpected p) = Some p
place_of (UnboundName p) = Some p
place_of (TooDeep p) = Some p
place_of (TooManyEntries n) = None
place_of (IllTyped p) = Some p
place_of (TooHigh n) = None
place_of (BranchTooLong p) = Some p
place_of (MemoryFull n) = None
place_of StackTooShort = None
place_of (BadWord p) = None
place_of (StackEmpty p) = None
place_of (StackFull p) = None
place_of (PlaceOutside p) = None
place_of (BudgetSpent p) = None
place_of (Overflow p) = None
place_of (OutputTooShort n) = None
