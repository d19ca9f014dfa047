-- A refusal at a place is fixed by the bytes up to the end of the token there and the one byte behind it.
use Rattle.std.specs.Prelude.{◌≡◌, ℕ, ◌+◌, ◌≤◌, max, List, length, take, drop, Some, None, Err, Option}
use Rattle.refusal.specs.declared.Refusal.{Refusal}
use Rattle.refusal.specs.declared.Refusal.TheVariants.{TextTooLong, NoToken, NumberTooLarge, Unexpected, UnboundName, TooDeep, TooManyEntries, IllTyped, TooHigh, BranchTooLong, MemoryFull, BadWord, StackTooShort, StackEmpty, StackFull, PlaceOutside, BudgetSpent, Overflow, OutputTooShort}
use Rattle.language.specs.Reading.{parse, reading}
use Rattle.language.specs.Tokens.{scanned}

-- the place of the token that reading refuses; other refusals are of no token
abbrev pub place_of : Refusal → Option ℕ
place_of (TextTooLong n) = None
place_of (NoToken p) = Some p
place_of (NumberTooLarge p) = Some p
place_of (Unexpected p) = Some p
place_of (UnboundName p) = Some p
place_of (TooDeep p) = Some p
place_of (TooManyEntries n) = None
place_of (IllTyped p) = None
place_of (TooHigh n) = None
place_of (BranchTooLong p) = None
place_of (MemoryFull n) = None
place_of StackTooShort = None
place_of (BadWord p) = None
place_of (StackEmpty p) = None
place_of (StackFull p) = None
place_of (PlaceOutside p) = None
place_of (BudgetSpent p) = None
place_of (Overflow p) = None
place_of (OutputTooShort n) = None

-- how many bytes the token at a place has; where none begins, the byte there counts
abbrev pub extent : List ℕ → ℕ → ℕ
extent text p = max 1 (scanned (drop p text)).1

-- two texts with the same bytes up to the end of the token that the first has at a place, and the byte behind it;
-- where the first text ends before that byte, so does the second
abbrev pub SameUpTo : ℕ → List ℕ → List ℕ → Type 0
SameUpTo p a b = take (p + extent a p + 1) a ≡ take (p + extent a p + 1) b

-- a text is refused only at a token
abbrev pub Placed : Type 0
Placed = (a : List ℕ) (e : Refusal) → parse a ≡ Err e → (p : ℕ) × (place_of e ≡ Some p)

-- the first error decides
abbrev pub Decides : Type 0
Decides = (a b : List ℕ) (e : Refusal) (p : ℕ) → parse a ≡ Err e → place_of e ≡ Some p → SameUpTo p a b → parse b ≡ Err e

-- the same of texts that are read into tables, of whatever length each
abbrev pub ReadingDecides : Type 0
ReadingDecides =
    (a b : List ℕ) (room other : ℕ) (e : Refusal) (p : ℕ) → reading room a ≡ Err e → place_of e ≡ Some p → SameUpTo p a b → length b ≤ 4096 →
    reading other b ≡ Err e
