-- The frames that stay open while a rule is read, the newest first.
use Rattle.std.specs.Prelude.{ℕ, ◌+◌, ◌-◌, Bool, true, false, cond, List, [], ◌∷◌, drop, nat_le}
use Rattle.bytecode.specs.Words.{plus}
use Rattle.language.specs.Operators.{row_of}
use Rattle.language.specs.Tree.{entry}
use Rattle.language.specs.declared.entry.Entry.{Entry}
use Rattle.language.specs.declared.entry.Kind.{Kind}
use Rattle.language.specs.declared.entry.Kind.TheVariants.{Blank, If, Let, Prefix as PrefixKind, Binary as BinaryKind}
use Rattle.language.specs.declared.frame.Frame.{Frame}
use Rattle.language.specs.declared.frame.Mark.{Mark}
use Rattle.language.specs.declared.frame.Mark.TheVariants.{Paren, Condition, Then, Else, Binder, Value, Body, Binary, Prefix}

abbrev pub frame : Mark → ℕ → ℕ → ℕ → Frame
frame m p w n = record { mark = m; place = p; whole = w; first = n }

-- how many entries stand before those of the operand that is open
abbrev pub start : List Frame → ℕ
start [] = 0
start (f ∷ fs) = f.first

-- how tightly an open frame holds what follows it: 0 where a whole expression may follow, 1 to 5 an operator, 6 a prefix
abbrev pub level_by : Mark → ℕ
level_by Paren = 0
level_by Condition = 0
level_by Then = 0
level_by Else = 0
level_by Binder = 0
level_by Value = 0
level_by Body = 0
level_by (Binary o) = (row_of o).level
level_by (Prefix o) = 6

abbrev pub above : List Frame → ℕ
above [] = 0
above (f ∷ fs) = level_by f.mark

-- whether a frame ends where nothing that binds tighter than the level k goes on; an open bracket or word does not
abbrev pub binds : ℕ → Mark → Bool
binds k Paren = false
binds k Condition = false
binds k Then = false
binds k Else = nat_le k 0
binds k Binder = false
binds k Value = false
binds k Body = nat_le k 0
binds k (Binary o) = nat_le k (row_of o).level
binds k (Prefix o) = nat_le k 6

-- the entry that a frame becomes when it ends
abbrev pub kind_of : Mark → Kind
kind_of Paren = Blank
kind_of Condition = Blank
kind_of Then = Blank
kind_of Else = If
kind_of Binder = Blank
kind_of Value = Blank
kind_of Body = Let
kind_of (Binary o) = BinaryKind o
kind_of (Prefix o) = PrefixKind o

-- after n entries
abbrev pub joint : Frame → ℕ → Entry
joint f n = entry (kind_of f.mark) (plus 0) (n + 1 - f.whole) f.place

-- a let in its second expression, where its name is in scope
abbrev pub is_body : Mark → Bool
is_body Paren = false
is_body Condition = false
is_body Then = false
is_body Else = false
is_body Binder = false
is_body Value = false
is_body Body = true
is_body (Binary o) = false
is_body (Prefix o) = false

-- the names in scope once a frame has ended
abbrev pub leaving : Mark → List (List ℕ) → List (List ℕ)
leaving m xs = cond (is_body m) (drop 1 xs) xs

-- where each frame on top that binds at the level k ends: the frames that stay, the entries after n entries, the scope
abbrev pub left : ℕ → List Frame → List Frame
left k [] = []
left k (f ∷ fs) = cond (binds k f.mark) (left k fs) (f ∷ fs)

abbrev pub closed : ℕ → List Frame → ℕ → List Entry
closed k [] n = []
closed k (f ∷ fs) n = cond (binds k f.mark) (joint f n ∷ closed k fs (n + 1)) []

abbrev pub scoped : ℕ → List Frame → List (List ℕ) → List (List ℕ)
scoped k [] xs = xs
scoped k (f ∷ fs) xs = cond (binds k f.mark) (scoped k fs (leaving f.mark xs)) xs

-- the frames that count as nested: all but operators between two operands
abbrev pub nests : Mark → Bool
nests Paren = true
nests Condition = true
nests Then = true
nests Else = true
nests Binder = true
nests Value = true
nests Body = true
nests (Binary o) = false
nests (Prefix o) = true

abbrev pub deep : List Frame → ℕ
deep [] = 0
deep (f ∷ fs) = cond (nests f.mark) (deep fs + 1) (deep fs)
