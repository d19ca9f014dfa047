-- How many lets are open, by their frames, and what may be due under a frame.
use Rattle.std.specs.Prelude.{◌≡◌, ℕ, ◌+◌, Bool, true, false, cond, List, [], ◌∷◌}
use Rattle.language.specs.Frames.{frame, nests, is_body}
use Rattle.language.specs.declared.step.Opening.{Opening}
use Rattle.language.specs.declared.step.Opening.TheVariants.{Leaf, Name, Nested, Whole}
use Rattle.language.specs.declared.frame.Due.{Due}
use Rattle.language.specs.declared.frame.Due.TheVariants.{Operand, Binder as BinderDue, Equals, Operator}
use Rattle.language.specs.declared.frame.Frame.{Frame}
use Rattle.language.specs.declared.frame.Mark.{Mark}
use Rattle.language.specs.declared.frame.Mark.TheVariants.{Paren, Condition, Then, Else, Binder, Value, Body, Binary, Prefix}

abbrev pub is_value : Mark → Bool
is_value Paren = false
is_value Condition = false
is_value Then = false
is_value Else = false
is_value Binder = false
is_value Value = true
is_value Body = false
is_value (Binary o) = false
is_value (Prefix o) = false

abbrev pub is_binder : Mark → Bool
is_binder Paren = false
is_binder Condition = false
is_binder Then = false
is_binder Else = false
is_binder Binder = true
is_binder Value = false
is_binder Body = false
is_binder (Binary o) = false
is_binder (Prefix o) = false

-- how many frames pass a test
abbrev pub counted : (Mark → Bool) → List Frame → ℕ
counted test [] = 0
counted test (f ∷ fs) = cond (test f.mark) (counted test fs + 1) (counted test fs)

-- lets in their first expression, and in their second
abbrev pub values : List Frame → ℕ
values fs = counted is_value fs

abbrev pub bodies : List Frame → ℕ
bodies fs = counted is_body fs

abbrev pub top_binds : List Frame → Bool
top_binds [] = false
top_binds (f ∷ fs) = is_binder f.mark

-- the name of a let is due only where the let is the newest frame
abbrev pub due_fits : Due → List Frame → Bool
due_fits Operand fs = true
due_fits BinderDue fs = top_binds fs
due_fits Equals fs = true
due_fits Operator fs = true

-- a frame that nests and is no let past its name may be opened, with that due in it
pub record Opens (m : Mark) (d : Due) : Type 0 where
  pub nested : nests m ≡ true
  pub no_value : is_value m ≡ false
  pub no_body : is_body m ≡ false
  pub fits : due_fits d (frame m 0 0 0 ∷ []) ≡ true

abbrev pub Opened : Opening → Type 0
Opened (Leaf k n) = Unit {0}
Opened Name = Unit {0}
Opened (Nested m) = Opens m Operand
Opened (Whole m d) = Opens m d
