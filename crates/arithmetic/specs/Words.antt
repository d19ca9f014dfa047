-- The operations of an arithmetic, on its words and on what they mean.
use Rattle.std.specs.Prelude.{◌≡◌, Decides, ℕ, ◌+◌, ◌-◌, ◌*◌, ◌%◌, Bool, cond, ◌&&◌, ℤ, pos, negsuc, ◌+ℤ◌, ◌*ℤ◌, Some, None, Option, ◌==◌, int_le, nat_le}
use Rattle.std.specs.Option.{option_map}
use Rattle.bytecode.specs.Words.{plus, whole}
use Rattle.bytecode.specs.declared.argument.Argument.{Argument}

-- `number`: the word for an argument. `plus`, `times`: the result, or none where it overflows. `same`: whether two words
-- are one. `at_most`: whether the first is at most the second.
pub record Ops (W : Type 0) : Type 0 where
  pub number : Argument → W
  pub plus : W → W → Option W
  pub times : W → W → Option W
  pub same : W → W → Bool
  pub at_most : W → W → Bool

-- The same on meanings: whole numbers.
pub record Meanings : Type 0 where
  pub number : ℤ → ℤ
  pub plus : ℤ → ℤ → Option ℤ
  pub times : ℤ → ℤ → Option ℤ
  pub at_most : ℤ → ℤ → Bool

-- the words for 0 and 1, and for a truth
abbrev pub naught : {W : Type 0} → Ops W → W
naught ops = ops.number (plus 0)

abbrev pub unit : {W : Type 0} → Ops W → W
unit ops = ops.number (plus 1)

abbrev pub truth : {W : Type 0} → Ops W → Bool → W
truth ops b = cond b (unit ops) (naught ops)

-- Words mean different numbers, their operations come to those on meanings, and `same` tells words apart. The words for 0 and
-- 1 mean these, and multiply like them.
pub record Sound {W : Type 0} (means : W → ℤ) (on : Meanings) (ops : Ops W) : Type 0 where
  pub injective : (x y : W) → means x ≡ means y → x ≡ y
  pub numbered : (k : Argument) → means (ops.number k) ≡ on.number (whole k)
  pub added : (x y : W) → option_map means (ops.plus x y) ≡ on.plus (means x) (means y)
  pub multiplied : (x y : W) → option_map means (ops.times x y) ≡ on.times (means x) (means y)
  pub ordered : (x y : W) → ops.at_most x y ≡ on.at_most (means x) (means y)
  pub told : (x y : W) → Decides (ops.same x y) (means x ≡ means y)
  pub zero : means (naught ops) ≡ pos 0
  pub one : means (unit ops) ≡ pos 1
  pub zeros : ops.times (naught ops) (naught ops) ≡ Some (naught ops)
  pub zero_one : ops.times (naught ops) (unit ops) ≡ Some (naught ops)
  pub one_zero : ops.times (unit ops) (naught ops) ≡ Some (naught ops)
  pub ones : ops.times (unit ops) (unit ops) ≡ Some (unit ops)

-- the remainder modulo 65536, from 0 to 65535; negsuc n is -n-1
abbrev pub remainder : ℤ → ℕ
remainder (pos n) = n % 65536
remainder (negsuc n) = 65535 - n % 65536

-- round words: every result is its remainder, and none overflows
abbrev pub round_ops : Ops ℕ
round_ops = record {
  number = λ k. remainder (whole k);
  plus = λ a b. Some ((a + b) % 65536);
  times = λ a b. Some ((a * b) % 65536);
  same = λ a b. (a == b);
  at_most = λ a b. nat_le a b;
}

abbrev pub round_meanings : Meanings
round_meanings = record {
  number = λ z. pos (remainder z);
  plus = λ a b. Some (pos (remainder (a +ℤ b)));
  times = λ a b. Some (pos (remainder (a *ℤ b)));
  at_most = λ a b. int_le a b;
}

-- the number itself if it lies from -2147483648 to 2147483647; else none
abbrev pub ranged : ℤ → Option ℤ
ranged z = cond (int_le (negsuc 2147483647) z && int_le z (pos 2147483647)) (Some z) None

-- ranged words: every result is exact, and overflows where it lies outside the range
abbrev pub ranged_meanings : Meanings
ranged_meanings = record {
  number = λ z. z;
  plus = λ a b. ranged (a +ℤ b);
  times = λ a b. ranged (a *ℤ b);
  at_most = λ a b. int_le a b;
}

abbrev pub ranged_ops : Ops ℤ
ranged_ops = record {
  number = whole;
  plus = λ a b. ranged (a +ℤ b);
  times = λ a b. ranged (a *ℤ b);
  same = λ a b. int_le a b && int_le b a;
  at_most = λ a b. int_le a b;
}
