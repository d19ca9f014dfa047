-- What the judge answers.
use Rattle.std.specs.Prelude.{ℕ, ◌&&◌, Ok, Err, Result}
use Rattle.refusal.specs.declared.Refusal.{Refusal}
use Rattle.refusal.specs.declared.Refusal.TheVariants.{IllTyped}
use Rattle.language.specs.Operators.{row_of, prefix_row_of}
use Rattle.language.specs.Typing.{same_type, fitting}
use Rattle.language.specs.declared.operator.Operator.{Operator}
use Rattle.language.specs.declared.operator.Prefix.{Prefix}
use Rattle.language.specs.declared.operator.ValueType.{ValueType}
use Rattle.language.specs.declared.operator.ValueType.TheVariants.{Truth}

-- a place where types do not fit is a refusal
abbrev pub judged : Result ValueType ℕ → Result ValueType Refusal
judged (Ok a) = Ok a
judged (Err p) = Err (IllTyped p)

-- the type of a node at the place p from the types of its parts
abbrev pub prefixed : Prefix → ℕ → ValueType → Result ValueType ℕ
prefixed o p a = fitting (same_type a (prefix_row_of o).takes) (prefix_row_of o).gives p

abbrev pub paired : Operator → ℕ → ValueType → ValueType → Result ValueType ℕ
paired o p a b = fitting (same_type a (row_of o).takes && same_type b (row_of o).takes) (row_of o).gives p

abbrev pub chosen : ℕ → ValueType → ValueType → ValueType → Result ValueType ℕ
chosen p a b c = fitting (same_type a Truth && same_type b c) b p
