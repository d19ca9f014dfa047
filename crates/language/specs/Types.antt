-- The names of types.
use Rattle.std.specs.Prelude.{ℕ, List, codes}
use Rattle.language.specs.declared.operator.ValueType.{ValueType}
use Rattle.language.specs.declared.operator.ValueType.TheVariants.{Number, Truth}

-- a type's name, as printed
abbrev pub type_text : ValueType → List ℕ
type_text Number = codes "number"
type_text Truth = codes "truth"
