-- The table of operators: level, whether it repeats, the types taken and given, and the instruction.
use Rattle.std.specs.Prelude.{ℕ, Bool, true, false}
use Rattle.bytecode.specs.Words.{plus}
use Rattle.bytecode.specs.declared.argument.Argument.{Argument}
use Rattle.bytecode.specs.declared.instruction.Instruction.{Instruction}
use Rattle.bytecode.specs.declared.instruction.Instruction.TheVariants.{Addi, Multi, Ori, Eqi, Leqi}
use Rattle.language.specs.declared.operator.Operator.{Operator}
use Rattle.language.specs.declared.operator.Operator.TheVariants.{Or, And, Equal, AtMost, Plus, Times}
use Rattle.language.specs.declared.operator.Prefix.{Prefix}
use Rattle.language.specs.declared.operator.Prefix.TheVariants.{Not, Increment}
use Rattle.language.specs.declared.operator.PrefixRow.{PrefixRow}
use Rattle.language.specs.declared.operator.Row.{Row}
use Rattle.language.specs.declared.operator.ValueType.{ValueType}
use Rattle.language.specs.declared.operator.ValueType.TheVariants.{Number, Truth}

abbrev pub row : ℕ → Bool → ValueType → ValueType → Instruction → Row
row l r t g i = record { level = l; repeats = r; takes = t; gives = g; instruction = i }

abbrev pub row_of : Operator → Row
row_of Or = row 1 true Truth Truth Ori
row_of And = row 2 true Truth Truth Multi
row_of Equal = row 3 false Number Truth Eqi
row_of AtMost = row 3 false Number Truth Leqi
row_of Plus = row 4 true Number Number Addi
row_of Times = row 5 true Number Number Multi

abbrev pub prefix_row : ValueType → ValueType → Argument → Instruction → PrefixRow
prefix_row t g k i = record { takes = t; gives = g; constant = k; instruction = i }

-- `not e` is e = 0, and `++e` is e + 1
abbrev pub prefix_row_of : Prefix → PrefixRow
prefix_row_of Not = prefix_row Truth Truth (plus 0) Eqi
prefix_row_of Increment = prefix_row Number Number (plus 1) Addi
