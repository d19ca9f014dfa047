use Rattle.std.proofs.Common.{◌≡◌, length, reverse, replicate}
use Rattle.language.specs.declared.operator.ValueType.TheVariants.{Number}
use Rattle.typing.proofs.scope.fields.Given as goal

abbrev pub invariant-loop-field : goal.invariant-loop-field
invariant-loop-field l = record { count : length l.scope.items ≡ l._field; numbers : reverse l.scope.items ≡ replicate l._field Number }
