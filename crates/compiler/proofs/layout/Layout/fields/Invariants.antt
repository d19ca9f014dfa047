use Rattle.std.proofs.Common.{◌≡◌, reverse, replicate}
use Rattle.language.specs.Code.{bound}
use Rattle.compiler.specs.Layouts.{spots_of}
use Rattle.compiler.proofs.layout.Layout.fields.Given as goal

abbrev pub invariant-loop-field : goal.invariant-loop-field
invariant-loop-field l = record { height : l.layout.height ≡ l._field; spots : reverse l.layout.spots.items ≡ spots_of (replicate l._field bound) }
