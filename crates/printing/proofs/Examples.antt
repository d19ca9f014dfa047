-- Texts of some trees.
use Rattle.std.proofs.Common.{arith}
use Rattle.std.proofs.lemmas.Fmt.{decimal_digit}
use Rattle.printing.specs.Examples.{Examples}

pub examples : Examples
examples = (
  simp (decimal_digit 0 (omega arith), decimal_digit 7 (omega arith)),
  simp (decimal_digit 3 (omega arith)),
  simp (decimal_digit 0 (omega arith), decimal_digit 1 (omega arith)),
)
