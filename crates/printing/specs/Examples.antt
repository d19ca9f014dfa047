-- Some trees and their texts.
use Rattle.std.specs.Prelude.{◌≡◌, true, codes}
use Rattle.bytecode.specs.Words.{plus, minus}
use Rattle.language.specs.Tree.{number, truth, name, prefix, binary, choose, bind}
use Rattle.language.specs.declared.operator.Operator.TheVariants.{AtMost, Plus, Times}
use Rattle.language.specs.declared.operator.Prefix.TheVariants.{Not, Increment}
use Rattle.printing.specs.Printing.{printed}

abbrev pub Examples : Type 0
Examples =
    (printed (bind 0 (number (minus 6) 0) (binary Plus 0 (name 0 0) (binary Times 0 (name 1 0) (name 2 0)))) ≡ codes "let x0 = -7 in ( x0 + ( weight * length ) ) ")
    × (printed (choose 0 (prefix Not 0 (truth true 0)) (name 7 0) (prefix Increment 0 (number (plus 3) 0))) ≡ codes "if ( not true ) then ahead else ( ++ 3 ) ")
    × (printed (bind 0 (name 0 0) (bind 0 (name 0 0) (binary AtMost 0 (name 0 0) (name 1 0)))) ≡ codes "let x0 = weight in ( let x1 = x0 in ( x1 <= x0 ) ) ")
