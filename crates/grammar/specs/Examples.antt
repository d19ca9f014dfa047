-- Some texts, with the trees that they stand for or the places where they are refused.
use Rattle.std.specs.Prelude.{◌≡◌, ℕ, true, Err, codes}
use Rattle.refusal.specs.declared.Refusal.TheVariants.{Unexpected, UnboundName}
use Rattle.bytecode.specs.Words.{plus}
use Rattle.language.specs.Reading.{parse}
use Rattle.language.specs.Tree.{Tree, number, truth, name, prefix, binary, choose, bind}
use Rattle.language.specs.declared.operator.Operator.TheVariants.{Or, And, Equal, AtMost, Plus, Times}
use Rattle.language.specs.declared.operator.Prefix.TheVariants.{Not, Increment}
use Rattle.grammar.specs.Laws.{Means}

abbrev pub one : ℕ → Tree
one p = number (plus 1) p

abbrev pub Examples : Type 0
Examples =
    -- `*` binds tighter than `+`, and both group to the left
    Means (codes "1+1*1+1") (binary Plus 5 (binary Plus 1 (one 0) (binary Times 3 (one 2) (one 4))) (one 6)) ×
    (Means (codes "(1+1)*1") (binary Times 5 (binary Plus 2 (one 1) (one 3)) (one 6)) ×
    -- `&&` binds tighter than `||`, `=` and `<=` tighter than both
    (Means (codes "true || 1 = 1 && 1 <= 1") (binary Or 5 (truth true 0) (binary And 14 (binary Equal 10 (one 8) (one 12)) (binary AtMost 19 (one 17) (one 22)))) ×
    -- a prefix takes the next operand alone
    (Means (codes "++1 * 1") (binary Times 4 (prefix Increment 0 (one 2)) (one 6)) ×
    (Means (codes "not not true") (prefix Not 0 (prefix Not 4 (truth true 8))) ×
    -- an else branch reaches as far as it can
    (Means (codes "if true then 1 else 1 + 1") (choose 0 (truth true 3) (one 13) (binary Plus 22 (one 20) (one 24))) ×
    -- a let hides the names around it, in its second expression alone
    (Means (codes "let weight = weight in weight + length") (bind 0 (name 0 13) (binary Plus 30 (name 0 23) (name 2 32))) ×
    -- `=` and `<=` take two operands, an if as an operand stands in parentheses, and a name is bound
    ((parse (codes "1 = 1 = 1") ≡ Err (Unexpected 6)) ×
    ((parse (codes "1 <= 1 = 1") ≡ Err (Unexpected 7)) ×
    ((parse (codes "1 + if true then 1 else 1") ≡ Err (Unexpected 4)) ×
    ((parse (codes "x") ≡ Err (UnboundName 0)) ×
    (parse (codes "let x = x in x") ≡ Err (UnboundName 8))))))))))))
