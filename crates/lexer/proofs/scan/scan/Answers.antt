use Rattle.std.proofs.Common.{rules, ap, drop, take, length, ◌-◌}
use Rattle.language.specs.Tokens.{is_digit}
use Rattle.lexer.proofs.Runs.{run_within}
use Rattle.lexer.proofs.scan.scan.Goals as goal

pub overflow_add-result : goal.overflow_add-result
overflow_add-result c =
    let e = ap (λ t. t.1) c.numeral_at-kind.ensures in
    let w = run_within is_digit (take (length c.args.text.now - 1) (drop 1 c.args.text.now)) in
    search (rules, e, w)
