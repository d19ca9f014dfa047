use Rattle.std.proofs.Common.{◌+◌, ◌≤◌, length, rules}
use Rattle.language.specs.Tokens.{is_blank}
use Rattle.lexer.proofs.Lexes.{next_token, next_place, next_within}
use Rattle.lexer.proofs.cursor.Lexer.next.Goals as goal

ends : (c : goal.After-scan-kind) → c.args.self.now.at + c.run.result + c.scan-kind.result.1 ≤ length c.args.self.now.text.now
ends c = next_within _ _ _ _ (c.run.ensures.value is_blank (λ b r e. e)) c.scan-kind.ensures c.args.self.now.within

pub overflow_add-self : goal.overflow_add-self
overflow_add-self c = let h = ends c in search (rules, h)

pub invariant_of-self : goal.invariant_of-self
invariant_of-self c = record { within = ends c }

pub returns-clause-token : goal.returns-clause-token
returns-clause-token c = next_token _ _ _ _ (c.run.ensures.value is_blank (λ b r e. e)) c.scan-kind.ensures

pub returns-clause-moved : goal.returns-clause-moved
returns-clause-moved c = next_place _ _ _ _ (c.run.ensures.value is_blank (λ b r e. e)) c.scan-kind.ensures
