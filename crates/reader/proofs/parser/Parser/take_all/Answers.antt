use Rattle.std.proofs.Common.{◌≡◌, ◌+◌, ◌<◌, ◌≤◌, false, length, Err, sym, refl, ap, ◌∙◌, subst, arith}
use Rattle.std.proofs.lemmas.Result.{err_from_is_err_and}
use Rattle.language.specs.Fold.{State, feeds}
use Rattle.language.specs.Reading.{tokens_from, is_last}
use Rattle.language.specs.Tokens.{lexeme, after}
use Rattle.lexer.specs.Lexing.{plain}
use Rattle.reader.specs.Outcomes.{laid}
use Rattle.reader.specs.Steps.{view}
use Rattle.language.proofs.Scanning.{token_moves}
use Rattle.reader.proofs.Whole.{paired_err, turn_err, turn_last, turn_on}
use Rattle.reader.proofs.parser.Parser.take_all.Goals as goal

pub loop-init : goal.loop-init
loop-init c =
    let text = c.args.text.now in
    let p = c.args.self.now in
    let none = ap (λ (s : State). s.count + length s.frames) c.requires in (
      refl,
      c.new-lexer.ensures.text,
      omega (arith, none),
      (
        length text + 1,
        omega arith,
        ap (λ (s : State). laid p.table.now s.count (feeds s (tokens_from (length text + 1) text c.new-lexer.result.at))) c.requires
            ∙ ap (λ q. laid p.table.now 0 (feeds _ (tokens_from (length text + 1) text q))) c.new-lexer.ensures.start,
      ),
    )

pub returns-in_err-step-clause-written : goal.returns-in_err-step-clause-written
returns-in_err-step-clause-written c =
    let inv = c.loop.invariant.3 in
    let same = c.loop.invariant.1 in
    let p = err_from_is_err_and c.from_residual.result c.from_residual.ensures.1 in
    let e = turn_err c.args.text.now c.loop.lexer c.loop.self c.step.new.self _ same inv.0 inv.1 inv.2 (plain c.next-token.result) c.step.result _ c.next-token.ensures.token c.step.ensures c.in_err-step.was in
    paired_err _ _ _ (p.1 ∙ ap Err p.2) ∙ e

pub returns-then-is_last-clause-written : goal.returns-then-is_last-clause-written
returns-then-is_last-clause-written c =
    let inv = c.loop.invariant.3 in
    let same = c.loop.invariant.1 in
    turn_last c.args.text.now c.loop.lexer c.loop.self c.step.new.self _ same inv.0 inv.1 inv.2 (plain c.next-token.result) c.step.result _ c.next-token.ensures.token c.step.ensures c.in_ok-step.was (sym c.if-is_last.ensures)

-- a token that is not the last takes a byte
moved : (c : goal.Else-is_last) → c.loop.lexer.at < c.next-token.new.self.at
moved c =
    let l : is_last (lexeme c.loop.lexer.text.now c.loop.lexer.at).kind ≡ false = ap (λ t. is_last t.kind) (sym c.next-token.ensures.token) ∙ sym c.if-is_last.ensures in
    let m = token_moves c.loop.lexer.text.now c.loop.lexer.at l in
    omega (arith, c.next-token.ensures.moved)

pub loop-smaller : goal.loop-smaller
loop-smaller c =
    let m = moved c in
    let same = ap (λ x. length x.now) c.next-token.ensures.same in
    let long = ap length c.loop.invariant.1 in
    omega (arith, c.next-token.new.self.within)

pub loop-preserved : goal.loop-preserved
loop-preserved c =
    let inv = c.loop.invariant.3 in
    let same = c.loop.invariant.1 in
    let m = moved c in
    let to : after c.args.text.now c.loop.lexer.at ≡ c.next-token.new.self.at = ap (λ xs. after xs c.loop.lexer.at) (sym same) ∙ sym c.next-token.ensures.moved in
    let on = turn_on c.args.text.now c.loop.lexer c.loop.self c.step.new.self _ same inv.0 inv.1 inv.2 (plain c.next-token.result) c.step.result _ c.next-token.ensures.token c.step.ensures c.in_ok-step.was (sym c.if-is_last.ensures) in (
      on.kept ∙ c.loop.invariant.0,
      ap (λ x. x.now) c.next-token.ensures.same ∙ same,
      omega (arith, on.room, c.loop.invariant.2),
      (
        on.fuel,
        subst (λ q. length c.args.text.now + 1 ≤ on.fuel + q) to on.enough,
        ap (λ q. laid c.step.new.self.table.now c.step.new.self.count (feeds (view c.step.new.self) (tokens_from on.fuel c.args.text.now q))) (sym to) ∙ on.rest,
      ),
    )
