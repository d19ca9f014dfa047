use Rattle.std.proofs.Common.{◌≡◌, sym, ap, ◌∙◌, subst, Some, Ok, Option, arith}
use Rattle.std.specs.Option.{ok_or}
use Rattle.language.specs.Fold.{State}
use Rattle.language.specs.Frames.{left}
use Rattle.reader.specs.Opened.{frames_of}
use Rattle.reader.specs.Steps.{Low}
use Rattle.reader.proofs.Lets.{low_left}
use Rattle.reader.proofs.Sequels.{goes_on}
use Rattle.reader.proofs.parser.Parser.go_on.Goals as goal

was_some : {A : Type 0} {E : Type 0} (o : Option A) (e : E) (a : A) → ok_or o e ≡ Ok a → o ≡ Some a
was_some o e a is = grind arith

pub follow-requires : goal.follow-requires
follow-requires c =
    let q = c.in_ok-sequel.sequel in
    let fs = frames_of c.args.self.now.stack in
    subst (Low q) (sym (ap (λ (s : State). s.frames) c.close.ensures.answer.1 ∙ ap (λ k. left k fs) c.least_of.ensures)) (low_left q fs)

pub returns : goal.returns
returns c =
    rw c.ok_or-2.ensures.value
    (goes_on c.in_ok-sequel.sequel c.args.token.kind c.args.token.place c.least_of.result _ c.args.self.now c.close.new.self _ c.least_of.ensures (sym c.sequel.ensures ∙ was_some c.sequel.result _ c.in_ok-sequel.sequel (sym c.ok_or.ensures.value ∙ c.in_ok-sequel.was)) c.close.ensures c.follow.ensures)
