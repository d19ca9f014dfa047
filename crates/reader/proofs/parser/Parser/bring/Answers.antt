use Rattle.std.proofs.Common.{rules, ◌≡◌, true, sym, ◌∙◌, arith}
use Rattle.reader.specs.Lets.{is_value}
use Rattle.reader.specs.Opened.{frames_of}
use Rattle.reader.proofs.Lets.{value_room}
use Rattle.reader.proofs.parser.Parser.bring.Goals as goal

pub hand_over-requires-clause-room : goal.hand_over-requires-clause-room
hand_over-requires-clause-room c =
    let p = c.args.self.now in
    let v : is_value c.in_ok-frame.frame.mark ≡ true = search rules in
    let few = value_room (frames_of p.stack) c.in_ok-frame.frame (sym c.top.ensures ∙ c.in_ok-frame.was) v in
    omega (arith, few, p.bodied, p.stack.nested, p.stack.shallow)
