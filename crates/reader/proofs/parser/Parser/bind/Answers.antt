use Rattle.std.proofs.Common.{sym, ap, ◌∙◌, arith}
use Rattle.reader.specs.Lets.{due_fits}
use Rattle.reader.specs.Opened.{frames_of}
use Rattle.reader.proofs.Lets.{binder_room}
use Rattle.reader.proofs.parser.Parser.bind.Goals as goal

pub push-requires : goal.push-requires
push-requires c =
    let p = c.args.self.now in
    let r = binder_room (frames_of p.stack) (sym (ap (λ d. due_fits d (frames_of p.stack)) c.requires) ∙ p.expected) in
    omega (arith, r, p.valued, p.stack.nested, p.stack.shallow)
