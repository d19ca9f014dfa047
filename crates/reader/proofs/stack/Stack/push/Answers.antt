use Rattle.std.proofs.Common.{rules}
use Rattle.reader.proofs.Stacks.{push_room}
use Rattle.reader.proofs.stack.Stack.push.Goals as goal

pub push-requires : goal.push-requires
push-requires c = (search rules, push_room c.args.self.now c.args.frame.mark c.requires)
