use Rattle.std.proofs.Common.{rules, arith}
use Rattle.reader.proofs.Stacks.{within}
use Rattle.reader.proofs.stack.Stack.remark.Goals as goal

pub push-requires : goal.push-requires
push-requires c = (search rules, omega (arith, within c.args.self.now, c.in-Some.ensures.len))
