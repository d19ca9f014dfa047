use Rattle.bytecode.proofs.Words.{below_zero}
use Rattle.bytecode.proofs.argument.Argument.minus.Goals as goal

pub returns : goal.returns
returns c = below_zero c.args.size _ c.if-size-eq0.false
