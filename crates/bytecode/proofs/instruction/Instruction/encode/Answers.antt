use Rattle.std.proofs.Common.{sym, ap, ◌∙◌}
use Rattle.bytecode.specs.Words.{written}
use Rattle.bytecode.proofs.Words.{reads_back}
use Rattle.bytecode.proofs.instruction.Instruction.encode.Goals as goal

pub returns-in-Consti-clause-back : goal.returns-in-Consti-clause-back
returns-in-Consti-clause-back c = reads_back _ _ (c.signed.ensures ∙ sym (ap written c.in-Consti.is))

pub returns-in-Branch-clause-back : goal.returns-in-Branch-clause-back
returns-in-Branch-clause-back c = reads_back _ _ (c.signed-in-Branch.ensures ∙ sym (ap written c.in-Branch.is))

pub returns-in-Branchif-clause-back : goal.returns-in-Branchif-clause-back
returns-in-Branchif-clause-back c = reads_back _ _ (c.signed-in-Branchif.ensures ∙ sym (ap written c.in-Branchif.is))
