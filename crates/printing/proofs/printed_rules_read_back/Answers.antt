use Rattle.printing.proofs.Deriving.{reads_back, distinct}
use Rattle.printing.proofs.Examples.{examples}
use Rattle.printing.proofs.printed_rules_read_back.Goals as goal

pub returns : goal.returns
returns c = record { back = reads_back; distinct = distinct; examples = examples }
