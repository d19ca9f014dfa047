use Rattle.std.proofs.Common.{rules, tests, ◌∙◌}
use Rattle.std.proofs.lemmas.Iterator.{YieldsList-from_slice}
use Rattle.std.proofs.lemmas.Iterator.Consumers.{count_from_yields_List}
use Rattle.std.proofs.lemmas.Iterator.Search.{YieldsList-from_take_while}
use Rattle.std.proofs.lemmas.List.Folds.{length-prefix_len}
use Rattle.lexer.proofs.Runs.{run_of-prefix_len}
use Rattle.lexer.proofs.bytes.run.Goals as goal

pub returns-clause-value : goal.returns-clause-value
returns-clause-value g c test h =
    count_from_yields_List c.take_while.result _ c.count.ensures.ran (YieldsList-from_take_while _ test (YieldsList-from_slice c.args.bytes.now cc) c.take_while.ensures.closure c.take_while.ensures.done (λ x b q k. search (rules, tests, h)))
    ∙ (length-prefix_len test c.args.bytes.now ∙ run_of-prefix_len test c.args.bytes.now)
