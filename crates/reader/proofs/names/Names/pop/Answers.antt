use Rattle.std.proofs.Common.{[], take, ap, ◌∙◌, arith}
use Rattle.reader.specs.Scopes.{newest_first}
use Rattle.reader.proofs.Scopes.{newest_drop}
use Rattle.reader.proofs.names.Names.pop.Goals as goal

pub returns-clause-held : goal.returns-clause-held
returns-clause-held c =
    let few = c.args.self.now.few in
    ap (λ k. newest_first (take k c.args.self.now.names)) c.saturating_sub-self.ensures
    ∙ newest_drop c.args.self.now.names c.args.self.now.count (record { ref_ptr = (0, 0); now = [] }) (omega arith)
