use Rattle.std.proofs.Common.{◌≡◌, ℕ, ◌+◌, ◌-◌, ◌≤◌, length}
use Rattle.language.specs.Fold.{feeds}
use Rattle.language.specs.Reading.{parse, tokens_from}
use Rattle.reader.specs.Opened.{frames_of}
use Rattle.reader.specs.Outcomes.{laid}
use Rattle.reader.specs.Steps.{view}
use Rattle.reader.proofs.parser.Parser.take_all.Given as goal

-- what is left of the tokens, behind the entries so far, gives what the whole text gives
abbrev pub invariant-loop : goal.invariant-loop
invariant-loop l =
    (l.self.table.ghost_name ≡ l.initial.self.table.ghost_name)
    × (l.lexer.text.now ≡ l.text)
    × (l.self.count + length (frames_of l.self.stack) ≤ l.lexer.at)
    × ((n : ℕ) × (length l.text + 1 ≤ n + l.lexer.at) × (laid l.self.table.now l.self.count (feeds (view l.self) (tokens_from n l.text l.lexer.at)) ≡ laid l.initial.self.table.now 0 (parse l.text)))

abbrev pub decreases-loop : goal.decreases-loop
decreases-loop l = length l.text - l.lexer.at
