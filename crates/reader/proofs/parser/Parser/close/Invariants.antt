use Rattle.std.proofs.Common.{◌≡◌, ◌+◌, length}
use Rattle.language.specs.Fold.{ended, endings}
use Rattle.reader.specs.Opened.{frames_of}
use Rattle.reader.specs.Steps.{view, put}
use Rattle.reader.proofs.parser.Parser.close.Given as goal

-- what is left to end gives what the whole gives
abbrev pub invariant-loop-frame : goal.invariant-loop-frame
invariant-loop-frame l = record {
  ended : ended l.least (view l.self) ≡ ended l.least (view l.initial.self);
  written : put l.self.table.now l.self.count (endings l.least (view l.self)) ≡ put l.initial.self.table.now l.initial.self.count (endings l.least (view l.initial.self));
  same : l.self.table.ghost_name ≡ l.initial.self.table.ghost_name;
  room : l.self.count + length (frames_of l.self.stack) ≡ l.initial.self.count + length (frames_of l.initial.self.stack);
}

abbrev pub decreases-loop-frame : goal.decreases-loop-frame
decreases-loop-frame l = length (frames_of l.self.stack)
