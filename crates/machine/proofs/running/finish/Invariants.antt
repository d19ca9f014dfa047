use Rattle.std.proofs.Common.{◌≡◌}
use Rattle.machine.specs.Processors.{runs_on}
use Rattle.machine.proofs.Turns.{Going}
use Rattle.machine.proofs.running.finish.Given as goal

abbrev pub invariant-loop-steps : goal.invariant-loop-steps
invariant-loop-steps g l = record {
  going : Going g.A.Arithmetic.ops (g.M.CodeMemory.listed l.initial.memory) l.budget (runs_on g.A.Arithmetic.ops (g.M.CodeMemory.listed l.initial.memory) l.budget l.initial.processor 0) l.processor l.steps-counter;
  same : l.processor.words.ghost_name ≡ l.initial.processor.words.ghost_name;
  code : g.M.CodeMemory.listed l.memory ≡ g.M.CodeMemory.listed l.initial.memory;
  room : g.M.CodeMemory.room l.memory ≡ g.M.CodeMemory.room l.initial.memory;
}
