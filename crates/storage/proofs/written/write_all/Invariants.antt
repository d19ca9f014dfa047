use Rattle.std.proofs.Common.{◌≡◌, take}
use Rattle.storage.specs.Written.{written}
use Rattle.storage.proofs.written.write_all.Given as goal

abbrev pub invariant-loop-operation : goal.invariant-loop-operation
invariant-loop-operation l = l.memory.bytes ≡ written l.initial.memory.bytes (take l.operation-index l.operations)
