-- The bytes of a record memory, told from the operations alone.
use Rattle.std.specs.Prelude.{ℕ, List, fold}
use Rattle.records.specs.Writes.{appended_in, cleared_in}
use Rattle.storage.specs.declared.Operation.{Operation}
use Rattle.storage.specs.declared.Operation.TheVariants.{Append, Clear}

abbrev pub wrote : List ℕ → Operation → List ℕ
wrote bytes (Append w) = appended_in bytes w
wrote bytes Clear = cleared_in bytes

-- the bytes after the operations, one after another
abbrev pub written : List ℕ → List Operation → List ℕ
written bytes operations = fold wrote bytes operations
