-- The names on a stack, the newest first.
use Rattle.std.specs.Prelude.{ℕ, List, map, reverse, take}
use Rattle.std.specs.Borrow.{Bor}
use Rattle.reader.specs.declared.names.Names.{Names}

abbrev pub newest_first : List (Bor (List ℕ)) → List (List ℕ)
newest_first xs = reverse (map (λ (x : Bor (List ℕ)). x.now) xs)

abbrev pub held : Names → List (List ℕ)
held n = newest_first (take n.count n.names)
