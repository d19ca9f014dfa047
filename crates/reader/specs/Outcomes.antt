-- What is written of a whole text.
use Rattle.std.specs.Prelude.{ℕ, ◌+◌, List, length, Ok, Err, Result}
use Rattle.refusal.specs.declared.Refusal.{Refusal}
use Rattle.language.specs.declared.entry.Entry.{Entry}
use Rattle.reader.specs.Steps.{put}

-- an answer together with the table, which does not matter after a refusal
abbrev pub paired : Result ℕ Refusal → List Entry → Result (ℕ × List Entry) Refusal
paired (Ok n) table = Ok (n, table)
paired (Err e) table = Err e

-- the number of all entries, and the table with these behind n others, as far as it has room
abbrev pub laid : List Entry → ℕ → Result (List Entry) Refusal → Result (ℕ × List Entry) Refusal
laid table n (Ok es) = Ok (n + length es, put table n es)
laid table n (Err e) = Err e
