-- Entries that are the table of a rule's tree.
use Rattle.std.specs.Prelude.{◌≡◌, List}
use Rattle.language.specs.Tree.{Tree, flatten}
use Rattle.language.specs.declared.entry.Entry.{Entry}
use Rattle.grammar.specs.Grammar.{Bound}

pub record Formed (es : List Entry) : Type 0 where
  pub tree : Tree
  pub table : es ≡ flatten tree
  pub bound : Bound 8 tree
