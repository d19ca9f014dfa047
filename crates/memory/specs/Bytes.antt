-- A word in bytes, from a byte on.
use Rattle.std.specs.Prelude.{ℕ, ◌+◌, List, slice_index, slice_set}
use Rattle.bytecode.specs.declared.instruction.Word.{Word}
use Rattle.bytecode.specs.Words.{word}

-- the word that begins at a byte
abbrev pub word_at : List ℕ → ℕ → Word
word_at bytes at = word (slice_index bytes at) (slice_index bytes (at + 1)) (slice_index bytes (at + 2))

-- the bytes with a word written there
abbrev pub put : List ℕ → ℕ → Word → List ℕ
put bytes at w = slice_set (slice_set (slice_set bytes at w.opcode) (at + 1) w.sign) (at + 2) w.value
