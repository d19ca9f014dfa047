-- Words in bytes: the word at place i is bytes 3i to 3i + 2.
use Rattle.std.specs.Prelude.{ℕ, ◌*◌, ◌/◌, min, cond, List, map, length, nat_lt}
use Rattle.std.specs.List.{range_with_len}
use Rattle.bytecode.specs.declared.instruction.Word.{Word}
use Rattle.memory.specs.Bytes.{word_at, put}

-- the first n words
abbrev pub words : List ℕ → ℕ → List Word
words bytes n = map (λ i. word_at bytes (3 * i)) (range_with_len 0 n)

-- how many words the bytes have room for: those that they hold whole, at most 4096
abbrev pub room_in : List ℕ → ℕ
room_in bytes = min (length bytes / 3) 4096

-- the bytes after an append to the first n words
abbrev pub put_in : List ℕ → ℕ → Word → List ℕ
put_in bytes n w = cond (nat_lt n (room_in bytes)) (put bytes (3 * n) w) bytes
