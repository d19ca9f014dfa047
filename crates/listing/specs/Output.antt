-- What the caller is answered, and what the output holds then.
use Rattle.std.specs.Prelude.{ℕ, cond, List, ◌++◌, length, drop, Ok, Err, Result, nat_le}
use Rattle.std.specs.List.{slice_get}
use Rattle.std.specs.Option.{ok_or, option_and_then}
use Rattle.refusal.specs.declared.Refusal.{Refusal}
use Rattle.refusal.specs.declared.Refusal.TheVariants.{BadWord, OutputTooShort}
use Rattle.bytecode.specs.Words.{instruction_in}
use Rattle.bytecode.specs.declared.instruction.Word.{Word}
use Rattle.bytecode.specs.declared.instruction.Instruction.{Instruction}

-- the answer, where the output has this many bytes
abbrev pub answer_of : Result (List ℕ) Refusal → ℕ → Result ℕ Refusal
answer_of (Ok text) room = cond (nat_le (length text) room) (Ok (length text)) (Err (OutputTooShort (length text)))
answer_of (Err why) room = Err why

-- the output: the text at its front, or all as it was
abbrev pub output_of : Result (List ℕ) Refusal → List ℕ → List ℕ
output_of (Ok text) out = cond (nat_le (length text) (length out)) (text ++ drop (length text) out) out
output_of (Err why) out = out

-- how many bytes a listing takes
abbrev pub size_of : Result (List ℕ) Refusal → Result ℕ Refusal
size_of (Ok text) = Ok (length text)
size_of (Err why) = Err why

-- the instruction at a place, or the refusal of the word there
abbrev pub instruction_at : List Word → ℕ → Result Instruction Refusal
instruction_at ws place = ok_or (option_and_then instruction_in (slice_get ws place)) (BadWord place)
