-- The listing of a list of words: one line a word, or the refusal of the first word that is no instruction.
use Rattle.std.specs.Prelude.{ℕ, ◌+◌, List, [], ◌∷◌, ◌++◌, Some, None, Ok, Err, codes, decimal, Option, Result}
use Rattle.refusal.specs.declared.Refusal.{Refusal}
use Rattle.refusal.specs.declared.Refusal.TheVariants.{BadWord}
use Rattle.bytecode.specs.Text.{instruction_text}
use Rattle.bytecode.specs.Words.{instruction_in}
use Rattle.bytecode.specs.declared.instruction.Word.{Word}
use Rattle.bytecode.specs.declared.instruction.Instruction.{Instruction}

-- a line: the place, a blank, the instruction and a newline
abbrev pub line_of : ℕ → Instruction → List ℕ
line_of place i = decimal place ++ codes " " ++ instruction_text i ++ 10 ∷ []

-- a text before the rest of a listing
abbrev pub before : List ℕ → Result (List ℕ) Refusal → Result (List ℕ) Refusal
before text (Ok rest) = Ok (text ++ rest)
before text (Err why) = Err why

abbrev pub line_before : ℕ → Option Instruction → Result (List ℕ) Refusal → Result (List ℕ) Refusal
line_before place None rest = Err (BadWord place)
line_before place (Some i) rest = before (line_of place i) rest

-- the lines of the words, of which the first has this place
abbrev pub listing : ℕ → List Word → Result (List ℕ) Refusal
listing place [] = Ok []
listing place (w ∷ ws) = line_before place (instruction_in w) (listing (place + 1) ws)
