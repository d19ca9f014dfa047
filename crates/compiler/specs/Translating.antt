-- What a translation answers, and what it leaves in the memory.
use Rattle.std.specs.Prelude.{ℕ, ◌+◌, cond, List, map, Some, None, Option, nat_lt}
use Rattle.refusal.specs.declared.Refusal.{Refusal}
use Rattle.refusal.specs.declared.Refusal.TheVariants.{TooHigh}
use Rattle.bytecode.specs.Words.{written}
use Rattle.bytecode.specs.declared.instruction.Word.{Word}
use Rattle.language.specs.Code.{translation, branch_refusal}
use Rattle.language.specs.Tree.{Tree}
use Rattle.shapes.specs.declared.shape.Shape.{Shape}

-- why code of that shape is not written
abbrev pub reason_for : ℕ → Shape → Option Refusal
reason_for room m = cond (nat_lt 128 (8 + m.tall)) (Some (TooHigh (8 + m.tall))) (branch_refusal m.wide m.length room)

-- the words of the whole code, or what was there before
abbrev pub code_after : Option Refusal → Tree → List Word → List Word
code_after None t old = map written (translation t)
code_after (Some x) t old = old
