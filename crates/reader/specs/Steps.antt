-- The state of the fold that a parser stands for, and how the code keeps step with the fold.
use Rattle.std.specs.Prelude.{◌≡◌, ℕ, ◌+◌, ◌^◌, ◌<◌, List, [], ◌∷◌, Ok, Err, Result, length, slice_set}
use Rattle.refusal.specs.declared.Refusal.{Refusal}
use Rattle.language.specs.Fold.{State, state, Step, ends, joined, turned, turn_of, in_of, brought, shut, finished}
use Rattle.language.specs.Frames.{above}
use Rattle.language.specs.declared.entry.Entry.{Entry}
use Rattle.language.specs.declared.frame.Frame.{Frame}
use Rattle.language.specs.declared.step.Sequel.{Sequel}
use Rattle.language.specs.declared.step.Sequel.TheVariants.{Join, Turn, Bring, Shut, Finish}
use Rattle.reader.specs.Opened.{frames_of}
use Rattle.reader.specs.Scopes.{held}
use Rattle.reader.specs.declared.parser.Parser.{Parser}

abbrev pub view : Parser → State
view p = state (frames_of p.stack) (held p.pending) (held p.scope) p.due p.count

-- entries written from the place n on, as far as the table has room
abbrev pub put : List Entry → ℕ → List Entry → List Entry
put table n [] = table
put table n (e ∷ es) = put (slice_set table n e) (n + 1) es

-- the answer of a step, and on success the state and what the table then holds
abbrev pub Answered : Step → Result (Unit {0}) Refusal → Parser → Parser → Type 0
Answered (Ok u) r old new = (r ≡ Ok tt) × (view new ≡ u.0) × (new.table.now ≡ put old.table.now old.count u.1)
Answered (Err e) r old new = r ≡ Err e

-- one more entry or frame can be counted: only the caller of a step knows it, whose token is a new one, so it is no
-- invariant of a parser
abbrev pub Room : Parser → Type 0
Room p = p.count + length (frames_of p.stack) + 1 < 2 ^ 64

-- a step of a parser, which keeps its table
pub record Stepped (x : Step) (r : Result (Unit {0}) Refusal) (old new : Parser) : Type 0 where
  pub answer : Answered x r old new
  pub same : new.table.ghost_name ≡ old.table.ghost_name

-- the level at which a sequel ends what stands before it
abbrev pub least_by : Sequel → ℕ
least_by (Join o) = ends o
least_by (Turn w) = 0
least_by Bring = 0
least_by Shut = 0
least_by Finish = 0

-- the frames hold less tightly than what the sequel ends
abbrev pub Low : Sequel → List Frame → Type 0
Low (Join o) fs = above fs < ends o
Low (Turn w) fs = Unit {0}
Low Bring fs = Unit {0}
Low Shut fs = Unit {0}
Low Finish fs = Unit {0}

-- what a sequel does, once the frames that it ends have become these entries
abbrev pub followed_by : Sequel → State → List Entry → ℕ → Step
followed_by (Join o) u es p = joined o p u es
followed_by (Turn w) u es p = turned (turn_of w) p u es
followed_by Bring u es p = brought (turned in_of p u es)
followed_by Shut u es p = shut p u es
followed_by Finish u es p = finished p u es
