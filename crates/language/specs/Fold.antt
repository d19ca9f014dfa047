-- How a rule is read: a left fold of one step over the tokens.
use Rattle.std.specs.Prelude.{ℕ, ◌+◌, Bool, true, false, cond, List, [], ◌∷◌, ◌++◌, length, take, drop, Some, None, Ok, Err, Option, Result, ◌==◌, nat_lt}
use Rattle.refusal.specs.declared.Refusal.{Refusal}
use Rattle.refusal.specs.declared.Refusal.TheVariants.{NoToken, NumberTooLarge, Unexpected, UnboundName, TooDeep}
use Rattle.bytecode.specs.Words.{plus}
use Rattle.bytecode.specs.declared.argument.Argument.{Argument}
use Rattle.language.specs.Operators.{row_of}
use Rattle.language.specs.Tree.{entry}
use Rattle.language.specs.Tokens.{Lexeme}
use Rattle.language.specs.Names.{position}
use Rattle.language.specs.Frames.{frame, start, above, left, closed, scoped, deep}
use Rattle.language.specs.declared.entry.Entry.{Entry}
use Rattle.language.specs.declared.entry.Kind.{Kind}
use Rattle.language.specs.declared.entry.Kind.TheVariants.{Number as NumberKind, Truth as TruthKind, Name as NameKind}
use Rattle.language.specs.declared.frame.Due.{Due}
use Rattle.language.specs.declared.frame.Due.TheVariants.{Operand, Binder as BinderDue, Equals, Operator as OperatorDue}
use Rattle.language.specs.declared.frame.Frame.{Frame}
use Rattle.language.specs.declared.frame.Mark.{Mark}
use Rattle.language.specs.declared.frame.Mark.TheVariants.{Paren, Condition, Then as ThenMark, Else as ElseMark, Binder, Value, Body, Binary as BinaryMark, Prefix as PrefixMark}
use Rattle.language.specs.declared.operator.Operator.{Operator}
use Rattle.language.specs.declared.operator.Operator.TheVariants.{Or, And, Equal, AtMost, Plus, Times}
use Rattle.language.specs.declared.step.Opening.{Opening}
use Rattle.language.specs.declared.step.Opening.TheVariants.{Leaf, Name as NameOpening, Nested, Whole}
use Rattle.language.specs.declared.step.Sequel.{Sequel}
use Rattle.language.specs.declared.step.Sequel.TheVariants.{Join, Turn as TurnTo, Bring, Shut, Finish}
use Rattle.language.specs.declared.step.Turn.{Turn}
use Rattle.language.specs.declared.step.Turn.TheVariants.{Then as ThenTurn, Else as ElseTurn}
use Rattle.language.specs.declared.token.TokenKind.{TokenKind}
use Rattle.language.specs.declared.token.TokenKind.TheVariants.{Number, Truth, Name, Binary, Prefix, If, Then, Else, Let, In, Open, Close, End, TooLarge, Bad}

-- the open frames; the names of lets whose first expression is open; the names in scope; what is due; how many entries
pub record State : Type 0 where
  pub frames : List Frame
  pub pending : List (List ℕ)
  pub scope : List (List ℕ)
  pub due : Due
  pub count : ℕ

abbrev pub state : List Frame → List (List ℕ) → List (List ℕ) → Due → ℕ → State
state fs ps xs d n = record { frames = fs; pending = ps; scope = xs; due = d; count = n }

-- a step goes on with a state and the entries that it adds, or refuses
abbrev pub Step : Type 0
Step = Result (State × List Entry) Refusal

abbrev pub going : State → Step
going s = Ok (s, [])

-- an operand of one entry
abbrev pub leaf : Kind → Argument → ℕ → State → Step
leaf k n p s = Ok (state s.frames s.pending s.scope OperatorDue (s.count + 1), entry k n 1 p ∷ [])

abbrev pub named : Option ℕ → ℕ → State → Step
named None p s = Err (UnboundName p)
named (Some i) p s = leaf NameKind (plus i) p s

-- a frame opens, and what is due then
abbrev pub opened : Mark → ℕ → ℕ → Due → State → State
opened m p w d s = state (frame m p w s.count ∷ s.frames) s.pending s.scope d s.count

-- at most 64 frames nest
abbrev pub enter : Mark → ℕ → Due → State → Step
enter m p d s = cond (nat_lt (deep s.frames) 64) (going (opened m p s.count d s)) (Err (TooDeep p))

-- an if and a let stand only where a whole expression may
abbrev pub enter_whole : Mark → ℕ → Due → State → Step
enter_whole m p d s = cond (above s.frames == 0) (enter m p d s) (Err (Unexpected p))

-- why a token that cannot follow is refused: it may be no token, or a number too large, besides
abbrev pub misplaced : TokenKind → ℕ → Refusal
misplaced (Number k) p = Unexpected p
misplaced (Truth b) p = Unexpected p
misplaced Name p = Unexpected p
misplaced (Binary o) p = Unexpected p
misplaced (Prefix o) p = Unexpected p
misplaced If p = Unexpected p
misplaced Then p = Unexpected p
misplaced Else p = Unexpected p
misplaced Let p = Unexpected p
misplaced In p = Unexpected p
misplaced Open p = Unexpected p
misplaced Close p = Unexpected p
misplaced End p = Unexpected p
misplaced TooLarge p = NumberTooLarge p
misplaced Bad p = NoToken p

-- what a token begins where an operand is due, if anything
abbrev pub opening_of : TokenKind → Option Opening
opening_of (Number k) = Some (Leaf NumberKind k)
opening_of (Truth b) = Some (Leaf TruthKind (plus (cond b 1 0)))
opening_of Name = Some NameOpening
opening_of (Prefix o) = Some (Nested (PrefixMark o))
opening_of Open = Some (Nested Paren)
opening_of If = Some (Whole Condition Operand)
opening_of Let = Some (Whole Binder BinderDue)
opening_of (Binary o) = None
opening_of Then = None
opening_of Else = None
opening_of In = None
opening_of Close = None
opening_of End = None
opening_of TooLarge = None
opening_of Bad = None

abbrev pub begun_by : Opening → State → ℕ → List ℕ → Step
begun_by (Leaf e n) s p x = leaf e n p s
begun_by NameOpening s p x = named (position x s.scope) p s
begun_by (Nested m) s p x = enter m p Operand s
begun_by (Whole m d) s p x = enter_whole m p d s

abbrev pub begun : Option Opening → State → TokenKind → ℕ → List ℕ → Step
begun None s k p x = Err (misplaced k p)
begun (Some o) s k p x = begun_by o s p x

-- the frame on top with another mark, before entries that come after n
abbrev pub remarked : Mark → ℕ → List Frame → List Frame
remarked m n [] = []
remarked m n (f ∷ fs) = frame m f.place f.whole n ∷ fs

abbrev pub is_name : TokenKind → Bool
is_name (Number k) = false
is_name (Truth b) = false
is_name Name = true
is_name (Binary o) = false
is_name (Prefix o) = false
is_name If = false
is_name Then = false
is_name Else = false
is_name Let = false
is_name In = false
is_name Open = false
is_name Close = false
is_name End = false
is_name TooLarge = false
is_name Bad = false

-- behind `let`, its name
abbrev pub bound : State → TokenKind → ℕ → List ℕ → Step
bound s k p x =
    cond (is_name k) (going (state (remarked Value s.count s.frames) (x ∷ s.pending) s.scope Equals s.count)) (Err (misplaced k p))

abbrev pub is_equal_by : Operator → Bool
is_equal_by Or = false
is_equal_by And = false
is_equal_by Equal = true
is_equal_by AtMost = false
is_equal_by Plus = false
is_equal_by Times = false

abbrev pub is_equal : TokenKind → Bool
is_equal (Number k) = false
is_equal (Truth b) = false
is_equal Name = false
is_equal (Binary o) = is_equal_by o
is_equal (Prefix o) = false
is_equal If = false
is_equal Then = false
is_equal Else = false
is_equal Let = false
is_equal In = false
is_equal Open = false
is_equal Close = false
is_equal End = false
is_equal TooLarge = false
is_equal Bad = false

-- behind the name of a let, `=`
abbrev pub equated : State → TokenKind → ℕ → Step
equated s k p = cond (is_equal k) (going (state s.frames s.pending s.scope Operand s.count)) (Err (misplaced k p))

-- each frame on top that binds at the level k ends: the state then, and the entries
abbrev pub ended : ℕ → State → State
ended k s =
    state (left k s.frames) s.pending (scoped k s.frames s.scope) s.due (s.count + length (closed k s.frames s.count))

abbrev pub endings : ℕ → State → List Entry
endings k s = closed k s.frames s.count

-- an operator ends what binds as tightly as it does, or, if it does not repeat, only what binds tighter
abbrev pub ends : Operator → ℕ
ends o = cond (row_of o).repeats (row_of o).level ((row_of o).level + 1)

-- an operator opens; one that does not repeat cannot stand beside another of its level
abbrev pub joined : Operator → ℕ → State → List Entry → Step
joined o p u es =
    cond (above u.frames == (row_of o).level) (Err (Unexpected p)) (Ok (opened (BinaryMark o) p (start u.frames) Operand u, es))

-- what the words then, else and in make of the frame on top
abbrev pub then_of : Mark → Option Mark
then_of Paren = None
then_of Condition = Some ThenMark
then_of ThenMark = None
then_of ElseMark = None
then_of Binder = None
then_of Value = None
then_of Body = None
then_of (BinaryMark o) = None
then_of (PrefixMark o) = None

abbrev pub else_of : Mark → Option Mark
else_of Paren = None
else_of Condition = None
else_of ThenMark = Some ElseMark
else_of ElseMark = None
else_of Binder = None
else_of Value = None
else_of Body = None
else_of (BinaryMark o) = None
else_of (PrefixMark o) = None

abbrev pub turn_of : Turn → Mark → Option Mark
turn_of ThenTurn m = then_of m
turn_of ElseTurn m = else_of m

abbrev pub in_of : Mark → Option Mark
in_of Paren = None
in_of Condition = None
in_of ThenMark = None
in_of ElseMark = None
in_of Binder = None
in_of Value = Some Body
in_of Body = None
in_of (BinaryMark o) = None
in_of (PrefixMark o) = None

abbrev pub turn_to : Option Mark → ℕ → State → List Entry → Step
turn_to None p u es = Err (Unexpected p)
turn_to (Some m) p u es = Ok (state (remarked m u.count u.frames) u.pending u.scope Operand u.count, es)

abbrev pub turn_top : (Mark → Option Mark) → ℕ → List Frame → State → List Entry → Step
turn_top g p [] u es = Err (Unexpected p)
turn_top g p (f ∷ fs) u es = turn_to (g f.mark) p u es

abbrev pub turned : (Mark → Option Mark) → ℕ → State → List Entry → Step
turned g p u es = turn_top g p u.frames u es

-- the newest let's name comes into scope
abbrev pub brought : Step → Step
brought (Ok u) =
    Ok (state u.0.frames (drop 1 u.0.pending) (take 1 u.0.pending ++ u.0.scope) u.0.due u.0.count, u.1)
brought (Err e) = Err e

abbrev pub is_paren : Mark → Bool
is_paren Paren = true
is_paren Condition = false
is_paren ThenMark = false
is_paren ElseMark = false
is_paren Binder = false
is_paren Value = false
is_paren Body = false
is_paren (BinaryMark o) = false
is_paren (PrefixMark o) = false

-- a parenthesis ends
abbrev pub shut_top : ℕ → List Frame → State → List Entry → Step
shut_top p [] u es = Err (Unexpected p)
shut_top p (f ∷ fs) u es =
    cond (is_paren f.mark) (Ok (state fs u.pending u.scope u.due u.count, es)) (Err (Unexpected p))

abbrev pub shut : ℕ → State → List Entry → Step
shut p u es = shut_top p u.frames u es

-- the text ends, and nothing is open
abbrev pub finish_top : ℕ → List Frame → State → List Entry → Step
finish_top p [] u es = Ok (u, es)
finish_top p (f ∷ fs) u es = Err (Unexpected p)

abbrev pub finished : ℕ → State → List Entry → Step
finished p u es = finish_top p u.frames u es

-- what a token does where an operand has ended, if anything
abbrev pub sequel_of : TokenKind → Option Sequel
sequel_of (Binary o) = Some (Join o)
sequel_of Then = Some (TurnTo ThenTurn)
sequel_of Else = Some (TurnTo ElseTurn)
sequel_of In = Some Bring
sequel_of Close = Some Shut
sequel_of End = Some Finish
sequel_of (Number k) = None
sequel_of (Truth b) = None
sequel_of Name = None
sequel_of (Prefix o) = None
sequel_of Open = None
sequel_of If = None
sequel_of Let = None
sequel_of TooLarge = None
sequel_of Bad = None

abbrev pub gone_on_by : Sequel → State → ℕ → Step
gone_on_by (Join o) s p = joined o p (ended (ends o) s) (endings (ends o) s)
gone_on_by (TurnTo w) s p = turned (turn_of w) p (ended 0 s) (endings 0 s)
gone_on_by Bring s p = brought (turned in_of p (ended 0 s) (endings 0 s))
gone_on_by Shut s p = shut p (ended 0 s) (endings 0 s)
gone_on_by Finish s p = finished p (ended 0 s) (endings 0 s)

abbrev pub gone_on : Option Sequel → State → TokenKind → ℕ → Step
gone_on None s k p = Err (misplaced k p)
gone_on (Some q) s k p = gone_on_by q s p

abbrev pub duly : Due → State → TokenKind → ℕ → List ℕ → Step
duly Operand s k p x = begun (opening_of k) s k p x
duly BinderDue s k p x = bound s k p x
duly Equals s k p x = equated s k p
duly OperatorDue s k p x = gone_on (sequel_of k) s k p

-- one step
abbrev pub feed : State → Lexeme → Step
feed s t = duly s.due s t.kind t.place t.text

abbrev pub prefixed : List Entry → Result (List Entry) Refusal → Result (List Entry) Refusal
prefixed es (Ok fs) = Ok (es ++ fs)
prefixed es (Err e) = Err e

abbrev pub followed : Step → (State → Result (List Entry) Refusal) → Result (List Entry) Refusal
followed (Ok u) f = prefixed u.1 (f u.0)
followed (Err e) f = Err e

-- the entries that the tokens add, one step after another
abbrev pub feeds : State → List Lexeme → Result (List Entry) Refusal
feeds s [] = Ok []
feeds s (t ∷ ts) = followed (feed s t) (λ u. feeds u ts)

abbrev pub fresh : State
fresh = state [] [] [] Operand 0
