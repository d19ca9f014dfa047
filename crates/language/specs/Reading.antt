-- What reading a text answers, and what it leaves in the caller's table.
use Rattle.std.specs.Prelude.{ℕ, zero, suc, ◌+◌, min, Bool, true, false, cond, List, [], ◌∷◌, ◌++◌, length, drop, replicate, Ok, Err, Result, nat_lt}
use Rattle.refusal.specs.declared.Refusal.{Refusal}
use Rattle.refusal.specs.declared.Refusal.TheVariants.{TextTooLong, TooManyEntries}
use Rattle.language.specs.Fold.{feeds, fresh}
use Rattle.language.specs.Tokens.{Lexeme, lexeme, after}
use Rattle.language.specs.Tree.{blank}
use Rattle.language.specs.declared.entry.Entry.{Entry}
use Rattle.language.specs.declared.token.TokenKind.{TokenKind}
use Rattle.language.specs.declared.token.TokenKind.TheVariants.{Number, Truth, Name, Binary, Prefix, If, Then, Else, Let, In, Open, Close, End, TooLarge, Bad}

-- behind the end, and behind what is no token, there is no other token
abbrev pub is_last : TokenKind → Bool
is_last (Number k) = false
is_last (Truth b) = false
is_last Name = false
is_last (Binary o) = false
is_last (Prefix o) = false
is_last If = false
is_last Then = false
is_last Else = false
is_last Let = false
is_last In = false
is_last Open = false
is_last Close = false
is_last End = true
is_last TooLarge = true
is_last Bad = true

-- at most n tokens from the place p of a text on
abbrev pub tokens_from : ℕ → List ℕ → ℕ → List Lexeme
tokens_from zero text p = []
tokens_from (suc n) text p =
    cond (is_last (lexeme text p).kind) (lexeme text p ∷ []) (lexeme text p ∷ tokens_from n text (after text p))

-- each token but the last takes a byte, so these are all
abbrev pub tokens : List ℕ → List Lexeme
tokens text = tokens_from (length text + 1) text 0

-- the entries of the tree that a text stands for, or why there is none
abbrev pub parse : List ℕ → Result (List Entry) Refusal
parse text = feeds fresh (tokens text)

-- the entries fit a table of that length
abbrev pub fitted : ℕ → Result (List Entry) Refusal → Result (List Entry) Refusal
fitted room (Ok es) = cond (nat_lt (min room 512) (length es)) (Err (TooManyEntries (length es))) (Ok es)
fitted room (Err e) = Err e

abbrev pub reading : ℕ → List ℕ → Result (List Entry) Refusal
reading room text = cond (nat_lt 4096 (length text)) (Err (TextTooLong (length text))) (fitted room (parse text))

-- what is answered: how many entries there are, or the refusal
abbrev pub answer : Result (List Entry) Refusal → Result ℕ Refusal
answer (Ok es) = Ok (length es)
answer (Err e) = Err e

-- what the table then holds: the entries before the old rest, or nothing but blank entries
abbrev pub leaves : List Entry → Result (List Entry) Refusal → List Entry
leaves table (Ok es) = es ++ drop (length es) table
leaves table (Err e) = replicate (length table) blank
