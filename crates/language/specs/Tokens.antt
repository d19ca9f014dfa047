-- The tokens of a text: the longest that fits at each place, blanks between them.
use Rattle.std.specs.Prelude.{ℕ, ◌+◌, ◌-◌, ◌*◌, Bool, true, false, cond, ◌&&◌, ◌||◌, List, [], ◌∷◌, length, take, drop, Some, None, codes, Option, ◌==◌, nat_le, nat_lt, slice_index}
use Rattle.bytecode.specs.Words.{argument_of}
use Rattle.bytecode.specs.declared.argument.Argument.{Argument}
use Rattle.std.specs.Str.{bytes_eq}
use Rattle.language.specs.declared.operator.Operator.TheVariants.{Or, And, Equal, AtMost, Plus, Times}
use Rattle.language.specs.declared.operator.Prefix.TheVariants.{Not, Increment}
use Rattle.language.specs.declared.token.TokenKind.{TokenKind}
use Rattle.language.specs.declared.token.TokenKind.TheVariants.{Number, Truth, Name, Binary, Prefix, If, Then, Else, Let, In, Open, Close, End, TooLarge, Bad}

-- a space, a tab, a line feed or a carriage return
abbrev pub is_blank : ℕ → Bool
is_blank b = b == 32 || (b == 9 || (b == 10 || b == 13))

abbrev pub is_digit : ℕ → Bool
is_digit b = nat_le 48 b && nat_le b 57

abbrev pub is_small : ℕ → Bool
is_small b = nat_le 97 b && nat_le b 122

-- a letter or a digit
abbrev pub is_word : ℕ → Bool
is_word b = is_small b || (nat_le 65 b && nat_le b 90 || is_digit b)

-- how many bytes at the start pass a test
abbrev pub run_of : (ℕ → Bool) → List ℕ → ℕ
run_of test [] = 0
run_of test (b ∷ bs) = cond (test b) (run_of test bs + 1) 0

-- the number that digits write, behind those that make n
abbrev pub value_from : ℕ → List ℕ → ℕ
value_from n [] = n
value_from n (d ∷ ds) = value_from (n * 10 + (d - 48)) ds

abbrev pub sign_of : Bool → ℕ
sign_of negative = cond negative 1 0

abbrev pub number_by : Option Argument → TokenKind
number_by None = Bad
number_by (Some k) = Number k

-- a run of digits behind a sign: no token if it begins with a 0 that is not all of it
abbrev pub numeral : Bool → List ℕ → TokenKind
numeral negative ds =
    cond (nat_lt 1 (length ds) && slice_index ds 0 == 48) Bad
    (cond (nat_lt 255 (value_from 0 ds)) TooLarge (number_by (argument_of (sign_of negative) (value_from 0 ds))))

-- the words that are not names
abbrev pub word : List ℕ → TokenKind
word w =
    cond (bytes_eq w (codes "if")) If (cond (bytes_eq w (codes "then")) Then (cond (bytes_eq w (codes "else")) Else
    (cond (bytes_eq w (codes "let")) Let (cond (bytes_eq w (codes "in")) In (cond (bytes_eq w (codes "not")) (Prefix Not)
    (cond (bytes_eq w (codes "true")) (Truth true) (cond (bytes_eq w (codes "false")) (Truth false) Name)))))))

-- the marks of two bytes and of one byte
abbrev pub two_mark : ℕ → ℕ → Option TokenKind
two_mark b c =
    cond (b == 43 && c == 43) (Some (Prefix Increment)) (cond (b == 38 && c == 38) (Some (Binary And))
    (cond (b == 124 && c == 124) (Some (Binary Or)) (cond (b == 60 && c == 61) (Some (Binary AtMost)) None)))

abbrev pub one_mark : ℕ → Option TokenKind
one_mark b =
    cond (b == 43) (Some (Binary Plus)) (cond (b == 42) (Some (Binary Times)) (cond (b == 61) (Some (Binary Equal))
    (cond (b == 40) (Some Open) (cond (b == 41) (Some Close) None))))

-- two bytes if they are a mark, else one
abbrev pub mark_by : Option TokenKind → Option TokenKind → TokenKind × ℕ
mark_by (Some k) o = (k, 2)
mark_by None (Some k) = (k, 1)
mark_by None None = (Bad, 0)

abbrev pub mark : ℕ → ℕ → TokenKind × ℕ
mark b c = mark_by (two_mark b c) (one_mark b)

-- a run of digits, and a run of letters and digits, at the start of a text, each with its length
abbrev pub numeral_at : Bool → List ℕ → TokenKind × ℕ
numeral_at negative bs = (numeral negative (take (run_of is_digit bs) bs), run_of is_digit bs)

abbrev pub word_at : List ℕ → TokenKind × ℕ
word_at bs = (word (take (run_of is_word bs) bs), run_of is_word bs)

abbrev pub longer : TokenKind × ℕ → TokenKind × ℕ
longer t = (t.0, t.1 + 1)

-- a minus sign belongs to the digits behind it if these begin with 1 to 9
abbrev pub is_minus : ℕ → ℕ → Bool
is_minus b c = b == 45 && (nat_le 49 c && nat_le c 57)

-- what begins with the byte b, before the byte c
abbrev pub begun : ℕ → ℕ → List ℕ → TokenKind × ℕ
begun b c bs =
    cond (is_digit b) (numeral_at false bs) (cond (is_minus b c) (longer (numeral_at true (drop 1 bs))) (cond (is_small b) (word_at bs) (mark b c)))

-- what begins a text that begins with no blank, and how many bytes it has
abbrev pub scanned : List ℕ → TokenKind × ℕ
scanned bs = cond (length bs == 0) (End, 0) (begun (slice_index bs 0) (slice_index bs 1) bs)

-- a token with its place and its bytes
pub record Lexeme : Type 0 where
  pub kind : TokenKind
  pub place : ℕ
  pub text : List ℕ

-- where the token begins that is the first at or behind the place p of a text
abbrev pub begins : List ℕ → ℕ → ℕ
begins text p = p + run_of is_blank (drop p text)

-- the token that begins at a place, and the place behind it
abbrev pub lexeme_at : List ℕ → ℕ → Lexeme
lexeme_at text q = record { kind = (scanned (drop q text)).0; place = q; text = take (scanned (drop q text)).1 (drop q text) }

abbrev pub lexeme : List ℕ → ℕ → Lexeme
lexeme text p = lexeme_at text (begins text p)

abbrev pub after : List ℕ → ℕ → ℕ
after text p = begins text p + (scanned (drop (begins text p) text)).1
