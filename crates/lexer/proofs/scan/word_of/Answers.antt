use Rattle.std.proofs.Common.{◌≡◌, ℕ, List, length, codes, sym, ap, rules, arith}
use Rattle.std.proofs.lemmas.Slice.Eq.{HasBytesAt, text_from_reads}
use Rattle.language.specs.Tokens.{word}
use Rattle.lexer.proofs.scan.word_of.Goals as goal

-- the word of bytes that were read one by one
word_read : (w p : List ℕ) → length w ≡ length p → HasBytesAt w 0 p → word p ≡ word w
word_read w p l r = ap word (sym (text_from_reads w p l r))

pub returns-in-then : goal.returns-in-then
returns-in-then c = word_read c.args.bytes.now (codes "then") (omega arith) (search rules)

pub returns-in-true : goal.returns-in-true
returns-in-true c = word_read c.args.bytes.now (codes "true") (omega arith) (search rules)

pub returns-in-else : goal.returns-in-else
returns-in-else c = word_read c.args.bytes.now (codes "else") (omega arith) (search rules)

pub returns-in-false : goal.returns-in-false
returns-in-false c = word_read c.args.bytes.now (codes "false") (omega arith) (search rules)
