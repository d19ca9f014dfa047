-- Reading token by token gives what the fold over all tokens gives.
use Rattle.std.proofs.Common.{◌≡◌, ℕ, zero, suc, ◌+◌, ◌<◌, ◌≤◌, Bool, true, false, cond, ◌&&◌, ◌||◌, leb, List, [], ◌∷◌, ◌++◌, length, get_or, take, drop, set, replicate, IfOk, is_err, Ok, Err, Option, Result, sym, refl, ap, ◌∙◌, subst, append_assoc, arith, length-append}
use Rattle.std.proofs.lemmas.List.{append-nil, take-append-drop, take_more_set, drop-set-lt, length-set}
use Rattle.std.proofs.lemmas.Bool.{or_left, eqb-false}
use Rattle.refusal.specs.declared.Refusal.{Refusal}
use Rattle.bytecode.specs.Words.{plus}
use Rattle.bytecode.specs.declared.argument.Argument.{Argument}
use Rattle.bytecode.proofs.Words.{same_argument}
use Rattle.language.proofs.Scanning.{token_moves}
use Rattle.language.specs.Fold.{State, Step, begun_by, begun, remarked, bound, ended, endings, ends, joined, turn_to, turn_top, brought, shut_top, finish_top, gone_on_by, gone_on, duly, feed, feeds, prefixed}
use Rattle.language.specs.Frames.{left, closed}
use Rattle.language.specs.Reading.{is_last, tokens_from, leaves}
use Rattle.language.specs.Tree.{entry, blank}
use Rattle.language.specs.Tokens.{Lexeme, lexeme, after, begins, scanned, begun as begun_with, is_digit, is_small, is_word, is_minus, two_mark, one_mark, mark_by, run_of}
use Rattle.language.specs.declared.entry.Entry.{Entry}
use Rattle.language.specs.declared.entry.Kind.TheVariants.{Blank}
use Rattle.language.specs.declared.frame.Due.{Due}
use Rattle.language.specs.declared.frame.Frame.{Frame}
use Rattle.language.specs.declared.frame.Mark.{Mark}
use Rattle.language.specs.declared.operator.Operator.{Operator as OperatorOf}
use Rattle.language.specs.declared.step.Opening.{Opening}
use Rattle.language.specs.declared.step.Sequel.{Sequel}
use Rattle.language.specs.declared.token.TokenKind.{TokenKind}
use Rattle.reader.proofs.Sequels.{put_more}
use Rattle.reader.specs.Outcomes.{paired, laid}
use Rattle.reader.specs.Steps.{view, put, Answered, Stepped}
use Rattle.reader.specs.declared.parser.Parser.{Parser}
use Rattle.lexer.specs.declared.cursor.Lexer.{Lexer}

-- entries and frames together
abbrev total : State → ℕ
total s = s.count + length s.frames

-- a step counts the entries that it adds, and leaves no more entries and frames than that
abbrev Counts : ℕ → ℕ → Step → Type 0
Counts n most (Ok u) = (u.0.count ≡ n + length u.1) × (total u.0 ≤ most)
Counts n most (Err e) = Unit {0}

counts_begun_by : (o : Opening) (s : State) (p : ℕ) (x : List ℕ) → Counts s.count (total s + 1) (begun_by o s p x)
counts_begun_by o s p x = grind arith

counts_begun : (o : Option Opening) (s : State) (k : TokenKind) (p : ℕ) (x : List ℕ) → Counts s.count (total s + 1) (begun o s k p x)
counts_begun o s k p x = grind (arith, counts_begun_by)

length-remarked : (m : Mark) (n : ℕ) (fs : List Frame) → length (remarked m n fs) ≡ length fs
length-remarked m n fs = grind arith

-- what ends is no frame any more
length-closed : (k n : ℕ) (fs : List Frame) → length (closed k fs n) + length (left k fs) ≡ length fs
length-closed k n [] = refl
length-closed k n (f ∷ fs) = let rest = length-closed k (n + 1) fs in grind arith

total_ended : (k : ℕ) (s : State) → total (ended k s) ≤ total s + 1
total_ended k s = let e = length-closed k s.count s.frames in omega arith

counts_turn_to : (o : Option Mark) (p n most : ℕ) (u : State) (es : List Entry) → u.count ≡ n + length es → total u ≤ most → Counts n most (turn_to o p u es)
counts_turn_to o p n most u es h t = grind (arith, length-remarked)

counts_turn : (g : Mark → Option Mark) (p n most : ℕ) (fs : List Frame) (u : State) (es : List Entry) → u.count ≡ n + length es → total u ≤ most → Counts n most (turn_top g p fs u es)
counts_turn g p n most fs u es h t = grind (arith, counts_turn_to)

counts_brought : (n most : ℕ) (x : Step) → Counts n most x → Counts n most (brought x)
counts_brought n most x h = grind arith

counts_shut : (p n most : ℕ) (fs : List Frame) (u : State) (es : List Entry) → u.count ≡ n + length es → u.count + length fs ≤ most → Counts n most (shut_top p fs u es)
counts_shut p n most fs u es h t = grind arith

counts_finish : (p n most : ℕ) (fs : List Frame) (u : State) (es : List Entry) → u.count ≡ n + length es → total u ≤ most → Counts n most (finish_top p fs u es)
counts_finish p n most fs u es h t = grind arith

counts_joined : (o : OperatorOf) (p : ℕ) (s : State) → Counts s.count (total s + 1) (joined o p (ended (ends o) s) (endings (ends o) s))
counts_joined o p s = let e = length-closed (ends o) s.count s.frames in grind arith

counts_gone_on_by : (q : Sequel) (s : State) (p : ℕ) → Counts s.count (total s + 1) (gone_on_by q s p)
counts_gone_on_by q s p = grind (arith, counts_joined, counts_turn, counts_brought, counts_shut, counts_finish, total_ended)

counts_gone_on : (q : Option Sequel) (s : State) (k : TokenKind) (p : ℕ) → Counts s.count (total s + 1) (gone_on q s k p)
counts_gone_on q s k p = grind (arith, counts_gone_on_by)

counts_bound : (s : State) (k : TokenKind) (p : ℕ) (x : List ℕ) → Counts s.count (total s + 1) (bound s k p x)
counts_bound s k p x = grind (arith, length-remarked)

counts_duly : (d : Due) (s : State) (k : TokenKind) (p : ℕ) (x : List ℕ) → Counts s.count (total s + 1) (duly d s k p x)
counts_duly d s k p x = grind (arith, counts_begun, counts_bound, counts_gone_on)

pub feed_counts : (s : State) (t : Lexeme) → Counts s.count (total s + 1) (feed s t)
feed_counts s t = counts_duly s.due s t.kind t.place t.text

pub laid_more : (table : List Entry) (n : ℕ) (es : List Entry) (r : Result (List Entry) Refusal) → laid table n (prefixed es r) ≡ laid (put table n es) (n + length es) r
laid_more table n es r = grind (arith, put_more, length-append)

-- what a step that was refused, and one that was not, says of the fold
answered_err : (x : Step) (r : Result (Unit {0}) Refusal) (old new : Parser) (e : Refusal) → Answered x r old new → r ≡ Err e → x ≡ Err e
answered_err x r old new e h was = grind arith

record Went (x : Step) (old new : Parser) : Type 0 where
  pub next : State × List Entry
  pub was : x ≡ Ok next
  pub state : view new ≡ next.0
  pub written : new.table.now ≡ put old.table.now old.count next.1

answered_ok : (x : Step) (r : Result (Unit {0}) Refusal) (old new : Parser) (v : Unit {0}) → Answered x r old new → r ≡ Ok v → Went x old new
answered_ok (Ok u) r old new v h was = record { next = u; was = refl; state = h.1; written = h.2 }
answered_ok (Err d) r old new v h was = let q : r ≡ Err d = h in let z : ◌≡◌ {A = ℕ} 0 1 = cc in absurd (omega arith)

counts_ok : (n most : ℕ) (x : Step) (u : State × List Entry) → Counts n most x → x ≡ Ok u → (u.0.count ≡ n + length u.1) × (total u.0 ≤ most)
counts_ok n most x u h e = subst (Counts n most) e h

-- the tokens from a place on begin with the token there
pub feeds_err : (b : Bool) (s : State) (t : Lexeme) (ts : List Lexeme) (e : Refusal) → feed s t ≡ Err e → feeds s (cond b (t ∷ []) (t ∷ ts)) ≡ Err e
feeds_err b s t ts e h = grind arith

pub feeds_last : (b : Bool) (s : State) (t : Lexeme) (ts : List Lexeme) (u : State × List Entry) → b ≡ true → feed s t ≡ Ok u → feeds s (cond b (t ∷ []) (t ∷ ts)) ≡ Ok u.1
feeds_last b s t ts u l h = grind (arith, append-nil)

pub feeds_on : (b : Bool) (s : State) (t : Lexeme) (ts : List Lexeme) (u : State × List Entry) → b ≡ false → feed s t ≡ Ok u → feeds s (cond b (t ∷ []) (t ∷ ts)) ≡ prefixed u.1 (feeds u.0 ts)
feeds_on b s t ts u l h = grind arith

-- one turn, at the place p of the text with tokens enough
module _ (text : List ℕ) (l : Lexer) (old new : Parser) (whole : Result (ℕ × List Entry) Refusal) (same : l.text.now ≡ text) where
  abbrev s : State
  s = view old

  abbrev p : ℕ
  p = l.at

  within : p ≤ length text
  within = subst (λ xs. p ≤ length xs) same l.within

  at_text : (t : Lexeme) → t ≡ lexeme l.text.now p → t ≡ lexeme text p
  at_text t is = is ∙ ap (λ xs. lexeme xs p) same

  pub turn_err : (n : ℕ) → length text + 1 ≤ n + p → laid old.table.now old.count (feeds s (tokens_from n text p)) ≡ whole →
      (t : Lexeme) (r : Result (Unit {0}) Refusal) (e : Refusal) → t ≡ lexeme l.text.now p → Stepped (feed s t) r old new → r ≡ Err e → Err e ≡ whole
  turn_err zero fuel inv t r e is step was = let w = within in absurd (omega arith)
  turn_err (suc k) fuel inv t r e is step was =
      let x : feed s (lexeme text p) ≡ Err e = ap (feed s) (sym (at_text t is)) ∙ answered_err (feed s t) r old new e step.answer was in
      sym (ap (laid old.table.now old.count) (feeds_err (is_last (lexeme text p).kind) s (lexeme text p) (tokens_from k text (after text p)) e x)) ∙ inv

  pub turn_last : (n : ℕ) → length text + 1 ≤ n + p → laid old.table.now old.count (feeds s (tokens_from n text p)) ≡ whole →
      (t : Lexeme) (r : Result (Unit {0}) Refusal) (o : Unit {0}) → t ≡ lexeme l.text.now p → Stepped (feed s t) r old new → r ≡ Ok o → is_last t.kind ≡ true → Ok (new.count, new.table.now) ≡ whole
  turn_last zero fuel inv t r o is step was last = let w = within in absurd (omega arith)
  turn_last (suc k) fuel inv t r o is step was last =
      let w = answered_ok (feed s t) r old new o step.answer was in
      let here = at_text t is in
      let c = (counts_ok s.count (total s + 1) (feed s t) w.next (feed_counts s t) w.was).0 in
      grind (arith, append-nil)

  -- what a step leaves where another token follows
  pub record Turned : Type 0 where
    pub fuel : ℕ
    pub enough : length text + 1 ≤ fuel + after text p
    pub rest : laid new.table.now new.count (feeds (view new) (tokens_from fuel text (after text p))) ≡ whole
    pub room : total (view new) ≤ total s + 1
    pub kept : new.table.ghost_name ≡ old.table.ghost_name

  pub turn_on : (n : ℕ) → length text + 1 ≤ n + p → laid old.table.now old.count (feeds s (tokens_from n text p)) ≡ whole →
      (t : Lexeme) (r : Result (Unit {0}) Refusal) (o : Unit {0}) → t ≡ lexeme l.text.now p → Stepped (feed s t) r old new → r ≡ Ok o → is_last t.kind ≡ false → Turned
  turn_on zero fuel inv t r o is step was last = let w = within in absurd (omega arith)
  turn_on (suc k) fuel inv t r o is step was last =
      let w = answered_ok (feed s t) r old new o step.answer was in
      let u = w.next in
      let x : feed s (lexeme text p) ≡ Ok u = ap (feed s) (sym (at_text t is)) ∙ w.was in
      let ends : is_last (lexeme text p).kind ≡ false = ap (λ y. is_last y.kind) (sym (at_text t is)) ∙ last in
      let c = counts_ok s.count (total s + 1) (feed s (lexeme text p)) u (feed_counts s (lexeme text p)) x in
      let ts = tokens_from k text (after text p) in
      let moves = token_moves text p ends in
      let e : laid new.table.now new.count (feeds (view new) ts) ≡ laid (put old.table.now old.count u.1) (old.count + length u.1) (feeds u.0 ts) =
      ap (λ y. laid y new.count (feeds (view new) ts)) w.written
      ∙ (ap (λ (y : State). laid (put old.table.now old.count u.1) y.count (feeds y ts)) w.state
      ∙ ap (λ y. laid (put old.table.now old.count u.1) y (feeds u.0 ts)) c.0) in
      record {
        fuel = k;
        enough = omega arith;
        rest =
            e ∙ (sym (laid_more old.table.now old.count u.1 (feeds u.0 ts))
            ∙ (sym (ap (laid old.table.now old.count) (feeds_on (is_last (lexeme text p).kind) s (lexeme text p) ts u ends x)) ∙ inv));
        room = subst (λ y. total y ≤ total s + 1) (sym w.state) c.1;
        kept = step.same;
      }

-- a table with room for all that is written
put_fits : (table : List Entry) (n : ℕ) (es : List Entry) → n + length es ≤ length table → put table n es ≡ take n table ++ (es ++ drop (n + length es) table)
put_fits table n [] h =
    let e : n ≡ n + 0 = omega arith in
    sym (take-append-drop n table) ∙ ap (λ k. take n table ++ drop k table) e
put_fits table n (x ∷ es) h =
    let i : n < length table = omega arith in
    let k : n + 1 + length es ≡ n + suc (length es) = omega arith in
    let long = length-set table n x in
    let less : n < n + 1 + length es = omega arith in
    put_fits (set table n x) (n + 1) es (omega arith)
    ∙ (ap (λ a. a ++ (es ++ drop (n + 1 + length es) (set table n x))) (take_more_set table n x i)
    ∙ (ap (λ a. (take n table ++ x ∷ []) ++ (es ++ a)) (drop-set-lt (n + 1 + length es) table n x less ∙ ap (λ j. drop j table) k)
    ∙ append_assoc (take n table) (x ∷ []) (es ++ drop (n + suc (length es)) table)))

-- what the table holds where the answer is a number, and what it is to hold where it is a refusal
pub left_ok : (x : Result (List Entry) Refusal) (old table : List Entry) (r : Result ℕ Refusal) → paired r table ≡ laid old 0 x → is_err r ≡ false → IfOk r (λ n. n ≤ length old) → table ≡ leaves old x
left_ok (Ok es) old table (Ok n) h t room = let fit = put_fits old 0 es in grind arith
left_ok x old table r h t room = grind arith

pub left_err : (x : Result (List Entry) Refusal) (old table : List Entry) (r : Result ℕ Refusal) → paired r table ≡ laid old 0 x → is_err r ≡ true → leaves old x ≡ replicate (length old) blank
left_err x old table r h t = grind arith

-- a table of entries that hold nothing is one of blank entries
pub filled : (old table new : List Entry) (k : Argument) → k.negative ≡ false → k.size ≡ 0 → length table ≡ length old → new ≡ replicate (length table) (entry Blank k 0 0) → new ≡ replicate (length old) blank
filled old table new k n z long e = let same : k ≡ plus 0 = same_argument n z in cc

pub paired_err : (r : Result ℕ Refusal) (table : List Entry) (e : Refusal) → r ≡ Err e → paired r table ≡ Err e
paired_err r table e h = grind arith
