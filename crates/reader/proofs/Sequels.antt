-- What a token does once the frames before it have ended.
use Rattle.std.proofs.Common.{◌≡◌, ℕ, ◌+◌, List, [], ◌∷◌, ◌++◌, length, set, Some, Ok, Err, Result, sym, ap, ◌∙◌, subst, arith}
use Rattle.std.proofs.lemmas.List.{append-nil}
use Rattle.refusal.specs.declared.Refusal.{Refusal}
use Rattle.language.specs.Fold.{State, Step, ended, endings, gone_on, gone_on_by, sequel_of}
use Rattle.language.specs.declared.entry.Entry.{Entry}
use Rattle.language.specs.declared.step.Sequel.{Sequel}
use Rattle.language.specs.declared.token.TokenKind.{TokenKind}
use Rattle.reader.specs.Steps.{view, put, Answered, Stepped, least_by, followed_by}
use Rattle.reader.specs.declared.parser.Parser.{Parser}

abbrev then_step : List Entry → Step → Step
then_step es (Ok v) = Ok (v.0, es ++ v.1)
then_step es (Err e) = Err e

-- it adds no entry
adds_none : (q : Sequel) (u : State) (es : List Entry) (p : ℕ) → followed_by q u es p ≡ then_step es (followed_by q u [] p)
adds_none q u es p = grind (arith, append-nil)

-- entries written one list after another
pub put_more : (table : List Entry) (n : ℕ) (es fs : List Entry) → put table n (es ++ fs) ≡ put (put table n es) (n + length es) fs
put_more table n [] fs = grind arith
put_more table n (e ∷ es) fs = let rest = put_more (set table n e) (n + 1) es fs in grind arith

then_answered : (x : Step) (es : List Entry) (r : Result (Unit {0}) Refusal) (old mid new : Parser) → mid.table.now ≡ put old.table.now old.count es → mid.count ≡ old.count + length es → Answered x r mid new → Answered (then_step es x) r old new
then_answered (Err e) es r old mid new written count a = a
then_answered (Ok v) es r old mid new written count a =
    (a.0, a.1, a.2 ∙ (ap (λ t. put t mid.count v.1) written ∙ (ap (λ n. put (put old.table.now old.count es) n v.1) count ∙ sym (put_more old.table.now old.count es v.1))))

by_sequel : (q : Sequel) (s : State) (p : ℕ) → followed_by q (ended (least_by q) s) (endings (least_by q) s) p ≡ gone_on_by q s p
by_sequel q s p = grind arith

pub goes_on : (q : Sequel) (k : TokenKind) (p least : ℕ) (r : Result (Unit {0}) Refusal) (old mid new : Parser) → least ≡ least_by q → sequel_of k ≡ Some q →
    Stepped (Ok (ended least (view old), endings least (view old))) (Ok tt) old mid → Stepped (followed_by q (view mid) [] p) r mid new → Stepped (gone_on (sequel_of k) (view old) k p) r old new
goes_on q k p least r old mid new low is closed step =
    let u = ended least (view old) in
    let es = endings least (view old) in
    let count : mid.count ≡ old.count + length es = ap (λ (s : State). s.count) closed.answer.1 in
    let a = then_answered (followed_by q (view mid) [] p) es r old mid new closed.answer.2 count step.answer in
    let e : then_step es (followed_by q (view mid) [] p) ≡ gone_on (sequel_of k) (view old) k p =
    ap (λ s. then_step es (followed_by q s [] p)) closed.answer.1
    ∙ (sym (adds_none q u es p)
    ∙ (ap (λ n. followed_by q (ended n (view old)) (endings n (view old)) p) low
    ∙ (by_sequel q (view old) p
    ∙ sym (ap (λ o. gone_on o (view old) k p) is)))) in
    record { answer = subst (λ x. Answered x r old new) e a; same = step.same ∙ closed.same }
