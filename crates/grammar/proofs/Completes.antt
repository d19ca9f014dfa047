-- What the grammar derives is read.
use Rattle.std.proofs.Common.{◌≡◌, ℕ, suc, ◌+◌, ◌-◌, ◌<◌, ◌≤◌, true, List, [], ◌∷◌, ◌++◌, length, Ok, Result, sym, refl, ap, ◌∙◌, append_assoc, arith, length-append}
use Rattle.std.proofs.lemmas.List.{append-nil}
use Rattle.std.proofs.lemmas.Bool.{le-leb, lt-ltb, eq-eqb, ne_eqb}
use Rattle.refusal.specs.declared.Refusal.{Refusal}
use Rattle.bytecode.specs.Words.{plus}
use Rattle.language.specs.Frames.{frame, start, above, left, closed, scoped, leaving, deep, binds, kind_of}
use Rattle.language.specs.Fold.{State, state, Step, named as named_to, enter, enter_whole, ended, endings, joined, then_of, else_of, in_of, turned, brought, shut, finished, sequel_of, gone_on, duly, feeds, followed, prefixed as prefixed_by}
use Rattle.language.specs.Tokens.{Lexeme}
use Rattle.language.specs.Tree.{Tree, prefix, binary, choose, bind, size, entry, flatten}
use Rattle.language.specs.declared.entry.Entry.{Entry}
use Rattle.language.specs.declared.frame.Due.{Due}
use Rattle.language.specs.declared.frame.Due.TheVariants.{Operand, Binder as BinderDue, Equals, Operator as OperatorDue}
use Rattle.language.specs.declared.frame.Frame.{Frame}
use Rattle.language.specs.declared.frame.Mark.{Mark}
use Rattle.language.specs.declared.frame.Mark.TheVariants.{Paren, Condition, Then as ThenMark, Else as ElseMark, Binder, Value, Body, Binary as BinaryMark, Prefix as PrefixMark}
use Rattle.language.specs.declared.operator.Operator.{Operator}
use Rattle.language.specs.declared.operator.Operator.TheVariants.{Equal}
use Rattle.language.specs.declared.operator.Prefix.{Prefix as PrefixOperator}
use Rattle.language.specs.declared.token.TokenKind.{TokenKind}
use Rattle.language.specs.declared.token.TokenKind.TheVariants.{Number, Truth, Name, Binary, Prefix, If, Then, Else, Let, In, Open, Close}
use Rattle.grammar.specs.Grammar.{level, left_level, Derives, constant, truth_value, named, parens, prefixed, join, if_else, let_in, tighter}
use Rattle.grammar.specs.Laws.{Complete}
use Rattle.grammar.proofs.Frames.{levels, ends_left, loose, none_ends, left_left, scoped_scoped, closed_closed}
use Rattle.language.proofs.Lengths.{length-flatten}

prefixed_none : (r : Result (List Entry) Refusal) → prefixed_by [] r ≡ r
prefixed_none r = grind arith

prefixed_twice : (xs ys : List Entry) (r : Result (List Entry) Refusal) → prefixed_by xs (prefixed_by ys r) ≡ prefixed_by (xs ++ ys) r
prefixed_twice xs ys r = grind (arith, append_assoc)

-- the tokens ts, read where an operand is due, add the tree t: at the level k all ends as if t stood there
record Reached (k : ℕ) (fs : List Frame) (ps g : List (List ℕ)) (n : ℕ) (ts : List Lexeme) (t : Tree) : Type 0 where
  frames : List Frame
  scope : List (List ℕ)
  out : List Entry
  runs : (rest : List Lexeme) → feeds (state fs ps g Operand n) (ts ++ rest) ≡ prefixed_by out (feeds (state frames ps scope OperatorDue (n + length out)) rest)
  stays : left k frames ≡ left k fs
  keeps : scoped k frames scope ≡ scoped k fs g
  adds : out ++ closed k frames (n + length out) ≡ flatten t ++ closed k fs (n + size t)

-- an expression of the level k may stand behind the frames fs, with d more in one another
record Fits (k d : ℕ) (fs : List Frame) (n : ℕ) : Type 0 where
  starts : start fs ≡ n
  deeper : deep fs + d ≤ 64
  looser : (o : Operator) → k ≤ level o → above fs < level o
  outside : k ≡ 0 → above fs ≡ 0

-- all that ends at j: first what ends at k, then the rest
all_closed : (j k n : ℕ) (fs : List Frame) (es : List Entry) → j ≤ k →
    es ++ closed j fs (n + length es) ≡ (es ++ closed k fs (n + length es)) ++ closed j (left k fs) (n + length (es ++ closed k fs (n + length es)))
all_closed j k n fs es h =
    let m : n + length es + length (closed k fs (n + length es)) ≡ n + length (es ++ closed k fs (n + length es)) = simp length-append (omega arith) in
    rw (closed_closed j k fs (n + length es) h, m, append_assoc)

reach_tighter : {j k n : ℕ} {fs : List Frame} {ps g : List (List ℕ)} {ts : List Lexeme} {t : Tree} → j ≤ k → Reached k fs ps g n ts t → Reached j fs ps g n ts t
reach_tighter {j} {k} {n} {fs} {g} {t} le r =
    let x = flatten t in
    let m : n + size t ≡ n + length (flatten t) = omega (arith, length-flatten t) in
    record {
      frames = r.frames;
      scope = r.scope;
      out = r.out;
      runs = r.runs;
      stays = cc (left_left j k r.frames le, left_left j k fs le);
      keeps = cc (scoped_scoped j k r.frames r.scope le, scoped_scoped j k fs g le);
      adds = cc (all_closed j k n r.frames r.out le, all_closed j k n fs x le);
    }

-- an operand that leaves the frames as they were
atom : {k n : ℕ} {fs : List Frame} {ps g : List (List ℕ)} {ts : List Lexeme} {t : Tree} →
    ((rest : List Lexeme) → feeds (state fs ps g Operand n) (ts ++ rest) ≡ prefixed_by (flatten t) (feeds (state fs ps g OperatorDue (n + size t)) rest)) →
    Reached k fs ps g n ts t
atom {n} {fs} {g} {t} r =
    let m : n + size t ≡ n + length (flatten t) = omega (arith, length-flatten t) in
    record {
      frames = fs;
      scope = g;
      out = flatten t;
      runs = λ rest. rw (← m) (r rest);
      stays = refl;
      keeps = refl;
      adds = rw m;
    }

-- the first token
begins_with : (s : State) (x : Lexeme) (k : TokenKind) (rest : List Lexeme) → x.kind ≡ k →
    feeds s (x ∷ rest) ≡ followed (duly s.due s k x.place x.text) (λ u. feeds u rest)
begins_with s x k rest e = ap (λ i. followed (duly s.due s i x.place x.text) (λ u. feeds u rest)) e

-- a first token that adds no entry
first_token : {u : State} {k : TokenKind} (s : State) (x : Lexeme) (rest : List Lexeme) → x.kind ≡ k → duly s.due s k x.place x.text ≡ Ok (u, []) →
    feeds s (x ∷ rest) ≡ feeds u rest
first_token {u} {k} s x rest e f = begins_with s x k rest e ∙ ap (λ i. followed i (λ v. feeds v rest)) f ∙ prefixed_none (feeds u rest)

entered : (m : Mark) (p d : ℕ) (w : Due) (fs : List Frame) (ps g : List (List ℕ)) (n : ℕ) → deep fs + suc d ≤ 64 →
    enter m p w (state fs ps g Operand n) ≡ Ok (state (frame m p n n ∷ fs) ps g w n, [])
entered m p d w fs ps g n h = let l : deep fs < 64 = omega arith in rw (lt-ltb (deep fs) 64 l)

entered_whole : (m : Mark) (p d : ℕ) (w : Due) (fs : List Frame) (ps g : List (List ℕ)) (n : ℕ) → Fits 0 (suc d) fs n →
    enter_whole m p w (state fs ps g Operand n) ≡ Ok (state (frame m p n n ∷ fs) ps g w n, [])
entered_whole m p d w fs ps g n h = rw (eq-eqb (above fs) 0 (h.outside refl)) (entered m p d w fs ps g n h.deeper)

-- the token behind an operand ends what is open at the level j, and then goes on
goes_on : {j n : ℕ} {fs : List Frame} {ps g : List (List ℕ)} {ts : List Lexeme} {t : Tree} {k : TokenKind} (rest : List Lexeme) (x : Lexeme) (u : State) (step : State → List Entry → Step) →
    Reached j fs ps g n ts t → left j fs ≡ fs → scoped j fs g ≡ g → closed j fs (n + size t) ≡ [] → x.kind ≡ k →
    ((s : State) → gone_on (sequel_of k) s k x.place ≡ step (ended j s) (endings j s)) →
    ((es : List Entry) → step (state fs ps g OperatorDue (n + size t)) es ≡ Ok (u, es)) →
    feeds (state fs ps g Operand n) (ts ++ x ∷ rest) ≡ prefixed_by (flatten t) (feeds u rest)
goes_on {j} {n} {fs} {ps} {g} {t} {k} rest x u step a lj sj cj ke ge oe =
    let s = state a.frames ps a.scope OperatorDue (n + length a.out) in
    let es = closed j a.frames (n + length a.out) in
    let all : a.out ++ es ≡ flatten t = a.adds ∙ ap (λ y. flatten t ++ y) cj ∙ append-nil (flatten t) in
    let long : n + length a.out + length es ≡ n + size t = omega (arith, length-append a.out es, ap length all, length-flatten t) in
    let settled : ended j s ≡ state fs ps g OperatorDue (n + size t) =
    cc (a.stays, lj, a.keeps, sj, long) in
    a.runs (x ∷ rest)
    ∙ ap (prefixed_by a.out)
    (begins_with s x k rest ke ∙ ap (λ i. followed i (λ v. feeds v rest)) (ge s ∙ ap (λ i. step i es) settled ∙ oe es))
    ∙ prefixed_twice a.out es (feeds u rest)
    ∙ ap (λ y. prefixed_by y (feeds u rest)) all

-- a frame opens behind the entries xs, and ends with what it holds
wrap : {k n m : ℕ} {f : Frame} {fs : List Frame} {ps g h : List (List ℕ)} {ts us : List Lexeme} {t v : Tree} (xs : List Entry) →
    Reached k (f ∷ fs) ps h m us v → binds k f.mark ≡ true → leaving f.mark h ≡ g → f.whole ≡ n → m ≡ n + length xs →
    flatten t ≡ xs ++ (flatten v ++ entry (kind_of f.mark) (plus 0) (size t) f.place ∷ []) →
    ((rest : List Lexeme) → feeds (state fs ps g Operand n) (ts ++ rest) ≡ prefixed_by xs (feeds (state (f ∷ fs) ps h Operand m) (us ++ rest))) →
    Reached k fs ps g n ts t
wrap {k} {n} {m} {f} {fs} {ps} {h} {t} {v} xs c b ge we me fe re =
    let more : m + length c.out ≡ n + length (xs ++ c.out) = simp length-append (omega arith) in
    let long : size t ≡ length xs + size v + 1 = sym (length-flatten t) ∙ ap length fe ∙ simp (length-append, length-flatten) (omega arith) in
    let last : m + size v + 1 ≡ n + size t = omega arith in
    let je : m + size v + 1 - f.whole ≡ size t = omega arith in
    record {
      frames = c.frames;
      scope = c.scope;
      out = xs ++ c.out;
      runs = λ rest. rw (← more, re rest, c.runs rest, prefixed_twice);
      stays = rw b at c.stays;
      keeps = rw (b, ge) at c.keeps;
      adds = rw (← more, append_assoc, c.adds, b, je, last, fe) (sym (simp append_assoc));
    }

reach_parens : (d : ℕ) (x y : Lexeme) {n : ℕ} {fs : List Frame} {ps g : List (List ℕ)} {ts : List Lexeme} {t : Tree} → deep fs + suc d ≤ 64 → x.kind ≡ Open → y.kind ≡ Close →
    Reached 0 (frame Paren x.place n n ∷ fs) ps g n ts t → Reached 6 fs ps g n (x ∷ (ts ++ y ∷ [])) t
reach_parens d x y {n} {fs} {ps} {g} {ts} {t} h xe ye a =
    atom
    (λ rest.
    rw (append_assoc ts (y ∷ []) rest)
    (first_token (state fs ps g Operand n) x (ts ++ y ∷ rest) xe (entered Paren x.place d Operand fs ps g n h)
    ∙ goes_on rest y (state fs ps g OperatorDue (n + size t)) (shut y.place) a refl refl refl ye (λ s. refl) (λ es. refl)))

reach_prefix : (d : ℕ) (x : Lexeme) {n : ℕ} {fs : List Frame} {ps g : List (List ℕ)} {o : PrefixOperator} {ts : List Lexeme} {t : Tree} → deep fs + suc d ≤ 64 → x.kind ≡ Prefix o →
    Reached 6 (frame (PrefixMark o) x.place n n ∷ fs) ps g n ts t → Reached 6 fs ps g n (x ∷ ts) (prefix o x.place t)
reach_prefix d x {n} {fs} {ps} {g} {o} {ts} {t} h xe a =
    let none : n ≡ n + 0 = omega arith in
    wrap [] a refl refl refl none refl
    (λ rest.
    first_token (state fs ps g Operand n) x (ts ++ rest) xe (entered (PrefixMark o) x.place d Operand fs ps g n h)
    ∙ sym (prefixed_none _))

reach_join : (x : Lexeme) {d n : ℕ} {fs : List Frame} {ps g : List (List ℕ)} {o : Operator} {ts us : List Lexeme} {t u : Tree} → Fits (level o) d fs n → x.kind ≡ Binary o →
    Reached (left_level o) fs ps g n ts t → Reached (suc (level o)) (frame (BinaryMark o) x.place n (n + size t) ∷ fs) ps g (n + size t) us u →
    Reached (level o) fs ps g n (ts ++ x ∷ us) (binary o x.place t u)
reach_join x {n} {fs} {ps} {g} {o} {ts} {us} {t} {u} h xe a b =
    let m = n + size t in
    let f = frame (BinaryMark o) x.place n m in
    let lo = levels o in
    let below : above fs < level o = h.looser o (omega arith) in
    let under : above fs < left_level o = omega arith in
    let ne : (above fs ≡ level o → ⊥) = λ i. omega arith in
    let apart = none_ends _ fs m g (loose _ fs under) in
    let le : level o ≤ suc (level o) = omega arith in
    let own : level o ≤ level o = omega arith in
    let me : m ≡ n + length (flatten t) = omega (arith, length-flatten t) in
    wrap (flatten t) (reach_tighter le b) (le-leb (level o) (level o) own) refl refl me refl
    (λ rest.
    rw (append_assoc ts (x ∷ us) rest)
    (goes_on (us ++ rest) x (state (f ∷ fs) ps g Operand m) (joined o x.place) a
    apart.0 apart.1.1 apart.1.0 xe
    (λ s. ap (λ i. joined o x.place (ended i s) (endings i s)) (ends_left o))
    (λ es. rw (ne_eqb (above fs) (level o) ne, h.starts))))

reach_if : (x y z : Lexeme) {d n : ℕ} {fs : List Frame} {ps g : List (List ℕ)} {ts us vs : List Lexeme} {t u v : Tree} → Fits 0 (suc d) fs n →
    x.kind ≡ If → y.kind ≡ Then → z.kind ≡ Else →
    Reached 0 (frame Condition x.place n n ∷ fs) ps g n ts t →
    Reached 0 (frame ThenMark x.place n (n + size t) ∷ fs) ps g (n + size t) us u →
    Reached 0 (frame ElseMark x.place n (n + size t + size u) ∷ fs) ps g (n + size t + size u) vs v →
    Reached 0 fs ps g n (x ∷ (ts ++ y ∷ (us ++ z ∷ vs))) (choose x.place t u v)
reach_if x y z {d} {n} {fs} {ps} {g} {ts} {us} {vs} {t} {u} {v} h xe ye ze a b c =
    let p = x.place in
    let m = n + size t in
    let l = n + size t + size u in
    let me : l ≡ n + length (flatten t ++ flatten u) = simp (length-append, length-flatten) (omega arith) in
    wrap (flatten t ++ flatten u) c refl refl refl me (rw append_assoc)
    (λ rest.
    rw (append_assoc ts (y ∷ (us ++ z ∷ vs)) rest, append_assoc us (z ∷ vs) rest)
    (first_token (state fs ps g Operand n) x (ts ++ y ∷ (us ++ z ∷ (vs ++ rest))) xe (entered_whole Condition p d Operand fs ps g n h)
    ∙ goes_on (us ++ z ∷ (vs ++ rest)) y (state (frame ThenMark p n m ∷ fs) ps g Operand m) (turned then_of y.place) a
    refl refl refl ye (λ s. refl) (λ es. refl)
    ∙ ap (prefixed_by (flatten t))
    (goes_on (vs ++ rest) z (state (frame ElseMark p n l ∷ fs) ps g Operand l) (turned else_of z.place) b
    refl refl refl ze (λ s. refl) (λ es. refl))
    ∙ prefixed_twice (flatten t) (flatten u) _))

reach_let : (x i q y : Lexeme) {d n : ℕ} {fs : List Frame} {ps g : List (List ℕ)} {ts us : List Lexeme} {t u : Tree} → Fits 0 (suc d) fs n →
    x.kind ≡ Let → i.kind ≡ Name → q.kind ≡ Binary Equal → y.kind ≡ In →
    Reached 0 (frame Value x.place n n ∷ fs) (i.text ∷ ps) g n ts t →
    Reached 0 (frame Body x.place n (n + size t) ∷ fs) ps (i.text ∷ g) (n + size t) us u →
    Reached 0 fs ps g n (x ∷ i ∷ q ∷ (ts ++ y ∷ us)) (bind x.place t u)
reach_let x i q y {d} {n} {fs} {ps} {g} {ts} {us} {t} {u} h xe ie qe ye a b =
    let p = x.place in
    let m = n + size t in
    let me : m ≡ n + length (flatten t) = omega (arith, length-flatten t) in
    wrap (flatten t) b refl refl refl me refl
    (λ rest.
    rw (append_assoc ts (y ∷ us) rest)
    (first_token (state fs ps g Operand n) x (i ∷ q ∷ (ts ++ y ∷ (us ++ rest))) xe (entered_whole Binder p d BinderDue fs ps g n h)
    ∙ first_token (state (frame Binder p n n ∷ fs) ps g BinderDue n) i (q ∷ (ts ++ y ∷ (us ++ rest))) ie refl
    ∙ first_token (state (frame Value p n n ∷ fs) (i.text ∷ ps) g Equals n) q (ts ++ y ∷ (us ++ rest)) qe refl
    ∙ goes_on (us ++ rest) y (state (frame Body p n m ∷ fs) ps (i.text ∷ g) Operand m)
    (λ s es. brought (turned in_of y.place s es)) a refl refl refl ye (λ s. refl) (λ es. refl)))

-- what may stand behind an open bracket or word
fits_in : {m : Mark} {p n l d : ℕ} {fs : List Frame} → above (frame m p n l ∷ fs) ≡ 0 → deep (frame m p n l ∷ fs) ≡ deep fs + 1 → deep fs + suc d ≤ 64 → Fits 0 d (frame m p n l ∷ fs) l
fits_in a e h = record { starts = refl; deeper = omega arith; looser = λ o i. omega (arith, levels o); outside = λ i. a }

reach : {k : ℕ} {g : List (List ℕ)} {d : ℕ} {ts : List Lexeme} {t : Tree} {fs : List Frame} {ps : List (List ℕ)} {n : ℕ} → Derives k g d ts t → Fits k d fs n →
    Reached k fs ps g n ts t
reach {fs} {ps} {n} (constant {g} x {k} e) h = atom (λ rest. begins_with (state fs ps g Operand n) x (Number k) rest e)
reach {fs} {ps} {n} (truth_value {g} x {b} e) h = atom (λ rest. begins_with (state fs ps g Operand n) x (Truth b) rest e)
reach {fs} {ps} {n} (named {g} x e f) h =
    atom (λ rest. begins_with (state fs ps g Operand n) x Name rest e ∙ ap (λ j. followed (named_to j x.place (state fs ps g Operand n)) (λ u. feeds u rest)) f)
reach (parens x y e r f) h = reach_parens _ x y h.deeper e f (reach r (fits_in refl refl h.deeper))
reach (prefixed x o e r) h =
    reach_prefix _ x h.deeper e
    (reach r (record { starts = refl; deeper = omega (arith, h.deeper); looser = λ i l. absurd (omega (arith, levels i)); outside = λ l. absurd (omega arith) }))
reach (join x o r e q) h =
    reach_join x h e
    (reach r
    (record { starts = h.starts; deeper = h.deeper; looser = λ i l. h.looser i (omega (arith, levels o)); outside = λ l. absurd (omega (arith, levels o)) }))
    (reach q (record { starts = refl; deeper = h.deeper; looser = λ i l. omega arith; outside = λ l. absurd (omega (arith, levels o)) }))
reach (if_else x y z xe r ye q ze w) h =
    reach_if x y z h xe ye ze (reach r (fits_in refl refl h.deeper)) (reach q (fits_in refl refl h.deeper)) (reach w (fits_in refl refl h.deeper))
reach (let_in x i e y xe ie ee r ye q) h = reach_let x i e y h xe ie ee ye (reach r (fits_in refl refl h.deeper)) (reach q (fits_in refl refl h.deeper))
reach (tighter {k} r) h =
    let le : k ≤ suc k = omega arith in
    reach_tighter le (reach r (record { starts = h.starts; deeper = h.deeper; looser = λ o l. h.looser o (omega arith); outside = λ l. absurd (omega arith) }))

pub complete : Complete
complete ts e t r k =
    let a : Reached 0 [] [] [] 0 ts t = reach r (record { starts = refl; deeper = omega arith; looser = λ o l. omega (arith, levels o); outside = λ l. refl }) in
    goes_on [] e (state [] [] [] OperatorDue (0 + size t)) (finished e.place) a refl refl refl k (λ s. refl) (λ es. refl)
    ∙ ap Ok (append-nil (flatten t))
