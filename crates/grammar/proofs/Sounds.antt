-- What is read, the grammar derives.
use Rattle.std.proofs.Common.{◌≡◌, ℕ, zero, suc, ◌+◌, ◌<◌, ◌≤◌, cond, eqb, ltb, List, [], ◌∷◌, ◌++◌, length, take, drop, Some, None, Ok, Err, Option, Result, sym, refl, ap, ◌∙◌, subst, append_assoc, arith, length-append}
use Rattle.std.proofs.lemmas.List.{append-nil}
use Rattle.std.proofs.lemmas.Bool.{cond_both, ltb-true, eqb-true, eqb-false}
use Rattle.refusal.specs.declared.Refusal.{Refusal}
use Rattle.bytecode.specs.Words.{plus}
use Rattle.language.specs.Frames.{frame, above, left, closed, scoped, deep}
use Rattle.language.specs.Fold.{State, state, Step, going, named as named_to, opened, enter, enter_whole, opening_of, begun, remarked, bound, equated, ended, endings, ends, joined, then_of, else_of, in_of, turn_top, brought, shut_top, finish_top, sequel_of, gone_on, duly, feed, feeds, followed, prefixed, fresh}
use Rattle.language.specs.Names.{position}
use Rattle.language.specs.Tokens.{Lexeme}
use Rattle.language.specs.Tree.{Tree, number, truth, name, entry, flatten}
use Rattle.language.specs.declared.entry.Entry.{Entry}
use Rattle.language.specs.declared.entry.Kind.TheVariants.{Number as NumberKind, Truth as TruthKind, Name as NameKind}
use Rattle.language.specs.declared.frame.Due.{Due}
use Rattle.language.specs.declared.frame.Due.TheVariants.{Operand, Binder as BinderDue, Equals, Operator as OperatorDue}
use Rattle.language.specs.declared.frame.Frame.{Frame}
use Rattle.language.specs.declared.frame.Mark.{Mark}
use Rattle.language.specs.declared.frame.Mark.TheVariants.{Paren, Condition, Binder, Value, Body, Prefix as PrefixMark}
use Rattle.language.specs.declared.operator.Operator.{Operator}
use Rattle.language.specs.declared.operator.Operator.TheVariants.{Equal}
use Rattle.language.specs.declared.token.TokenKind.{TokenKind}
use Rattle.language.specs.declared.token.TokenKind.TheVariants.{Number, Truth, Name, Binary, Prefix, If, Then, Else, Let, In, Open, Close, End}
use Rattle.grammar.specs.Grammar.{level, left_level, Derives, constant, truth_value, named, parens, Rule}
use Rattle.grammar.specs.Laws.{Endless, Sound}
use Rattle.grammar.proofs.Frames.{levels, ends_left, above_left}
use Rattle.grammar.proofs.Opened.{Piece, Opened, nothing, more, inside, before, behind, asking, taking, leaving_it, valuing, binding, starts, depths, floor_operand, Closes, closes}

-- an operand is due
record Waits (s : State) (out : List Entry) (ts : List Lexeme) : Type 0 where
  d : ℕ
  still : Opened s.frames s.pending s.scope out ts d
  idle : s.due ≡ Operand
  counts : s.count ≡ length out

-- the name of a let is due
record Lets (s : State) (out : List Entry) (ts : List Lexeme) : Type 0 where
  d : ℕ
  fs : List Frame
  front : List Lexeme
  word : Lexeme
  still : Opened fs s.pending s.scope out front (suc d)
  outside : above fs ≡ 0
  frames : s.frames ≡ frame Binder word.place s.count s.count ∷ fs
  opens : word.kind ≡ Let
  tokens : front ++ word ∷ [] ≡ ts
  idle : s.due ≡ BinderDue
  counts : s.count ≡ length out

-- the `=` of a let is due
record Names (s : State) (out : List Entry) (ts : List Lexeme) : Type 0 where
  d : ℕ
  fs : List Frame
  ps : List (List ℕ)
  front : List Lexeme
  word : Lexeme
  binder : Lexeme
  still : Opened fs ps s.scope out front (suc d)
  outside : above fs ≡ 0
  frames : s.frames ≡ frame Value word.place s.count s.count ∷ fs
  pending : s.pending ≡ binder.text ∷ ps
  opens : word.kind ≡ Let
  names : binder.kind ≡ Name
  tokens : front ++ word ∷ binder ∷ [] ≡ ts
  idle : s.due ≡ Equals
  counts : s.count ≡ length out

-- an operand has ended
record Got (s : State) (out : List Entry) (ts : List Lexeme) : Type 0 where
  d : ℕ
  es : List Entry
  front : List Lexeme
  part : List Lexeme
  tree : Tree
  still : Opened s.frames s.pending s.scope es front d
  derived : Derives 6 s.scope d part tree
  tokens : front ++ part ≡ ts
  entries : out ≡ es ++ flatten tree
  done : s.due ≡ OperatorDue
  counts : s.count ≡ length out

-- the tokens ts led to the state s and gave the entries out
data Reads : State → List Entry → List Lexeme → Type 0 where
  waits : {s : State} {out : List Entry} {ts : List Lexeme} → Waits s out ts → Reads s out ts
  lets : {s : State} {out : List Entry} {ts : List Lexeme} → Lets s out ts → Reads s out ts
  names : {s : State} {out : List Entry} {ts : List Lexeme} → Names s out ts → Reads s out ts
  got : {s : State} {out : List Entry} {ts : List Lexeme} → Got s out ts → Reads s out ts

pub err_ok : {X : Type 0} {P : Type 0} (d : Refusal) (u : X) → ◌≡◌ {A = Result X Refusal} (Err d) (Ok u) → P
err_ok d u e = cc

-- tokens that are read: what the first adds, and the rest
pub record Fed (y : Step) (f : State → Result (List Entry) Refusal) (es : List Entry) : Type 0 where
  pub next : State × List Entry
  pub rest : List Entry
  pub went : y ≡ Ok next
  pub then : f next.0 ≡ Ok rest
  pub all : next.1 ++ rest ≡ es

pub fed : (y : Step) (f : State → Result (List Entry) Refusal) (es : List Entry) → followed y f ≡ Ok es → Fed y f es
fed (Err d) f es h = err_ok d es h
fed (Ok u) f es h = go (f u.0) refl h
  where
    go : (r : Result (List Entry) Refusal) → f u.0 ≡ r → prefixed u.1 r ≡ Ok es → Fed (Ok u) f es
    go (Err d) e h = err_ok d es h
    go (Ok fs) e h = record { next = u; rest = fs; went = refl; then = e; all = cc }

-- a step that is not refused leads on
abbrev Leads : Step → List Entry → List Lexeme → Type 0
Leads (Ok u) out ts = Reads u.0 (out ++ u.1) ts
Leads (Err e) out ts = Unit {0}

goes : {s : State} {out : List Entry} {ts : List Lexeme} → Reads s out ts → Leads (going s) out ts
goes r = rw append-nil r

-- an operand of one token
leafs : (s : State) (out : List Entry) (ts : List Lexeme) (x : Lexeme) (t : Tree) (e : Entry) → Waits s out ts → flatten t ≡ e ∷ [] → ((d : ℕ) → Derives 6 s.scope d (x ∷ []) t) →
    Leads (Ok (state s.frames s.pending s.scope OperatorDue (s.count + 1), e ∷ [])) out (ts ++ x ∷ [])
leafs s out ts x t e r fe de =
    got
    (record {
      d = r.d;
      es = out;
      front = ts;
      part = x ∷ [];
      tree = t;
      still = r.still;
      derived = de r.d;
      tokens = refl;
      entries = rw fe;
      done = refl;
      counts = simp length-append (omega (arith, r.counts));
    })

names_in : (s : State) (out : List Entry) (ts : List Lexeme) (x : Lexeme) (o : Option ℕ) → Waits s out ts → x.kind ≡ Name → position x.text s.scope ≡ o →
    Leads (named_to o x.place s) out (ts ++ x ∷ [])
names_in s out ts x None r k f = tt
names_in s out ts x (Some i) r k f = leafs s out ts x (name i x.place) (entry NameKind (plus i) 1 x.place) r refl (λ d. named x k f)

-- one more frame that nests
nests : (s : State) (out : List Entry) (ts : List Lexeme) (x : Lexeme) (m : Mark) (w : Due) → (r : Waits s out ts) →
    ((d : ℕ) → Opened s.frames s.pending s.scope out ts (suc d) → Reads (opened m x.place s.count w s) out (ts ++ x ∷ [])) →
    Leads (enter m x.place w s) out (ts ++ x ∷ [])
nests s out ts x m w r f =
    cond_both (ltb (deep s.frames) 64) _ _ (λ i. Leads i out (ts ++ x ∷ [])) (λ b. goes (less r.d r.still (ltb-true _ _ b))) (λ b. tt)
  where
    less : (d : ℕ) → Opened s.frames s.pending s.scope out ts d → deep s.frames < 64 → Reads (opened m x.place s.count w s) out (ts ++ x ∷ [])
    less zero q h = absurd (omega (arith, depths q))
    less (suc d) q h = f d q

nests_whole : (s : State) (out : List Entry) (ts : List Lexeme) (x : Lexeme) (m : Mark) (w : Due) → (r : Waits s out ts) →
    ((d : ℕ) → above s.frames ≡ 0 → Opened s.frames s.pending s.scope out ts (suc d) → Reads (opened m x.place s.count w s) out (ts ++ x ∷ [])) →
    Leads (enter_whole m x.place w s) out (ts ++ x ∷ [])
nests_whole s out ts x m w r f =
    cond_both (eqb (above s.frames) 0) _ _ (λ i. Leads i out (ts ++ x ∷ [])) (λ b. nests s out ts x m w r (λ d q. f d (eqb-true _ _ b) q)) (λ b. tt)

-- a frame that one token opens, where an operand is due then
opens : (s : State) (out : List Entry) (ts : List Lexeme) (x : Lexeme) (m : Mark) (d : ℕ) → Waits s out ts → Opened s.frames s.pending s.scope out ts (suc d) →
    Piece s.frames m x.place s.pending s.pending s.scope s.scope (suc d) d [] (x ∷ []) → Reads (opened m x.place s.count Operand s) out (ts ++ x ∷ [])
opens s out ts x m d r q c =
    waits (record { d = d; still = more q c r.counts r.counts (sym (append-nil out)) refl; idle = refl; counts = r.counts })

after_waits : (s : State) (out : List Entry) (ts : List Lexeme) (x : Lexeme) (k : TokenKind) → x.kind ≡ k → Waits s out ts →
    Leads (begun (opening_of k) s k x.place x.text) out (ts ++ x ∷ [])
after_waits s out ts x (Number n) k r = leafs s out ts x (number n x.place) (entry NumberKind n 1 x.place) r refl (λ d. constant x k)
after_waits s out ts x (Truth b) k r =
    leafs s out ts x (truth b x.place) (entry TruthKind (plus (cond b 1 0)) 1 x.place) r refl (λ d. truth_value x k)
after_waits s out ts x Name k r = names_in s out ts x (position x.text s.scope) r k refl
after_waits s out ts x (Prefix o) k r = nests s out ts x (PrefixMark o) Operand r (λ d q. opens s out ts x (PrefixMark o) d r q (before x o k refl))
after_waits s out ts x Open k r = nests s out ts x Paren Operand r (λ d q. opens s out ts x Paren d r q (inside x k))
after_waits s out ts x If k r = nests_whole s out ts x Condition Operand r (λ d a q. opens s out ts x Condition d r q (asking x a k refl))
after_waits s out ts x Let k r =
    nests_whole s out ts x Binder BinderDue r
    (λ d a q.
    lets (record { d = d; fs = s.frames; front = ts; word = x; still = q; outside = a; frames = refl; opens = k; tokens = refl; idle = refl; counts = r.counts }))
after_waits s out ts x _ k r = tt

-- the name of a let
after_lets : (s : State) (out : List Entry) (ts : List Lexeme) (x : Lexeme) (k : TokenKind) → x.kind ≡ k → Lets s out ts →
    Leads (bound s k x.place x.text) out (ts ++ x ∷ [])
after_lets s out ts x Name k r =
    goes
    (names
    (record {
      d = r.d;
      fs = r.fs;
      ps = s.pending;
      front = r.front;
      word = r.word;
      binder = x;
      still = r.still;
      outside = r.outside;
      frames = ap (remarked Value s.count) r.frames;
      pending = refl;
      opens = r.opens;
      names = k;
      tokens = sym (append_assoc r.front (r.word ∷ []) (x ∷ [])) ∙ ap (λ y. y ++ x ∷ []) r.tokens;
      idle = refl;
      counts = r.counts;
    }))
after_lets s out ts x _ k r = tt

-- the `=` of a let
after_names : (s : State) (out : List Entry) (ts : List Lexeme) (x : Lexeme) (k : TokenKind) → x.kind ≡ k → Names s out ts →
    Leads (equated s k x.place) out (ts ++ x ∷ [])
after_names s out ts x (Binary Equal) k r =
    let whole : ts ++ x ∷ [] ≡ r.front ++ r.word ∷ r.binder ∷ x ∷ [] =
    ap (λ y. y ++ x ∷ []) (sym r.tokens) ∙ append_assoc r.front (r.word ∷ r.binder ∷ []) (x ∷ []) in
    let held : Opened (frame Value r.word.place s.count s.count ∷ r.fs) s.pending s.scope out (ts ++ x ∷ []) r.d =
    more r.still (valuing r.word r.binder x r.outside r.opens r.names k r.pending refl) r.counts r.counts (sym (append-nil out)) whole in
    goes (waits (record { d = r.d; still = rw r.frames held; idle = refl; counts = r.counts }))
after_names s out ts x _ k r = tt

closing : (s : State) (out : List Entry) (ts : List Lexeme) (k : ℕ) → k ≤ 6 → (g : Got s out ts) →
    Closes k s.frames s.pending s.scope g.es g.front g.part g.tree
closing s out ts k h g = closes g.still 6 k g.part g.tree (floor_operand s.frames) h g.derived _ refl

closed_out : (s : State) (out : List Entry) (ts : List Lexeme) (k : ℕ) (g : Got s out ts)
    (c : Closes k s.frames s.pending s.scope g.es g.front g.part g.tree) →
    out ++ endings k s ≡ c.out ++ flatten c.tree
closed_out s out ts k g c =
    ap (λ n. out ++ closed k s.frames n) g.counts
    ∙ ap (λ x. x ++ closed k s.frames (length x)) g.entries
    ∙ sym c.entries

ended_counts : (s : State) (out : List Entry) (ts : List Lexeme) (k : ℕ) (g : Got s out ts) → (ended k s).count ≡ length (out ++ endings k s)
ended_counts s out ts k g = simp length-append (omega (arith, g.counts))

-- all that ends at level 0 has ended: the tokens before the part that ended, and that part
record Outer (g : List (List ℕ)) (o : List Entry) (ts : List Lexeme) (d : ℕ) (es : List Entry) (front : List Lexeme) (n : ℕ) : Type 0 where
  part : List Lexeme
  tree : Tree
  derived : Derives 0 g d part tree
  tokens : front ++ part ≡ ts
  entries : o ≡ es ++ flatten tree
  counts : n ≡ length o

outered : (s : State) (out : List Entry) (ts : List Lexeme) (g : Got s out ts)
    (c : Closes 0 s.frames s.pending s.scope g.es g.front g.part g.tree) →
    Outer (scoped 0 s.frames s.scope) (out ++ endings 0 s) ts c.d c.out c.front (ended 0 s).count
outered s out ts g c =
    record { part = c.part; tree = c.tree; derived = c.derived; tokens = c.tokens ∙ g.tokens; entries = closed_out s out ts 0 g c; counts = ended_counts s out ts 0 g }

-- `then` behind a condition
after_then : {gs : List Frame} {ps g : List (List ℕ)} {es : List Entry} {front : List Lexeme} {d : ℕ} → Opened gs ps g es front d →
    (w : Due) (n : ℕ) (zs out : List Entry) (ts : List Lexeme) (x : Lexeme) → Outer g (out ++ zs) ts d es front n → x.kind ≡ Then →
    Leads (turn_top then_of x.place gs (state gs ps g w n) zs) out (ts ++ x ∷ [])
after_then (more {es} {ts = us} {d} q (asking y a ye pe) we ne ee te) w n zs out ts x o k =
    let whole : ts ++ x ∷ [] ≡ us ++ y ∷ (o.part ++ x ∷ []) = rw (← o.tokens, te) (simp append_assoc) in
    let all : out ++ zs ≡ es ++ flatten o.tree = o.entries ∙ rw (ee, append-nil) in
    waits (record { d = d; still = more q (taking y x a ye o.derived k pe) we o.counts all whole; idle = refl; counts = o.counts })
after_then _ w n zs out ts x o k = tt

-- `else` behind a then branch
after_else : {gs : List Frame} {ps g : List (List ℕ)} {es : List Entry} {front : List Lexeme} {d : ℕ} → Opened gs ps g es front d →
    (w : Due) (n : ℕ) (zs out : List Entry) (ts : List Lexeme) (x : Lexeme) → Outer g (out ++ zs) ts d es front n → x.kind ≡ Else →
    Leads (turn_top else_of x.place gs (state gs ps g w n) zs) out (ts ++ x ∷ [])
after_else (more {es} {ts = us} {d} q (taking {us = cs} {t} y z a ye r ze pe) we ne ee te) w n zs out ts x o k =
    let whole : ts ++ x ∷ [] ≡ us ++ y ∷ (cs ++ z ∷ (o.part ++ x ∷ [])) = rw (← o.tokens, te) (simp append_assoc) in
    let all : out ++ zs ≡ es ++ (flatten t ++ flatten o.tree) = o.entries ∙ rw (ee, append_assoc) in
    waits (record { d = d; still = more q (leaving_it y z x a ye r ze o.derived k pe) we o.counts all whole; idle = refl; counts = o.counts })
after_else _ w n zs out ts x o k = tt

-- `in` behind the first expression of a let
after_in : {gs : List Frame} {ps g : List (List ℕ)} {es : List Entry} {front : List Lexeme} {d : ℕ} → Opened gs ps g es front d →
    (w : Due) (n : ℕ) (zs out : List Entry) (ts : List Lexeme) (x : Lexeme) → Outer g (out ++ zs) ts d es front n → x.kind ≡ In →
    Leads (brought (turn_top in_of x.place gs (state gs ps g w n) zs)) out (ts ++ x ∷ [])
after_in (more {fs} {ps} {ps'} {g} {es} {ts = us} {d} {p} {w = wh} q (valuing y m i a ye me ie he pe) we ne ee te) w n zs out ts x o k =
    let whole : ts ++ x ∷ [] ≡ us ++ y ∷ m ∷ i ∷ (o.part ++ x ∷ []) = rw (← o.tokens, te) (simp append_assoc) in
    let held : Opened (frame Body p wh n ∷ fs) ps (take 1 ps' ++ g) (out ++ zs) (ts ++ x ∷ []) d =
    more q (binding y m i x a ye me ie o.derived k (ap (λ j. take 1 j ++ g) he) pe) we o.counts (o.entries ∙ rw (ee, append-nil)) whole in
    waits
    (record {
      d = d;
      still = subst (λ j. Opened (frame Body p wh n ∷ fs) j (take 1 ps' ++ g) (out ++ zs) (ts ++ x ∷ []) d) (sym (ap (drop 1) he)) held;
      idle = refl;
      counts = o.counts;
    })
after_in _ w n zs out ts x o k = tt

-- `)` behind what stands in parentheses
after_close : {gs : List Frame} {ps g : List (List ℕ)} {es : List Entry} {front : List Lexeme} {d : ℕ} → Opened gs ps g es front d →
    (w : Due) (n : ℕ) (zs out : List Entry) (ts : List Lexeme) (x : Lexeme) → Outer g (out ++ zs) ts d es front n → x.kind ≡ Close → w ≡ OperatorDue →
    Leads (shut_top x.place gs (state gs ps g w n) zs) out (ts ++ x ∷ [])
after_close (more {es} {ts = us} {d} q (inside y ye) we ne ee te) w n zs out ts x o k wd =
    got
    (record {
      d = suc d;
      es = es;
      front = us;
      part = y ∷ (o.part ++ x ∷ []);
      tree = o.tree;
      still = q;
      derived = parens y x ye o.derived k;
      tokens = sym (rw (← o.tokens, te) (simp append_assoc));
      entries = o.entries ∙ rw (ee, append-nil);
      done = wd;
      counts = o.counts;
    })
after_close _ w n zs out ts x o k wd = tt

-- an operator that is not refused
after_binary : (s : State) (out : List Entry) (ts : List Lexeme) (x : Lexeme) (o : Operator) → x.kind ≡ Binary o → Got s out ts →
    Leads (joined o x.place (ended (ends o) s) (endings (ends o) s)) out (ts ++ x ∷ [])
after_binary s out ts x o k g =
    let same : ends o ≡ left_level o = ends_left o in
    let l = levels o in
    let c = closing s out ts (ends o) (omega arith) g in
    let whole : ts ++ x ∷ [] ≡ c.front ++ (c.part ++ x ∷ []) =
    ap (λ y. y ++ x ∷ []) (sym (c.tokens ∙ g.tokens)) ∙ append_assoc c.front c.part (x ∷ []) in
    let top : above (left (ends o) s.frames) < ends o = above_left (ends o) s.frames (omega arith) in
    let counts = ended_counts s out ts (ends o) g in
    cond_both (eqb (above (left (ends o) s.frames)) (level o)) _ _ (λ i. Leads i out (ts ++ x ∷ [])) (λ b. tt)
    (λ b.
    let apart = eqb-false _ _ b in
    let below : above (left (ends o) s.frames) < level o = omega arith in
    waits
    (record {
      d = c.d;
      still =
          more c.still (behind x o below (subst (λ i. Derives i (scoped (ends o) s.frames s.scope) c.d c.part c.tree) same c.derived) k refl) (starts c.still)
          counts (closed_out s out ts (ends o) g c) whole;
      idle = refl;
      counts = counts;
    }))

after_got : (s : State) (out : List Entry) (ts : List Lexeme) (x : Lexeme) (k : TokenKind) → x.kind ≡ k → (k ≡ End → ⊥) → Got s out ts →
    Leads (gone_on (sequel_of k) s k x.place) out (ts ++ x ∷ [])
after_got s out ts x (Binary o) k l g = after_binary s out ts x o k g
after_got s out ts x Then k l g = let c = closing s out ts 0 (omega arith) g in after_then c.still _ _ _ out ts x (outered s out ts g c) k
after_got s out ts x Else k l g = let c = closing s out ts 0 (omega arith) g in after_else c.still _ _ _ out ts x (outered s out ts g c) k
after_got s out ts x In k l g = let c = closing s out ts 0 (omega arith) g in after_in c.still _ _ _ out ts x (outered s out ts g c) k
after_got s out ts x Close k l g = let c = closing s out ts 0 (omega arith) g in after_close c.still _ _ _ out ts x (outered s out ts g c) k g.done
after_got s out ts x End k l g = absurd (l refl)
after_got s out ts x _ k l g = tt

fed_at : (s : State) (x : Lexeme) (d : Due) (k : TokenKind) → s.due ≡ d → x.kind ≡ k → feed s x ≡ duly d s k x.place x.text
fed_at s x d k e f = cc

at_due : (s : State) (x : Lexeme) (d : Due) (out : List Entry) (ts : List Lexeme) → s.due ≡ d → Leads (duly d s x.kind x.place x.text) out ts → Leads (feed s x) out ts
at_due s x d out ts e r = subst (λ i. Leads i out ts) (sym (fed_at s x d x.kind e refl)) r

step : (s : State) (out : List Entry) (ts : List Lexeme) (x : Lexeme) → Reads s out ts → (x.kind ≡ End → ⊥) → Leads (feed s x) out (ts ++ x ∷ [])
step s out ts x (waits r) l = at_due s x Operand out _ r.idle (after_waits s out ts x x.kind refl r)
step s out ts x (lets r) l = at_due s x BinderDue out _ r.idle (after_lets s out ts x x.kind refl r)
step s out ts x (names r) l = at_due s x Equals out _ r.idle (after_names s out ts x x.kind refl r)
step s out ts x (got r) l = at_due s x OperatorDue out _ r.done (after_got s out ts x x.kind refl l r)

-- the end of the text, where no frame is open
the_end : {gs : List Frame} {ps g : List (List ℕ)} {es : List Entry} {front : List Lexeme} {d : ℕ} → Opened gs ps g es front d →
    (p n : ℕ) (u : State) (zs out fs : List Entry) (ts : List Lexeme) → Outer g (out ++ zs) ts d es front n →
    followed (finish_top p gs u zs) (λ u. Ok []) ≡ Ok fs → (t : Tree) × Rule ts t × (out ++ fs ≡ flatten t)
the_end nothing p n u zs out fs ts o e =
    let all : zs ++ [] ≡ fs = cc in
    (o.tree, subst (λ y. Rule y o.tree) o.tokens o.derived, ap (λ y. out ++ y) (sym all ∙ append-nil zs) ∙ o.entries)
the_end _ p n u zs out fs ts o e = err_ok _ fs e

last : (s : State) (out es : List Entry) (ts : List Lexeme) (x : Lexeme) → Reads s out ts → x.kind ≡ End → feeds s (x ∷ []) ≡ Ok es →
    (t : Tree) × Rule ts t × (out ++ es ≡ flatten t)
last s out es ts x (waits r) k e = let f = fed _ _ es e in err_ok _ f.next (sym (fed_at s x _ _ r.idle k) ∙ f.went)
last s out es ts x (lets r) k e = let f = fed _ _ es e in err_ok _ f.next (sym (fed_at s x _ _ r.idle k) ∙ f.went)
last s out es ts x (names r) k e = let f = fed _ _ es e in err_ok _ f.next (sym (fed_at s x _ _ r.idle k) ∙ f.went)
last s out es ts x (got r) k e =
    let c = closing s out ts 0 (omega arith) r in
    the_end c.still x.place _ (ended 0 s) (endings 0 s) out es ts (outered s out ts r c) (sym (ap (λ i. followed i (λ u. Ok [])) (fed_at s x _ _ r.done k)) ∙ e)

sound_from : (ts : List Lexeme) (s : State) (out es : List Entry) (was : List Lexeme) (e : Lexeme) → Endless ts → e.kind ≡ End → Reads s out was →
    feeds s (ts ++ e ∷ []) ≡ Ok es → (t : Tree) × Rule (was ++ ts) t × (out ++ es ≡ flatten t)
sound_from [] s out es was e l k r h =
    let z = last s out es was e r k h in
    (z.0, subst (λ y. Rule y z.0) (sym (append-nil was)) z.1, z.2)
sound_from (x ∷ ts) s out es was e l k r h =
    let f = fed (feed s x) (λ u. feeds u (ts ++ e ∷ [])) es h in
    let z = sound_from ts f.next.0 (out ++ f.next.1) f.rest (was ++ x ∷ []) e l.1 k (subst (λ y. Leads y out (was ++ x ∷ [])) f.went (step s out was x r l.0)) f.then in
    (z.0, subst (λ y. Rule y z.0) (append_assoc was (x ∷ []) ts) z.1, ap (λ y. out ++ y) (sym f.all) ∙ sym (append_assoc out f.next.1 f.rest) ∙ z.2)

pub sound : Sound
sound ts e es l k h = sound_from ts fresh [] es [] e l k (waits (record { d = 64; still = nothing; idle = refl; counts = refl })) h
