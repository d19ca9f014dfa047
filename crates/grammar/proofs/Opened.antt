-- What has been read while frames are open, and what it becomes where they end.
use Rattle.std.proofs.Common.{◌≡◌, ℕ, zero, suc, ◌+◌, ◌-◌, ◌<◌, ◌≤◌, Bool, true, false, cond, List, [], ◌∷◌, ◌++◌, length, drop, sym, refl, ap, ◌∙◌, subst, inl, inr, append_assoc, arith, length-append}
use Rattle.std.proofs.lemmas.List.{append-nil}
use Rattle.std.proofs.lemmas.Bool.{leb-true, cases_eq}
use Rattle.bytecode.specs.Words.{plus}
use Rattle.language.specs.Frames.{left, closed, scoped, leaving, frame, deep, above, start, binds, kind_of, nests}
use Rattle.language.specs.Tokens.{Lexeme}
use Rattle.language.specs.Tree.{Tree, prefix, binary, choose, bind, size, entry, flatten}
use Rattle.language.specs.declared.entry.Entry.{Entry}
use Rattle.language.specs.declared.frame.Frame.{Frame}
use Rattle.language.specs.declared.frame.Mark.{Mark}
use Rattle.language.specs.declared.frame.Mark.TheVariants.{Paren, Condition, Then as ThenMark, Else as ElseMark, Value, Body, Binary as BinaryMark, Prefix as PrefixMark}
use Rattle.language.specs.declared.operator.Operator.{Operator}
use Rattle.language.specs.declared.operator.Operator.TheVariants.{Equal}
use Rattle.language.specs.declared.operator.Prefix.{Prefix as PrefixOperator}
use Rattle.language.specs.declared.token.TokenKind.TheVariants.{Name, Binary, Prefix, If, Then, Else, Let, In, Open}
use Rattle.grammar.specs.Grammar.{level, left_level, Derives, prefixed, join, if_else, let_in, tighter}
use Rattle.grammar.proofs.Frames.{levels, top_binds, none_ends}
use Rattle.language.proofs.Lengths.{length-flatten}

-- the tokens us open a frame with the mark m and the place p behind the frames fs: they add the entries zs, the names of
-- the lets in their first expression go from ps to ps', the names of those in their second from g to g', and of the d'
-- that may nest d are left
pub data Piece (fs : List Frame) : Mark → ℕ → List (List ℕ) → List (List ℕ) → List (List ℕ) → List (List ℕ) → ℕ → ℕ → List Entry → List Lexeme → Type 0 where
  inside : {ps g : List (List ℕ)} {d p : ℕ} (x : Lexeme) → x.kind ≡ Open → Piece fs Paren p ps ps g g (suc d) d [] (x ∷ [])
  before : {ps g : List (List ℕ)} {d p : ℕ} (x : Lexeme) (o : PrefixOperator) → x.kind ≡ Prefix o → p ≡ x.place →
      Piece fs (PrefixMark o) p ps ps g g (suc d) d [] (x ∷ [])
  behind : {ps g : List (List ℕ)} {us : List Lexeme} {t : Tree} {d p : ℕ} (x : Lexeme) (o : Operator) →
      above fs < level o → Derives (left_level o) g d us t → x.kind ≡ Binary o → p ≡ x.place →
      Piece fs (BinaryMark o) p ps ps g g d d (flatten t) (us ++ x ∷ [])
  asking : {ps g : List (List ℕ)} {d p : ℕ} (x : Lexeme) → above fs ≡ 0 → x.kind ≡ If → p ≡ x.place →
      Piece fs Condition p ps ps g g (suc d) d [] (x ∷ [])
  taking : {ps g : List (List ℕ)} {us : List Lexeme} {t : Tree} {d p : ℕ} (x y : Lexeme) →
      above fs ≡ 0 → x.kind ≡ If → Derives 0 g d us t → y.kind ≡ Then → p ≡ x.place →
      Piece fs ThenMark p ps ps g g (suc d) d (flatten t) (x ∷ (us ++ y ∷ []))
  leaving_it : {ps g : List (List ℕ)} {us vs : List Lexeme} {t u : Tree} {d p : ℕ} (x y z : Lexeme) →
      above fs ≡ 0 → x.kind ≡ If → Derives 0 g d us t → y.kind ≡ Then → Derives 0 g d vs u → z.kind ≡ Else → p ≡ x.place →
      Piece fs ElseMark p ps ps g g (suc d) d (flatten t ++ flatten u) (x ∷ (us ++ y ∷ (vs ++ z ∷ [])))
  valuing : {ps ps' g : List (List ℕ)} {d p : ℕ} (x m q : Lexeme) →
      above fs ≡ 0 → x.kind ≡ Let → m.kind ≡ Name → q.kind ≡ Binary Equal → ps' ≡ m.text ∷ ps → p ≡ x.place →
      Piece fs Value p ps ps' g g (suc d) d [] (x ∷ m ∷ q ∷ [])
  binding : {ps g g' : List (List ℕ)} {us : List Lexeme} {t : Tree} {d p : ℕ} (x m q y : Lexeme) →
      above fs ≡ 0 → x.kind ≡ Let → m.kind ≡ Name → q.kind ≡ Binary Equal → Derives 0 g d us t → y.kind ≡ In → g' ≡ m.text ∷ g → p ≡ x.place →
      Piece fs Body p ps ps g g' (suc d) d (flatten t) (x ∷ m ∷ q ∷ (us ++ y ∷ []))

-- the tokens ts left the frames fs open with the entries es, the names ps of the lets in their first expression and
-- the names g of those in their second, and d more may nest
pub data Opened : List Frame → List (List ℕ) → List (List ℕ) → List Entry → List Lexeme → ℕ → Type 0 where
  nothing : Opened [] [] [] [] [] 64
  more : {fs : List Frame} {m : Mark} {ps ps' g g' : List (List ℕ)} {es es' zs : List Entry} {ts ts' us : List Lexeme} {d d' p w n : ℕ} →
      Opened fs ps g es ts d' → Piece fs m p ps ps' g g' d' d zs us → w ≡ length es → n ≡ length es' → es' ≡ es ++ zs → ts' ≡ ts ++ us →
      Opened (frame m p w n ∷ fs) ps' g' es' ts' d

pub starts : {fs : List Frame} {ps g : List (List ℕ)} {es : List Entry} {ts : List Lexeme} {d : ℕ} → Opened fs ps g es ts d → start fs ≡ length es
starts nothing = refl
starts (more q c we ne ee te) = ne

nested : {fs : List Frame} {m : Mark} {ps ps' g g' : List (List ℕ)} {zs : List Entry} {us : List Lexeme} {d d' p : ℕ} →
    Piece fs m p ps ps' g g' d' d zs us → (k : ℕ) → cond (nests m) (k + 1) k + d ≡ k + d'
nested (behind x o l r xe pe) k = refl
nested _ k = omega arith

pub depths : {fs : List Frame} {ps g : List (List ℕ)} {es : List Entry} {ts : List Lexeme} {d : ℕ} → Opened fs ps g es ts d → deep fs + d ≡ 64
depths nothing = refl
depths (more q c we ne ee te) = nested c _ ∙ depths q

pub lower : {g : List (List ℕ)} {d : ℕ} {ts : List Lexeme} {t : Tree} (j k : ℕ) → k ≤ j → Derives j g d ts t → Derives k g d ts t
lower {g} {d} {ts} {t} zero k h r = let e : 0 ≡ k = omega arith in subst (λ x. Derives x g d ts t) e r
lower {g} {d} {ts} {t} (suc j) k h r =
    elim (cases_eq (suc j) k) [ inl e ↦ subst (λ x. Derives x g d ts t) e r | inr e ↦ lower j k (omega arith) (tighter r) ]

-- the loosest level of an operand that may follow a frame
abbrev floor_by : Mark → ℕ
floor_by (BinaryMark o) = suc (level o)
floor_by (PrefixMark o) = 6
floor_by _ = 0

abbrev pub floor : List Frame → ℕ
floor [] = 0
floor (f ∷ fs) = floor_by f.mark

-- an operand that is tighter than what is on top may follow, and so may any expression behind an open bracket or word
floor_above : (fs : List Frame) (j : ℕ) → above fs < j → floor fs ≤ j
floor_above fs j l = grind arith

floor_whole : (fs : List Frame) → above fs ≡ 0 → floor fs ≤ 0
floor_whole fs l = grind (arith, levels)

pub floor_operand : (fs : List Frame) → floor fs ≤ 6
floor_operand fs = grind (arith, levels)

-- once all that binds at the level k has ended
pub record Closes (k : ℕ) (fs : List Frame) (ps g : List (List ℕ)) (es : List Entry) (ts : List Lexeme) (us : List Lexeme) (t : Tree) : Type 0 where
  pub d : ℕ
  pub out : List Entry
  pub front : List Lexeme
  pub part : List Lexeme
  pub tree : Tree
  pub still : Opened (left k fs) ps (scoped k fs g) out front d
  pub derived : Derives k (scoped k fs g) d part tree
  pub tokens : front ++ part ≡ ts ++ us
  pub entries : out ++ flatten tree ≡ (es ++ flatten t) ++ closed k fs (length (es ++ flatten t))

-- frames of which none ends
stops : (k d : ℕ) (fs : List Frame) (ps g : List (List ℕ)) (es : List Entry) (ts us : List Lexeme) (t : Tree) → top_binds k fs ≡ false →
    Opened fs ps g es ts d → Derives k g d us t → Closes k fs ps g es ts us t
stops k d fs ps g es ts us t b q r =
    let stay = none_ends k fs (length (es ++ flatten t)) g b in
    record {
      d = d;
      out = es;
      front = ts;
      part = us;
      tree = t;
      still = rw (stay.0, stay.1.1) q;
      derived = rw stay.1.1 r;
      tokens = refl;
      entries = rw (stay.1.0, append-nil);
    }

-- a frame that ends makes one tree of what it holds and of the operand behind it
record Ends (k : ℕ) (fs : List Frame) (m : Mark) (p : ℕ) (ps ps' g g' : List (List ℕ)) (d : ℕ) (zs : List Entry) (us vs : List Lexeme) (v : Tree) : Type 0 where
  at : ℕ
  tree : Tree
  fits : floor fs ≤ at
  looser : k ≤ at
  derived : Derives at g d (us ++ vs) tree
  whole : flatten tree ≡ zs ++ (flatten v ++ entry (kind_of m) (plus 0) (size tree) p ∷ [])
  waiting : ps' ≡ ps
  around : leaving m g' ≡ g

ends : {fs : List Frame} {m : Mark} {ps ps' g g' : List (List ℕ)} {zs : List Entry} {us : List Lexeme} {d d' p : ℕ} → Piece fs m p ps ps' g g' d' d zs us →
    (j k : ℕ) (vs : List Lexeme) (v : Tree) → floor_by m ≤ j → Derives j g' d vs v → binds k m ≡ true → Ends k fs m p ps ps' g g' d' zs us vs v
ends {fs} (before x o xe pe) j k vs v a r b =
    record {
      at = 6;
      tree = prefix o x.place v;
      fits = floor_operand fs;
      looser = leb-true k 6 b;
      derived = prefixed x o xe (lower j 6 a r);
      whole = rw pe;
      waiting = refl;
      around = refl;
    }
ends {fs} (behind {t} x o l c xe pe) j k vs v a r b =
    record {
      at = level o;
      tree = binary o x.place t v;
      fits = floor_above fs (level o) l;
      looser = leb-true k (level o) b;
      derived = rw append_assoc (join x o c xe (lower j (suc (level o)) a r));
      whole = rw pe;
      waiting = refl;
      around = refl;
    }
ends {fs} (leaving_it {t} {u} x y z l xe c ye i ze pe) j k vs v a r b =
    record {
      at = 0;
      tree = choose x.place t u v;
      fits = floor_whole fs l;
      looser = leb-true k 0 b;
      derived = simp append_assoc (if_else x y z xe c ye i ze (lower j 0 a r));
      whole = rw (pe, append_assoc);
      waiting = refl;
      around = refl;
    }
ends {fs} (binding {t} {d} x m e y l xe me ie c ye ge pe) j k vs v a r b =
    record {
      at = 0;
      tree = bind x.place t v;
      fits = floor_whole fs l;
      looser = leb-true k 0 b;
      derived = rw append_assoc (let_in x m e y xe me ie c ye (subst (λ i. Derives 0 i d vs v) ge (lower j 0 a r)));
      whole = rw pe;
      waiting = refl;
      around = ap (drop 1) ge;
    }
ends _ j k vs v a r b = cc

-- what ends with the tree ends behind the operand, and the frame's entry before it
finishes : {k : ℕ} {fs : List Frame} {m : Mark} {p : ℕ} {ps ps' g g' : List (List ℕ)} {d : ℕ} {zs : List Entry} {us vs : List Lexeme} {v : Tree} (w n : ℕ) (es es' : List Entry) (ts ts' : List Lexeme) →
    (u : Ends k fs m p ps ps' g g' d zs us vs v) → binds k m ≡ true → w ≡ length es → es' ≡ es ++ zs → ts' ≡ ts ++ us →
    Closes k fs ps g es ts (us ++ vs) u.tree → Closes k (frame m p w n ∷ fs) ps' g' es' ts' vs v
finishes {k} {fs} {m} {p} {g} {g'} {zs} {us} {vs} {v} w n es es' ts ts' u b we ee te c =
    let long : size u.tree ≡ length zs + size v + 1 = sym (length-flatten u.tree) ∙ ap length u.whole ∙ simp (length-append, length-flatten) (omega arith) in
    let next : length (es ++ flatten u.tree) ≡ length (es' ++ flatten v) + 1 = rw ee (simp (length-append, length-flatten) (omega arith)) in
    let made : length (es' ++ flatten v) + 1 - w ≡ size u.tree = rw ee (simp (length-append, length-flatten) (omega arith)) in
    record {
      d = c.d;
      out = c.out;
      front = c.front;
      part = c.part;
      tree = c.tree;
      still = rw (b, u.waiting, u.around) c.still;
      derived = rw (b, u.around) c.derived;
      tokens = c.tokens ∙ sym (rw (te, append_assoc));
      entries = rw (c.entries, next, u.whole, b, made, ee) (simp append_assoc);
    }

pub closes : {fs : List Frame} {ps g : List (List ℕ)} {es : List Entry} {ts : List Lexeme} {d : ℕ} → Opened fs ps g es ts d → (j k : ℕ) (us : List Lexeme) (t : Tree) →
    floor fs ≤ j → k ≤ j → Derives j g d us t → (b : Bool) → top_binds k fs ≡ b → Closes k fs ps g es ts us t
closes {fs} {ps} {g} {es} {ts} {d} q j k us t a h r false b = stops k d fs ps g es ts us t b q (lower j k h r)
closes nothing j k us t a h r true b = cc
closes (more {es} {es'} {ts} {ts'} {us} {w} {n} q c we ne ee te) j k vs v a h r true b =
    let u = ends c j k vs v a r b in
    finishes w n es es' ts ts' u b we ee te (closes q u.at k (us ++ vs) u.tree u.fits u.looser u.derived _ refl)
