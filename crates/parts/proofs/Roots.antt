-- What the last entry of a table says of its tree.
use Rattle.std.proofs.Common.{◌≡◌, ℕ, ◌+◌, ◌-◌, ◌≤◌, cond, List, [], ◌∷◌, ◌++◌, length, get_or, take, drop, Some, sym, refl, ap, ◌∙◌, subst, append_assoc, arith, length-append}
use Rattle.std.proofs.lemmas.List.{get_or_at, take_at, drop_at}
use Rattle.std.proofs.lemmas.Option.{slice_get-get_or}
use Rattle.std.specs.List.{slice_get}
use Rattle.bytecode.specs.Words.{plus}
use Rattle.bytecode.specs.declared.argument.Argument.{Argument}
use Rattle.language.proofs.Lengths.{length-flatten}
use Rattle.language.specs.Tree.{Tree, number, truth, name, prefix, binary, choose, bind, size, entry, flatten}
use Rattle.language.specs.declared.entry.Entry.{Entry}
use Rattle.language.specs.declared.entry.Kind.{Kind}
use Rattle.language.specs.declared.entry.Kind.TheVariants.{Blank, Number, Truth, Name, Prefix, Binary, If, Let}
use Rattle.parts.specs.Nodes.{NumberRoot, TruthRoot, PrefixRoot}

-- the last entry, and the entries before it
abbrev pub last : Tree → Entry
last (number k p) = entry Number k 1 p
last (truth b p) = entry Truth (plus (cond b 1 0)) 1 p
last (name k p) = entry Name (plus k) 1 p
last (prefix o p t) = entry (Prefix o) (plus 0) (size t + 1) p
last (binary o p t u) = entry (Binary o) (plus 0) (size t + size u + 1) p
last (choose p t u v) = entry If (plus 0) (size t + size u + size v + 1) p
last (bind p t u) = entry Let (plus 0) (size t + size u + 1) p

abbrev pub body : Tree → List Entry
body (number k p) = []
body (truth b p) = []
body (name k p) = []
body (prefix o p t) = flatten t
body (binary o p t u) = flatten t ++ flatten u
body (choose p t u v) = (flatten t ++ flatten u) ++ flatten v
body (bind p t u) = flatten t ++ flatten u

pub rooted : (t : Tree) → flatten t ≡ body t ++ last t ∷ []
rooted (number k p) = refl
rooted (truth b p) = refl
rooted (name k p) = refl
rooted (prefix o p t) = refl
rooted (binary o p t u) = sym (append_assoc (flatten t) (flatten u) _)
rooted (choose p t u v) = simp append_assoc
rooted (bind p t u) = sym (append_assoc (flatten t) (flatten u) _)

last_size : (t : Tree) → (last t).size ≡ size t
last_size (number k p) = refl
last_size (truth b p) = refl
last_size (name k p) = refl
last_size (prefix o p t) = refl
last_size (binary o p t u) = refl
last_size (choose p t u v) = refl
last_size (bind p t u) = refl

pub not_empty : (xs : List Entry) (t : Tree) (es : List Entry) → es ≡ xs ++ flatten t → length es ≡ 0 → ⊥
not_empty xs t es h e = omega (arith, ap length h ∙ length-append xs (flatten t), ap length (rooted t) ∙ length-append (body t) (last t ∷ []))

-- the last entry of a list is that of its last part, and says how long that is
pub last_entry : (xs : List Entry) (t : Tree) (es : List Entry) → es ≡ xs ++ flatten t → slice_get es (length es - 1) ≡ Some (last t)
last_entry xs t es h =
    let g : es ≡ (xs ++ body t) ++ last t ∷ [] = h ∙ ap (λ x. xs ++ x) (rooted t) ∙ sym (append_assoc xs (body t) (last t ∷ [])) in
    let m : length es ≡ length (xs ++ body t) + 1 = ap length g ∙ length-append (xs ++ body t) (last t ∷ []) in
    let n : length (xs ++ body t) ≡ length es - 1 = omega arith in
    slice_get-get_or es (length es - 1) (last t) (omega arith)
    ∙ ap Some (ap (λ x. get_or x (length es - 1) (last t)) g ∙ get_or_at (xs ++ body t) (last t) [] (last t) (length es - 1) n)

pub last_part : (xs : List Entry) (t : Tree) (es : List Entry) (e : Entry) → es ≡ xs ++ flatten t → Some e ≡ slice_get es (length es - 1) →
    (e.size ≤ length es) × (length xs ≡ length es - e.size)
last_part xs t es e h k =
    let same : e ≡ last t = let f = last_entry xs t es h in cc in
    let n : length es ≡ length xs + e.size = omega (arith, ap length h ∙ length-append xs (flatten t), length-flatten t, last_size t, ap (λ x. x.size) same) in
    (omega arith, omega arith)

-- two parts, one behind the other
pub record Two (make : Tree → Tree → Tree) (xs : List Entry) (t : Tree) : Type 0 where
  pub left : Tree
  pub right : Tree
  pub is : t ≡ make left right
  pub joined : xs ≡ flatten left ++ flatten right

pub record Three (p : ℕ) (xs : List Entry) (t : Tree) : Type 0 where
  pub test : Tree
  pub first : Tree
  pub second : Tree
  pub is : t ≡ choose p test first second
  pub joined : xs ≡ (flatten test ++ flatten first) ++ flatten second

-- a tree by the kind, the number and the place of its last entry, and by the entries before it
abbrev pub Rooted : Kind → Argument → ℕ → List Entry → Tree → Type 0
Rooted Blank k p xs t = ⊥
Rooted Number k p xs t = NumberRoot t k
Rooted Truth k p xs t = TruthRoot t k
Rooted Name k p xs t = t ≡ name k.size p
Rooted (Prefix o) k p xs t = PrefixRoot t o p xs
Rooted (Binary o) k p xs t = Two (binary o p) xs t
Rooted If k p xs t = Three p xs t
Rooted Let k p xs t = Two (bind p) xs t

viewed : (t : Tree) → Rooted (last t).kind (last t).number (last t).place (body t) t
viewed (number k p) = record { place = p; is = refl }
viewed (truth b p) = record { which = b; place = p; is = refl; worth = refl }
viewed (name k p) = refl
viewed (prefix o p t) = record { part = t; is = refl; whole = refl }
viewed (binary o p t u) = record { left = t; right = u; is = refl; joined = refl }
viewed (choose p t u v) = record { test = t; first = u; second = v; is = refl; joined = refl }
viewed (bind p t u) = record { left = t; right = u; is = refl; joined = refl }

-- a list ends in one way
ends : (es xs ys : List Entry) (e f : Entry) → es ≡ xs ++ e ∷ [] → es ≡ ys ++ f ∷ [] → (xs ≡ ys) × (e ≡ f)
ends es xs ys e f h k =
    let n : length xs ≡ length ys = omega (arith, ap length h ∙ length-append xs (e ∷ []), ap length k ∙ length-append ys (f ∷ [])) in
    let p : xs ≡ ys = sym (take_at xs (e ∷ []) (length ys) n) ∙ ap (take (length ys)) (sym h ∙ k) ∙ take_at ys (f ∷ []) (length ys) refl in
    let q : e ∷ [] ≡ f ∷ [] = sym (drop_at xs (e ∷ []) (length ys) n) ∙ ap (drop (length ys)) (sym h ∙ k) ∙ drop_at ys (f ∷ []) (length ys) refl in
    (p, cc)

pub view : (t : Tree) (es xs : List Entry) (e : Entry) (k : Kind) → es ≡ xs ++ e ∷ [] → e.kind ≡ k → es ≡ flatten t → Rooted k e.number e.place xs t
view t es xs e k h is f =
    let q = ends es xs (body t) e (last t) h (f ∙ rooted t) in
    subst (λ (y : Kind). Rooted y e.number e.place xs t) is
    (subst (λ (ys : List Entry). Rooted e.kind e.number e.place ys t) (sym q.0)
    (subst (λ (x : Entry). Rooted x.kind x.number x.place (body t) t) (sym q.1) (viewed t)))
