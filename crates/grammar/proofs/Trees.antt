-- A table is that of one tree.
use Rattle.std.proofs.Common.{◌≡◌, ℕ, true, false, eqb, List, [], ◌∷◌, ◌++◌, length, sym, refl, ap, ◌∙◌, append_assoc, arith, length-append}
use Rattle.std.proofs.lemmas.List.{append-nil}
use Rattle.bytecode.specs.declared.argument.Argument.{Argument}
use Rattle.language.proofs.Lengths.{length-flatten}
use Rattle.language.specs.Tree.{Tree, number, truth, name, prefix, binary, choose, bind, size, flatten}
use Rattle.language.specs.declared.entry.Entry.{Entry}
use Rattle.language.specs.declared.entry.Kind.{Kind}
use Rattle.language.specs.declared.entry.Kind.TheVariants.{Number, Truth, Name, Prefix, Binary, If, Let}
use Rattle.grammar.specs.Laws.{Faithful, Sized}

pub sized : Sized
sized t = sym (length-flatten t)

-- the trees of a table, one entry after another: an entry joins the newest trees
abbrev grown_by : Kind → Argument → ℕ → List Tree → List Tree
grown_by Number n p ts = number n p ∷ ts
grown_by Truth n p ts = truth (eqb n.size 1) p ∷ ts
grown_by Name n p ts = name n.size p ∷ ts
grown_by (Prefix o) n p (t ∷ ts) = prefix o p t ∷ ts
grown_by (Binary o) n p (u ∷ t ∷ ts) = binary o p t u ∷ ts
grown_by If n p (v ∷ u ∷ t ∷ ts) = choose p t u v ∷ ts
grown_by Let n p (u ∷ t ∷ ts) = bind p t u ∷ ts
grown_by _ n p ts = ts

abbrev grown : List Tree → List Entry → List Tree
grown ts [] = ts
grown ts (e ∷ es) = grown (grown_by e.kind e.number e.place ts) es

grown_on : (t : Tree) (ts : List Tree) (es : List Entry) → grown ts (flatten t ++ es) ≡ grown (t ∷ ts) es
grown_on (number k p) ts es = refl
grown_on (truth true p) ts es = refl
grown_on (truth false p) ts es = refl
grown_on (name k p) ts es = refl
grown_on (prefix o p t) ts es = simp (append_assoc, grown_on t)
grown_on (binary o p t u) ts es = simp (append_assoc, grown_on t, grown_on u)
grown_on (choose p t u v) ts es = simp (append_assoc, grown_on t, grown_on u, grown_on v)
grown_on (bind p t u) ts es = simp (append_assoc, grown_on t, grown_on u)

grown_whole : (t : Tree) → grown [] (flatten t) ≡ t ∷ []
grown_whole t = ap (grown []) (sym (append-nil (flatten t))) ∙ grown_on t [] []

pub faithful : Faithful
faithful t u e =
    let h : ◌≡◌ {A = List Tree} (t ∷ []) (u ∷ []) = sym (grown_whole t) ∙ ap (grown []) e ∙ grown_whole u in
    cc
