-- The rule that a text stands for, and why it may be refused.
use Rattle.std.specs.Prelude.{ℕ, List, [], ◌∷◌, Some, None, Ok, Err, fold, Option, Result, ◌==◌}
use Rattle.bytecode.specs.declared.argument.Argument.{Argument}
use Rattle.refusal.specs.declared.Refusal.{Refusal}
use Rattle.refusal.specs.declared.Refusal.TheVariants.{IllTyped}
use Rattle.language.specs.Code.{refusal_of}
use Rattle.language.specs.Reading.{reading}
use Rattle.language.specs.Tree.{Tree, number, truth, name, prefix, binary, choose, bind}
use Rattle.language.specs.Typing.{type_of}
use Rattle.language.specs.declared.entry.Entry.{Entry}
use Rattle.language.specs.declared.entry.Kind.{Kind}
use Rattle.language.specs.declared.entry.Kind.TheVariants.{Blank, Number, Truth, Name, Prefix, Binary, If, Let}
use Rattle.language.specs.declared.operator.Operator.{Operator}
use Rattle.language.specs.declared.operator.ValueType.{ValueType}

-- A table is read back as trees, the newest first: each entry takes the trees of its parts, and becomes one.
abbrev pub joined : Operator → ℕ → List Tree → List Tree
joined o p [] = []
joined o p (u ∷ []) = []
joined o p (u ∷ (t ∷ ts)) = binary o p t u ∷ ts

abbrev pub chosen : ℕ → List Tree → List Tree
chosen p [] = []
chosen p (v ∷ []) = []
chosen p (v ∷ (u ∷ [])) = []
chosen p (v ∷ (u ∷ (t ∷ ts))) = choose p t u v ∷ ts

abbrev pub bounded : ℕ → List Tree → List Tree
bounded p [] = []
bounded p (u ∷ []) = []
bounded p (u ∷ (t ∷ ts)) = bind p t u ∷ ts

abbrev pub grown : Kind → Argument → ℕ → List Tree → List Tree
grown Blank k p ts = []
grown Number k p ts = number k p ∷ ts
grown Truth k p ts = truth (k.size == 1) p ∷ ts
grown Name k p ts = name k.size p ∷ ts
grown (Prefix o) k p [] = []
grown (Prefix o) k p (t ∷ ts) = prefix o p t ∷ ts
grown (Binary o) k p ts = joined o p ts
grown If k p ts = chosen p ts
grown Let k p ts = bounded p ts

abbrev pub trees_of : List Tree → List Entry → List Tree
trees_of ts es = fold (λ us e. grown e.kind e.number e.place us) ts es

-- the only tree
abbrev pub only : List Tree → Option Tree
only [] = None
only (t ∷ []) = Some t
only (t ∷ (u ∷ ts)) = None

abbrev pub tree_in : Result (List Entry) Refusal → Option Tree
tree_in (Ok es) = only (trees_of [] es)
tree_in (Err e) = None

-- the rule that a text stands for, read into a table of that many entries; none where it is not read
abbrev pub rule_of : ℕ → List ℕ → Option Tree
rule_of entries text = tree_in (reading entries text)

-- why a rule is not taken into a memory with that room: its types do not fit, or else it cannot be translated
abbrev pub unfit_by : Result ValueType ℕ → ℕ → Tree → Option Refusal
unfit_by (Err p) room t = Some (IllTyped p)
unfit_by (Ok a) room t = refusal_of room t

abbrev pub unfit : ℕ → Tree → Option Refusal
unfit room t = unfit_by (type_of t) room t

abbrev pub unfit_in : ℕ → Option Tree → Option Refusal
unfit_in room None = None
unfit_in room (Some t) = unfit room t

abbrev pub refused_in : ℕ → Result (List Entry) Refusal → Option Refusal
refused_in room (Err e) = Some e
refused_in room (Ok es) = unfit_in room (tree_in (Ok es))

-- why a text is refused for a table of that many entries and a memory with that room, if it is
abbrev pub refusal_for : ℕ → ℕ → List ℕ → Option Refusal
refusal_for room entries text = refused_in room (reading entries text)
