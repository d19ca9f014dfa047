-- The type of a rule, or the place of the first entry in post-order whose types do not fit.
use Rattle.std.specs.Prelude.{ℕ, Bool, true, false, cond, ◌&&◌, List, ◌∷◌, replicate, Some, None, Ok, Err, Option, Result}
use Rattle.std.specs.List.{slice_get}
use Rattle.language.specs.Operators.{row_of, prefix_row_of}
use Rattle.language.specs.Tree.{Tree, number, truth, name, prefix, binary, choose, bind}
use Rattle.language.specs.declared.operator.ValueType.{ValueType}
use Rattle.language.specs.declared.operator.ValueType.TheVariants.{Number, Truth}

abbrev pub same_type : ValueType → ValueType → Bool
same_type Number Number = true
same_type Number Truth = false
same_type Truth Number = false
same_type Truth Truth = true

-- the type of the first part, and then what is made of it
abbrev pub and_then : Result ValueType ℕ → (ValueType → Result ValueType ℕ) → Result ValueType ℕ
and_then (Ok a) f = f a
and_then (Err p) f = Err p

-- an entry at the place p has the type g where its types fit
abbrev pub fitting : Bool → ValueType → ℕ → Result ValueType ℕ
fitting fits g p = cond fits (Ok g) (Err p)

abbrev pub known : Option ValueType → ℕ → Result ValueType ℕ
known None p = Err p
known (Some a) p = Ok a

-- under the types of the bindings in scope, the innermost first
abbrev pub typed : List ValueType → Tree → Result ValueType ℕ
typed env (number k p) = Ok Number
typed env (truth b p) = Ok Truth
typed env (name k p) = known (slice_get env k) p
typed env (prefix o p t) =
    and_then (typed env t) (λ a. fitting (same_type a (prefix_row_of o).takes) (prefix_row_of o).gives p)
typed env (binary o p t u) =
    and_then (typed env t) (λ a. and_then (typed env u) (λ b.
    fitting (same_type a (row_of o).takes && same_type b (row_of o).takes) (row_of o).gives p))
typed env (choose p t u v) =
    and_then (typed env t) (λ a. and_then (typed env u) (λ b. and_then (typed env v) (λ c.
    fitting (same_type a Truth && same_type b c) b p)))
typed env (bind p t u) = and_then (typed env t) (λ a. typed (a ∷ env) u)

-- the eight fields are numbers
abbrev pub fields : List ValueType
fields = replicate 8 Number

abbrev pub type_of : Tree → Result ValueType ℕ
type_of t = typed fields t
