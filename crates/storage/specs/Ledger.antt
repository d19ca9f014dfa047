-- What a code memory lists and answers, told from the operations alone.
use Rattle.std.specs.Prelude.{◌≡◌, ℕ, ◌<◌, Bool, true, false, List, [], ◌∷◌, ◌++◌, length, take, fold, nat_lt, slice_index_or}
use Rattle.bytecode.specs.declared.instruction.Word.{Word}
use Rattle.memory.specs.Lists.{appended}
use Rattle.storage.specs.declared.Operation.{Operation}
use Rattle.storage.specs.declared.Operation.TheVariants.{Append, Clear}

-- one operation on a list of words with so much room
abbrev pub performed : ℕ → List Word → Operation → List Word
performed room words (Append w) = appended words room w
performed room words Clear = []

-- whether it is done
abbrev pub done : ℕ → List Word → Operation → Bool
done room words (Append w) = nat_lt (length words) room
done room words Clear = true

-- the words asked for since the last clear, with one more operation
abbrev pub noted : List Word → Operation → List Word
noted words (Append w) = words ++ w ∷ []
noted words Clear = []

-- the words asked for since the last clear, in their order
abbrev pub ledger : List Operation → List Word
ledger operations = fold noted [] operations

-- The answers to the first n operations: a clear is done, and an append unless the words asked for before it, since the
-- last clear, leave no room.
abbrev pub ToldBelow : ℕ → List Operation → List Bool → ℕ → Type 0
ToldBelow room operations answers n =
    (i : ℕ) → i < n → i < length answers → slice_index_or answers i false ≡ done room (ledger (take i operations)) (slice_index_or operations i Clear)

abbrev pub Told : ℕ → List Operation → List Bool → Type 0
Told room operations answers = ToldBelow room operations answers (length operations)
