-- One more operation, and one more answer.
use Rattle.std.proofs.Common.{◌≡◌, ℕ, ◌+◌, ◌<◌, Bool, false, ltb, List, [], length, get_or, take, set, sym, refl, ap, arith, length-set, below_more}
use Rattle.std.proofs.lemmas.List.{take_all}
use Rattle.std.proofs.lemmas.List.Sums.{fold_more}
use Rattle.std.proofs.lemmas.Bool.{cases_lt}
use Rattle.std.proofs.lemmas.Grind.{common_steps}
use Rattle.bytecode.specs.declared.instruction.Word.{Word}
use Rattle.storage.specs.declared.Operation.{Operation}
use Rattle.storage.specs.declared.Operation.TheVariants.{Append, Clear}
use Rattle.storage.specs.Ledger.{performed, done, noted, ledger, ToldBelow}

-- what there is room for leaves as much room as all that was asked for
room_alike : (room : ℕ) (xs : List Word) → ltb (length (take room xs)) room ≡ ltb (length xs) room
room_alike room xs = grind (arith, common_steps, cases_lt (length xs) room)

kept : (room : ℕ) (xs : List Word) (operation : Operation) → performed room (take room xs) operation ≡ take room (noted xs operation)
kept room xs (Append w) = grind (arith, common_steps, room_alike room xs, cases_lt (length xs) room)
kept room xs Clear = sym (take_all room [] (omega arith))

done_alike : (room : ℕ) (xs : List Word) (operation : Operation) → done room (take room xs) operation ≡ done room xs operation
done_alike room xs (Append w) = room_alike room xs
done_alike room xs Clear = refl

-- The operation at place i, on a memory that lists what the ones before it leave.
module _ (room : ℕ) (operations : List Operation) (i : ℕ) (within : i < length operations) (operation : Operation)
    (is : operation ≡ get_or operations i Clear) (room' : ℕ) (before : List Word) (same : room' ≡ room)
    (lists : before ≡ take room (ledger (take i operations))) where
  pub one_more : (after : List Word) → after ≡ performed room' before operation → after ≡ take room (ledger (take (i + 1) operations))
  one_more after e =
      grind (arith, common_steps, kept room (ledger (take i operations)) operation, fold_more noted [] operations i Clear within)

  told_here :
      (answer : Bool) → answer ≡ done room' before operation → answer ≡ done room (ledger (take i operations)) (get_or operations i Clear)
  told_here answer e = grind (arith, common_steps, done_alike room (ledger (take i operations)) operation)

  pub told_more :
      (answers after : List Bool) (answer : Bool) →
      answer ≡ done room' before operation →
      after ≡ set answers i answer → ToldBelow room operations answers i → ToldBelow room operations after (i + 1)
  told_more answers after answer e put below =
      below_more (λ k. k < length after → get_or after k false ≡ done room (ledger (take k operations)) (get_or operations k Clear)) i
      (λ k lt fits. let so_far = below k lt (omega (arith, ap length put, length-set answers i answer)) in grind (arith, common_steps))
      (λ fits. let here = told_here answer e in grind (arith, common_steps))
