-- Laws of `value_from`, which no proof here needs: a number that digits write may be capped at 256 on the way.
use Rattle.std.proofs.Common.{◌≡◌, ℕ, ◌+◌, ◌-◌, ◌*◌, ◌<◌, ◌≤◌, min, ◌⊎◌, List, [], ◌∷◌, length, get_or, drop, sym, ap, ◌∙◌, inl, inr, arith}
use Rattle.std.proofs.lemmas.Bool.{cases_lt}
use Rattle.std.proofs.lemmas.List.{at_drop_more}
use Rattle.language.specs.Tokens.{value_from}

-- more digits make no smaller number
grows : (n : ℕ) (ds : List ℕ) → n ≤ value_from n ds
grows n [] = omega arith
grows n (d ∷ ds) = let h = grows (n * 10 + (d - 48)) ds in omega arith

pub capped : (n : ℕ) (ds : List ℕ) → min (value_from (min n 256) ds) 256 ≡ min (value_from n ds) 256
capped n ds = by (cases_lt n 256)
  where
    by : (n < 256) ⊎ (256 ≤ n) → min (value_from (min n 256) ds) 256 ≡ min (value_from n ds) 256
    by (inl h) = let e : min n 256 ≡ n = omega arith in ap (λ m. min (value_from m ds) 256) e
    by (inr h) = let a = grows (min n 256) ds in let b = grows n ds in omega arith

pub value_on : (ds : List ℕ) (i n m total : ℕ) → i < length ds → m ≡ min (n * 10 + (get_or ds i 0 - 48)) 256 → min (value_from n (drop i ds)) 256 ≡ total → min (value_from m (drop (i + 1) ds)) 256 ≡ total
value_on ds i n m total h e inv =
    let one : value_from n (drop i ds) ≡ value_from (n * 10 + (get_or ds i 0 - 48)) (drop (i + 1) ds) = at_drop_more (value_from n) ds i 0 h in
    ap (λ k. min (value_from k (drop (i + 1) ds)) 256) e ∙ (capped (n * 10 + (get_or ds i 0 - 48)) (drop (i + 1) ds) ∙ (ap (λ k. min k 256) (sym one) ∙ inv))
