-- Names put on a stack and taken off.
use Rattle.std.proofs.Common.{◌≡◌, ℕ, zero, suc, ◌+◌, ◌-◌, ◌<◌, ◌≤◌, List, [], ◌∷◌, ◌++◌, map, reverse, length, get_or, take, drop, set, sym, refl, ap, ◌∙◌, arith, Bor}
use Rattle.std.proofs.lemmas.List.{take_more, take_more_set, map_push, reverse-append}
use Rattle.reader.specs.Scopes.{newest_first}

pub newest_more : (xs : List (Bor (List ℕ))) (x : Bor (List ℕ)) → newest_first (xs ++ x ∷ []) ≡ x.now ∷ newest_first xs
newest_more xs x =
    ap reverse (map_push (λ (y : Bor (List ℕ)). y.now) xs x) ∙ reverse-append (map (λ (y : Bor (List ℕ)). y.now) xs) (x.now ∷ [])

pub newest_push : (xs : List (Bor (List ℕ))) (n : ℕ) (x : Bor (List ℕ)) → n < length xs → newest_first (take (n + 1) (set xs n x)) ≡ x.now ∷ newest_first (take n xs)
newest_push xs n x h = ap newest_first (take_more_set xs n x h) ∙ newest_more (take n xs) x

pub newest_last : (xs : List (Bor (List ℕ))) (n : ℕ) (d : Bor (List ℕ)) → 0 < n → n ≤ length xs → newest_first (take n xs) ≡ (get_or xs (n - 1) d).now ∷ newest_first (take (n - 1) xs)
newest_last xs n d some h =
    let e : n ≡ n - 1 + 1 = omega arith in
    ap (λ k. newest_first (take k xs)) e ∙ (ap newest_first (take_more xs (n - 1) d (omega arith)) ∙ newest_more (take (n - 1) xs) (get_or xs (n - 1) d))

pub newest_drop : (xs : List (Bor (List ℕ))) (n : ℕ) (d : Bor (List ℕ)) → n ≤ length xs → newest_first (take (n - 1) xs) ≡ drop 1 (newest_first (take n xs))
newest_drop xs zero d h = refl
newest_drop xs (suc n) d h = sym (ap (drop 1) (newest_last xs (suc n) d (omega arith) h))
