-- The words of a slice from the base to a height, the top first, and those above.
use Rattle.std.proofs.Common.{◌≡◌, ℕ, zero, suc, ◌+◌, ◌-◌, ◌<◌, ◌≤◌, List, [], ◌∷◌, ◌++◌, reverse, length, take, drop, set, sym, refl, ap, ◌∙◌, arith, append_assoc, length-drop, take-append-drop}
use Rattle.std.proofs.lemmas.List.{take_at, drop_at, set_split, take-take, drop-take, drop-append-le, length-take-le, length-reverse, reverse-append, reverse-reverse}
use Rattle.std.proofs.Math.Seq.{take-set-lt}
use Rattle.std.proofs.lemmas.Grind.{common_steps}
use Rattle.machine.specs.Steps.{freed}
use Rattle.machine.specs.Runs.{held}

module _ {W : Type 0} where
  split_reverse : (m : ℕ) (ys : List W) → reverse ys ≡ reverse (drop m ys) ++ reverse (take m ys)
  split_reverse m ys = ap reverse (sym (take-append-drop m ys)) ∙ reverse-append (take m ys) (drop m ys)

  module _ (m k : ℕ) (ys : List W) (is : m + k ≡ length ys) where
    length-last : length (reverse (drop m ys)) ≡ k
    length-last = length-reverse (drop m ys) ∙ omega (arith, length-drop m ys)

    take_reverse : take k (reverse ys) ≡ reverse (drop m ys)
    take_reverse = ap (take k) (split_reverse m ys) ∙ take_at (reverse (drop m ys)) (reverse (take m ys)) k length-last

    drop_reverse : drop k (reverse ys) ≡ reverse (take m ys)
    drop_reverse = ap (drop k) (split_reverse m ys) ∙ drop_at (reverse (drop m ys)) (reverse (take m ys)) k length-last

  set_reverse : (m k : ℕ) (ys : List W) (v : W) → m + (k + 1) ≡ length ys → set (reverse ys) k v ≡ reverse (set ys m v)
  set_reverse m k ys v is =
      set_split (reverse ys) k v (omega (arith, length-reverse ys))
      ∙ ap (λ front. front ++ v ∷ drop (suc k) (reverse ys)) (take_reverse (suc m) k ys (omega arith))
      ∙ ap (λ back. reverse (drop (suc m) ys) ++ v ∷ back) (drop_reverse m (suc k) ys (omega arith))
      ∙ sym (append_assoc (reverse (drop (suc m) ys)) (v ∷ []) (reverse (take m ys)))
      ∙ sym (ap (λ front. front ++ reverse (take m ys)) (reverse-append (v ∷ []) (drop (suc m) ys)))
      ∙ sym (reverse-append (take m ys) (v ∷ drop (suc m) ys))
      ∙ sym (ap reverse (set_split ys m v (omega arith)))

  freed_all : (k : ℕ) (st free : List W) → freed k st free ≡ reverse (take k st) ++ free
  freed_all zero st free = refl
  freed_all (suc k) [] free = refl
  freed_all (suc k) (x ∷ st) free =
      freed_all k st (x ∷ free)
      ∙ sym (append_assoc (reverse (take k st)) (x ∷ []) free)
      ∙ sym (ap (λ front. front ++ free) (reverse-append (x ∷ []) (take k st)))

  pub length-held : (xs : List W) (base h : ℕ) → h ≤ length xs → length (held xs base h) ≡ h - base
  length-held xs base h le =
      let e = length-take-le h xs le in
      let f = length-drop base (take h xs) in
      length-reverse (drop base (take h xs)) ∙ omega arith

  -- above a base as on the words from there on
  pub held_above : (xs : List W) (base h : ℕ) → held xs base (base + h) ≡ held (drop base xs) 0 h
  held_above xs base h = ap reverse (drop-take base h xs)

  module _ (xs : List W) (h k : ℕ) (fits : h ≤ length xs) where
    pub held_set : (v : W) → k < h → set (held xs 0 h) k v ≡ held (set xs (h - (k + 1)) v) 0 h
    held_set v some =
        set_reverse (h - (k + 1)) k (take h xs) v (omega (arith, length-take-le h xs fits))
        ∙ sym (ap reverse (take-set-lt h xs (h - (k + 1)) v (omega arith)))

    -- words taken off are unused words
    pub held_drop : k ≤ h → drop k (held xs 0 h) ≡ held xs 0 (h - k)
    held_drop some = drop_reverse (h - k) k (take h xs) (omega (arith, length-take-le h xs fits)) ∙ ap reverse (take-take (h - k) h xs (omega arith))

    pub held_freed : k ≤ h → freed k (held xs 0 h) (drop h xs) ≡ drop (h - k) xs
    held_freed some =
        freed_all k (held xs 0 h) (drop h xs)
        ∙ ap (λ ys. reverse ys ++ drop h xs) (take_reverse (h - k) k (take h xs) (omega (arith, length-take-le h xs fits)))
        ∙ ap (λ ys. ys ++ drop h xs) (reverse-reverse (drop (h - k) (take h xs)))
        ∙ sym (drop-append-le (h - k) (take h xs) (drop h xs) (omega (arith, length-take-le h xs fits)))
        ∙ ap (drop (h - k)) (take-append-drop h xs)

pub ruleset held_steps = (common_steps, length-held, held_set, held_drop, held_freed)
