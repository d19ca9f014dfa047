-- The shape of the stack keeps it short.
use Rattle.std.proofs.Common.{◌≡◌, ℕ, ◌+◌, ◌*◌, ◌<◌, ◌≤◌, true, false, cond, List, [], ◌∷◌, length, arith}
use Rattle.std.proofs.lemmas.List.{length-reverse}
use Rattle.std.proofs.lemmas.Bool.{ltb-true, and_parts}
use Rattle.language.specs.Frames.{level_by, above, nests, deep}
use Rattle.language.specs.declared.frame.Frame.{Frame}
use Rattle.language.specs.declared.frame.Mark.{Mark}
use Rattle.reader.specs.Opened.{frames_of}
use Rattle.reader.specs.Stacks.{stands, shaped, opens}
use Rattle.reader.specs.declared.stack.Stack.{Stack}

-- an operator's level is at most 5
flat_high : (m : Mark) → nests m ≡ false → level_by m ≤ 5
flat_high m e = grind arith

-- how many operators may stand on a nested frame up to the top
abbrev rank : List Frame → ℕ
rank [] = 0
rank (f ∷ fs) = cond (nests f.mark) 0 (level_by f.mark)

rank_high : (fs : List Frame) → rank fs ≤ 5
rank_high fs = grind (arith, flat_high)

rank_above : (fs : List Frame) → rank fs ≤ above fs
rank_above fs = grind arith

few : (fs : List Frame) → shaped fs ≡ true → length fs ≤ 6 * deep fs + rank fs
few [] h = omega arith
few (f ∷ fs) h =
    let p = and_parts (stands f.mark fs) (shaped fs) h in
    let rest = few fs p.1 in
    let high = rank_high fs in
    let low = rank_above fs in
    let s = p.0 in
    grind (arith, ltb-true)

-- a frame that may be put on top finds room
pub room : (m : Mark) (fs : List Frame) → shaped fs ≡ true → deep fs ≤ 64 → opens m fs ≡ true → length fs < 389
room m fs h d o =
    let n = few fs h in
    let high = rank_high fs in
    let low = rank_above fs in
    let flat = flat_high m in
    grind (arith, ltb-true)

module _ (s : Stack) where
  -- a stack holds no more frames than there are places
  pub within : length s.frames.items ≤ 389
  within =
      let fs = frames_of s in
      omega (arith, s.nested, s.shallow, rank_high fs, few fs s.shaped, length-reverse s.frames.items)

  pub push_room : (m : Mark) → opens m (frames_of s) ≡ true → length s.frames.items < 389
  push_room m o =
      let fs = frames_of s in
      let deep = s.nested in
      let few = s.shallow in
      let r = room m fs s.shaped (omega arith) o in
      omega (arith, length-reverse s.frames.items)
