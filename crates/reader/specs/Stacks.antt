-- How open frames, the newest first, stand on one another.
use Rattle.std.specs.Prelude.{Bool, true, false, cond, ◌&&◌, List, [], ◌∷◌, Some, None, Option, nat_lt}
use Rattle.language.specs.Frames.{level_by, above, nests, deep}
use Rattle.language.specs.declared.frame.Frame.{Frame}
use Rattle.language.specs.declared.frame.Mark.{Mark}

abbrev pub top : List Frame → Option Frame
top [] = None
top (f ∷ fs) = Some f

-- an operator binds tighter than what it stands on
abbrev pub stands : Mark → List Frame → Bool
stands m fs = cond (nests m) true (nat_lt (above fs) (level_by m))

abbrev pub shaped : List Frame → Bool
shaped [] = true
shaped (f ∷ fs) = stands f.mark fs && shaped fs

-- a frame may be put on top: it nests at most as the 64th, or it binds tighter
abbrev pub opens : Mark → List Frame → Bool
opens m fs = cond (nests m) (nat_lt (deep fs) 64) (nat_lt (above fs) (level_by m))

abbrev pub top_nests : List Frame → Bool
top_nests [] = false
top_nests (f ∷ fs) = nests f.mark
