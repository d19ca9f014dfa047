-- The shape of a tree's code, from the shapes of its parts.
use Rattle.std.specs.Prelude.{ℕ, ◌+◌, max, cond, ◌||◌, Some, None, Option, nat_lt}
use Rattle.language.specs.Code.{long, tall, wide, or_else}
use Rattle.language.specs.Tree.{Tree}
use Rattle.shapes.specs.declared.shape.Shape.{Shape}

abbrev pub shape : ℕ → ℕ → Option ℕ → Shape
shape l h w = record { length = l; tall = h; wide = w }

abbrev pub shape_of : Tree → Shape
shape_of t = shape (long t) (tall t) (wide t)

abbrev pub prefix_shape : Shape → Shape
prefix_shape a = shape (a.length + 3) (max a.tall 1) a.wide

abbrev pub pair_shape : Shape → Shape → Shape
pair_shape a b = shape (a.length + 1 + b.length + 1) (max a.tall (b.tall + 1)) (or_else a.wide b.wide)

-- an if is too wide where its then code, of m words, has over 254 or its else code, of n words, over 253
abbrev pub wide_at : ℕ → ℕ → ℕ → Option ℕ
wide_at p m n = cond (nat_lt 254 m || nat_lt 253 n) (Some p) None

abbrev pub choice_shape : ℕ → Shape → Shape → Shape → Shape
choice_shape p a b c =
    shape (a.length + 1 + c.length + 1 + b.length) (max a.tall (max b.tall c.tall))
    (or_else a.wide (or_else b.wide (or_else c.wide (wide_at p b.length c.length))))
