-- How large a shape is.
use Rattle.std.specs.Prelude.{ℕ}

-- how many records a shape has at most
abbrev pub shape_room : ℕ
shape_room = 6
