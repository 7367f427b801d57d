-- Every plan has a code: a number whose digits in fours are its marks.
use Rattle.std.specs.Prelude.{ℕ, zero, suc, ◌-◌, ◌/◌, ◌%◌, ◌^◌, cond, List, map, nat_le}
use Rattle.std.specs.List.{range_with_len}
use Rattle.every_plan.specs.Shapes.{shape_room}

-- the mark at an index: the driver's is 0, and those after it are the digits, the lowest first
abbrev pub mark_of : (code index : ℕ) → ℕ
mark_of code zero = 0
mark_of code (suc k) = code / 4 ^ k % 4

abbrev pub marks_of : (code : ℕ) → List ℕ
marks_of code = map (mark_of code) (range_with_len 0 shape_room)

-- how many codes there are: four marks for each record but the driver's, and none for more records than a shape has
abbrev pub plans : (records : ℕ) → ℕ
plans records = cond (nat_le records shape_room) (4 ^ (records - 1)) 0
