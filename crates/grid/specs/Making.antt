-- Which grids there are, and what making one answers.
use Rattle.std.specs.Prelude.{ℕ, Bool, cond, ◌||◌, List, [], ◌∷◌, ◌++◌, Ok, Err, Result, nat_lt, codes, decimal}
use Rattle.grid.specs.declared.shape.Grid.{Grid}
use Rattle.grid.specs.declared.shape.GridFault.{GridFault}
use Rattle.grid.specs.declared.shape.GridFault.TheVariants.{Rows, Columns}

-- the number and the value of each refusal
abbrev pub told : GridFault → List ℕ
told (Rows n) = 1 ∷ n ∷ []
told (Columns n) = 1 ∷ n ∷ []

-- the text of a refusal
abbrev pub shown : GridFault → List ℕ
shown (Rows n) = codes "refused with 1 and " ++ decimal n
shown (Columns n) = codes "refused with 1 and " ++ decimal n

-- a grid has no side of this many tiles
abbrev pub outside : ℕ → Bool
outside n = nat_lt n 1 || nat_lt 64 n

-- what is refused, in its order; nothing where a grid is made
abbrev pub grid_refusal : ℕ → ℕ → List ℕ
grid_refusal rows columns = cond (outside rows) (1 ∷ rows ∷ []) (cond (outside columns) (1 ∷ columns ∷ []) [])

-- the rows and columns of the grid that is made: a grid is nothing but these
abbrev pub made : ℕ → ℕ → Result (ℕ × ℕ) GridFault
made rows columns = cond (outside rows) (Err (Rows rows)) (cond (outside columns) (Err (Columns columns)) (Ok (rows, columns)))

abbrev pub sides_of : Result Grid GridFault → Result (ℕ × ℕ) GridFault
sides_of (Ok g) = Ok (g.rows, g.columns)
sides_of (Err f) = Err f
