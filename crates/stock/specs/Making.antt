-- What the making of a bounded figure tells: 34 and the figure above its bound.
use Rattle.std.specs.Prelude.{ℕ, cond, List, [], ◌∷◌, nat_le}
use Rattle.stock.specs.Meaning.{most_places}

abbrev pub figure_refusal : ℕ → ℕ → List ℕ
figure_refusal bound figure = cond (nat_le figure bound) [] (34 ∷ figure ∷ [])

-- a stock's size
abbrev pub size_refusal : ℕ → List ℕ
size_refusal = figure_refusal most_places
