-- Each refusal of a stock, or of making one: its number, then its values.
use Rattle.std.specs.Prelude.{ℕ, List, [], ◌∷◌, ◌++◌, codes, decimal}
use Rattle.refusal.specs.Told.{number_in, value_in}
use Rattle.stock.specs.declared.fault.StockFault.{StockFault}
use Rattle.stock.specs.declared.fault.StockFault.TheVariants.{NoPlace, Full, Lacking, TooLarge}

abbrev pub told : StockFault → List ℕ
told (NoPlace place) = 31 ∷ place ∷ []
told (Full place) = 32 ∷ place ∷ []
told (Lacking place) = 33 ∷ place ∷ []
told (TooLarge figure) = 34 ∷ figure ∷ []

-- the text of a refusal
abbrev pub shown : StockFault → List ℕ
shown f = codes "refused with " ++ decimal (number_in (told f)) ++ codes " and " ++ decimal (value_in (told f))
