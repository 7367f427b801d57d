-- What the answer of a call tells of a refusal, as numbers. Each enum of faults has a definition `told` of its own:
-- the refusal's number, then its values, then the same of the fault that it carries. An accepted call tells nothing.
use Rattle.std.specs.Prelude.{ℕ, List, [], ◌∷◌, Ok, Err, Result}

abbrev pub told_by : {A E : Type 0} → (E → List ℕ) → Result A E → List ℕ
told_by told (Ok a) = []
told_by told (Err e) = told e

-- the refusal's number: the first of what is told
abbrev pub number_in : List ℕ → ℕ
number_in [] = 0
number_in (number ∷ values) = number

-- its first value
abbrev pub value_in : List ℕ → ℕ
value_in [] = 0
value_in (number ∷ values) = number_in values
