-- What a stock means: for each place a capacity and a use.
use Rattle.std.specs.Prelude.{◌≡◌, ℕ, ◌-◌, ◌≤◌, List, length, slice_index}

pub record Meaning : Type 0 where
  pub capacities : List ℕ
  pub uses : List ℕ

-- the count of places
abbrev pub count : Meaning → ℕ
count m = length m.capacities

abbrev pub capacity : Meaning → ℕ → ℕ
capacity m place = slice_index m.capacities place

abbrev pub used : Meaning → ℕ → ℕ
used m place = slice_index m.uses place

-- what is left to take: 0 where the use passes the capacity, since subtraction stops at 0
abbrev pub spare : Meaning → ℕ → ℕ
spare m place = capacity m place - used m place

-- at most so many places
abbrev pub most_places : ℕ
most_places = 8192

-- no capacity and no use is larger
abbrev pub most : ℕ
most = 65535

-- What every stock's meaning keeps.
pub record Sound (m : Meaning) : Type 0 where
  pub as_many_uses : length m.uses ≡ count m
  pub few_places : count m ≤ most_places
  pub small_capacities : (place : ℕ) → capacity m place ≤ most
  pub small_uses : (place : ℕ) → used m place ≤ most
