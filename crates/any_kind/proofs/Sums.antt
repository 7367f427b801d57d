-- A fold from a cost on is that cost with the sum of the cells, and a running sum, with the sum of the cells that are left,
-- stays the sum of them all; this rests on the laws alone.
use Rattle.std.proofs.Common.{◌≡◌, ℕ, ◌+◌, ◌<◌, ◌≤◌, Bool, List, [], ◌∷◌, length, map, fold, get_or, drop, sym, ap, ◌∙◌}
use Rattle.std.proofs.lemmas.List.{drop_more, drop_all}
use Rattle.laws.specs.Laws.{CostLaws}
use Rattle.any_kind.specs.Bills.{sum_of}

module _ {C V : Type 0} {nothing : C} {plus : C → C → C} {at_most : C → C → Bool} (laws : CostLaws nothing plus at_most) (held : V → C) where
  folded : (a : C) (cells : List V) → fold plus a (map held cells) ≡ plus a (sum_of nothing plus held cells)
  folded a [] = sym (laws.commutative a nothing ∙ laws.neutral a)
  folded a (cell ∷ cells) = folded (plus a (held cell)) cells ∙ laws.associative a (held cell) (sum_of nothing plus held cells)

  pub bill_from_nothing : (cells : List V) → fold plus nothing (map held cells) ≡ sum_of nothing plus held cells
  bill_from_nothing cells = folded nothing cells ∙ laws.neutral (sum_of nothing plus held cells)

  abbrev left : List V → C
  left = sum_of nothing plus held

  pub one_more : (cells : List V) (i : ℕ) (sum all : C) (cell : V) (value next : C) → i < length cells → cell ≡ get_or cells i cell → value ≡ held cell → next ≡ plus sum value → plus sum (left (drop i cells)) ≡ all → plus next (left (drop (i + 1) cells)) ≡ all
  one_more cells i sum all cell value next h at is adds so =
      let regroup = laws.associative sum (held cell) (left (drop (i + 1) cells)) in
      let split = ap left (drop_more cells i cell h) in
      cc

  pub none_left : (cells : List V) (i : ℕ) (sum all : C) → length cells ≤ i → plus sum (left (drop i cells)) ≡ all → sum ≡ all
  none_left cells i sum all h so =
      sym (laws.neutral sum) ∙ laws.commutative nothing sum ∙ ap (λ cs. plus sum (left cs)) (sym (drop_all i cells h)) ∙ so
