-- One more place cleared, and all of them.
use Rattle.std.proofs.Common.{◌≡◌, ℕ, zero, suc, ◌+◌, ◌<◌, ◌≤◌, List, [], ◌∷◌, length, get_or, set, sym, refl, ap, ◌∙◌, add-one, arith, take_all}
use Rattle.std.proofs.lemmas.List.{drop_all}
use Rattle.counted.specs.declared.place.Place.{Place}
use Rattle.counted.specs.Table.{cleared, unused}
use Rattle.counted.proofs.Same.{same_place}

cleared_at : (i : ℕ) (table : List Place) (d : Place) → get_or (cleared i table) i d ≡ get_or table i d
cleared_at zero table d = refl
cleared_at (suc i) [] d = refl
cleared_at (suc i) (x ∷ table) d = cleared_at i table d

cleared_set : (i : ℕ) (table : List Place) (d : Place) → i < length table → set (cleared i table) i (unused (get_or table i d)) ≡ cleared (suc i) table
cleared_set i [] d h = absurd (omega arith)
cleared_set zero (x ∷ table) d h = refl
cleared_set (suc i) (x ∷ table) d h = ap (λ (l : List Place). unused x ∷ l) (cleared_set i table d (omega arith))

pub cleared_more : (i : ℕ) (table so_far : List Place) (v d : Place) → so_far ≡ cleared i table → i < length table → v.capacity ≡ (get_or so_far i d).capacity → v.used ≡ 0 → set so_far i v ≡ cleared (i + 1) table
cleared_more i table so_far v d e h c u =
    ap (λ (l : List Place). set l i v) e
    ∙ ap (set (cleared i table) i) (same_place v (unused (get_or table i d)) (c ∙ ap (λ (l : List Place). (get_or l i d).capacity) e ∙ ap (λ (p : Place). p.capacity) (cleared_at i table d)) u)
    ∙ cleared_set i table d h
    ∙ ap (λ n. cleared n table) (sym (add-one i))

-- past the table's end there is nothing left to clear
pub cleared_past : (i j : ℕ) (table : List Place) → length table ≤ i → length table ≤ j → cleared i table ≡ cleared j table
cleared_past i j table h k = simp (take_all, drop_all)
