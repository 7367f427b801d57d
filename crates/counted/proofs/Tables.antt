-- What a table means at one place, and what one write leaves of it.
use Rattle.std.proofs.Common.{◌≡◌, ℕ, ◌<◌, min, List, map, length, get_or, take, set, sym, ap, ◌∙◌, arith, get_or-take, ltb-true, true}
use lib.Seq.{take-set-lt, set-get_or}
use Rattle.std.proofs.lemmas.List.{length-map, length-take, map-set, get_or-map}
use Rattle.stock.specs.Meaning.{count, capacity, used}
use Rattle.stock.specs.Calls.{exists, with_use}
use Rattle.counted.specs.declared.place.Place.{Place}
use Rattle.counted.specs.Table.{of_table}

pub count_table : (size : ℕ) (table : List Place) → count (of_table size table) ≡ min size (length table)
count_table size table = length-map (take size table) (λ p. p.capacity) ∙ length-take size table

pub within : (size : ℕ) (table : List Place) (p : ℕ) → p < count (of_table size table) → (p < size) × (p < length table)
within size table p h = (omega (arith, count_table size table), omega (arith, count_table size table))

inside : (size : ℕ) (table : List Place) (p : ℕ) → p < size → p < length table → p < length (take size table)
inside size table p h k = omega (arith, length-take size table)

pub capacity_table : (size : ℕ) (table : List Place) (p : ℕ) (d : Place) → p < size → p < length table → capacity (of_table size table) p ≡ (get_or table p d).capacity
capacity_table size table p d h k =
    get_or-map (λ (q : Place). q.capacity) (take size table) p d 0 (inside size table p h k) ∙ ap (λ (q : Place). q.capacity) (get_or-take size table p d h)

pub used_table : (size : ℕ) (table : List Place) (p : ℕ) (d : Place) → p < size → p < length table → used (of_table size table) p ≡ (get_or table p d).used
used_table size table p d h k =
    get_or-map (λ (q : Place). q.used) (take size table) p d 0 (inside size table p h k) ∙ ap (λ (q : Place). q.used) (get_or-take size table p d h)

pub capacities_stay : (size : ℕ) (table : List Place) (p : ℕ) (v d : Place) → p < size → p < length table → v.capacity ≡ (get_or table p d).capacity → (of_table size (set table p v)).capacities ≡ (of_table size table).capacities
capacities_stay size table p v d h k e =
    ap (map (λ (q : Place). q.capacity)) (take-set-lt size table p v h)
    ∙ map-set (λ (q : Place). q.capacity) (take size table) p v
    ∙ ap (set (of_table size table).capacities p) (e ∙ sym (capacity_table size table p d h k))
    ∙ set-get_or (of_table size table).capacities p 0

pub table_after : (size : ℕ) (table : List Place) (p : ℕ) (v d : Place) → exists (of_table size table) p ≡ true → v.capacity ≡ (get_or table p d).capacity → of_table size (set table p v) ≡ with_use (of_table size table) p v.used
table_after size table p v d h e =
    let i = within size table p (ltb-true _ _ h) in
    let uses : (of_table size (set table p v)).uses ≡ (with_use (of_table size table) p v.used).uses = ap (map (λ (q : Place). q.used)) (take-set-lt size table p v i.0) ∙ map-set (λ (q : Place). q.used) (take size table) p v in
    let capacities = capacities_stay size table p v d i.0 i.1 e in λ k. record { capacities = capacities k; uses = uses k }
