-- What a wide meaning tells at one place, and what one write leaves of it.
use Rattle.std.proofs.Common.{◌≡◌, ℕ, zero, suc, ◌<◌, List, get_or, set, replicate, refl, ap, arith, get_or-take, ltb-true, true}
use lib.ListN.{length-replicate}
use lib.Seq.{take-set-lt}
use Rattle.stock.specs.Calls.{exists, with_use}
use Rattle.stock.specs.Meaning.{Meaning, most, count, capacity, used}
use Rattle.open_stock.specs.Wide.{wide}

pub count_wide : (places : ℕ) (table : List ℕ) → count (wide places table) ≡ places
count_wide places table = length-replicate places most

pub capacity_wide : (places : ℕ) (table : List ℕ) (place : ℕ) → place < places → capacity (wide places table) place ≡ most
capacity_wide zero table place h = absurd (omega arith)
capacity_wide (suc places) table zero h = refl
capacity_wide (suc places) table (suc place) h = capacity_wide places table place (omega arith)

pub used_wide : (places : ℕ) (table : List ℕ) (place : ℕ) → place < places → used (wide places table) place ≡ get_or table place 0
used_wide places table place h = get_or-take places table place 0 h

pub wide_after : (places : ℕ) (table : List ℕ) (place u : ℕ) → exists (wide places table) place ≡ true → wide places (set table place u) ≡ with_use (wide places table) place u
wide_after places table place u h =
    let below : place < places = omega (arith, ltb-true _ _ h, count_wide places table) in
    ap (λ (l : List ℕ). let m : Meaning = record { capacities = replicate places most; uses = l } in m) (take-set-lt places table place u below)
