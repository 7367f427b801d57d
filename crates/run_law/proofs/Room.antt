-- A legal plan fits the sites of each tile, and an accepted route the wires of each boundary.
use Rattle.std.proofs.Common.{◌≡◌, ℕ, ◌+◌, ◌<◌, ◌≤◌, Bool, true, false, cond, eqb, List, length, Some, None, Option, sym, refl, ap, ◌∙◌, ⊎_elim, arith}
use Rattle.std.proofs.lemmas.List.{get_or-map}
use Rattle.std.proofs.lemmas.Bool.{cases_order, cases_Bool, eqb-true, ne_eqb}
use Rattle.grid.specs.declared.shape.Grid.{Grid}
use Rattle.stock.specs.Meaning.{capacity, used, spare}
use Rattle.net.specs.declared.records.record.Record.{Record}
use Rattle.net.specs.Lowest.{some_below}
use Rattle.net.specs.Proper.{Proper}
use Rattle.net.specs.Routes.{tile_of, no_record}
use Rattle.net.proofs.Firsts.{some_below_found}
use Rattle.length_rule.specs.Gates.{need}
use Rattle.length_rule.specs.Legal.{spare_at}
use Rattle.length_rule.proofs.Sums.{sum_none, sum_one}
use Rattle.runs.specs.Worlds.{World, route_of, crossed_at, is_there, crosses, buffers_in}
use Rattle.runs.specs.Plans.{spares, LegalFor}
use Rattle.runs.specs.Exactly.{MayEnter}
use Rattle.net.proofs.Firsts.{some_below_none}

module _ (g : Grid) (rs : List Record) (p : Proper g rs) (ms : List ℕ) (t : ℕ) where
  abbrev part : ℕ → ℕ
  part i = cond (eqb (tile_of rs i) t) (need rs ms i) 0

  part_off : (i : ℕ) → eqb (tile_of rs i) t ≡ false → part i ≡ 0
  part_off i e = ap (λ (b : Bool). cond b (need rs ms i) 0) e

  part_on : (i : ℕ) → eqb (tile_of rs i) t ≡ true → part i ≡ need rs ms i
  part_on i e = ap (λ (b : Bool). cond b (need rs ms i) 0) e

  -- no other index has the tile
  alone : (i : ℕ) → i < length rs → eqb (tile_of rs i) t ≡ true → (k : ℕ) → k < length rs → (k ≡ i → ⊥) → part k ≡ 0
  alone i l e k h d = part_off k (ne_eqb (tile_of rs k) t (λ x. apart (x ∙ sym (eqb-true (tile_of rs i) t e))))
    where
      apart : tile_of rs k ≡ tile_of rs i → ⊥
      apart x =
          ⊎_elim (λ (c : k ≡ i). d c)
          (⊎_elim (λ (c : k < i). p.apart k i c l x) (λ (c : i < k). p.apart i k c h (sym x)))
          (cases_order k i)

  buffers_here : (i : ℕ) → i < length rs → eqb (tile_of rs i) t ≡ true → buffers_in rs ms t ≡ need rs ms i
  buffers_here i l e = sum_one part (length rs) i l (alone i l e) ∙ part_on i e

  buffers_off : ((i : ℕ) → i < length rs → eqb (tile_of rs i) t ≡ false) → buffers_in rs ms t ≡ 0
  buffers_off off = sum_none part (length rs) (λ i l. part_off i (off i l))

pub sites_fit : (w : World) (k : ℕ) (ms : List ℕ) (t : ℕ) → Proper w.grid (route_of w k) → LegalFor w k ms → used w.sites t ≤ capacity w.sites t → used w.sites t + buffers_in (route_of w k) ms t ≤ capacity w.sites t
sites_fit w k ms t p legal within = ⊎_elim here off (cases_Bool (some_below (λ i. eqb (tile_of (route_of w k) i) t) (length (route_of w k))))
  where
    here : some_below (λ i. eqb (tile_of (route_of w k) i) t) (length (route_of w k)) ≡ true → used w.sites t + buffers_in (route_of w k) ms t ≤ capacity w.sites t
    here e =
        let found = some_below_found (λ i. eqb (tile_of (route_of w k) i) t) (length (route_of w k)) e in
        let same = buffers_here w.grid (route_of w k) p ms t found.0 found.1 found.2 in
        let at : spare_at (spares w k) found.0 ≡ spare w.sites (tile_of (route_of w k) found.0) = get_or-map (λ r. spare w.sites r.tile) (route_of w k) found.0 no_record 0 found.1 in
        let tile : spare w.sites (tile_of (route_of w k) found.0) ≡ spare w.sites t = ap (spare w.sites) (eqb-true (tile_of (route_of w k) found.0) t found.2) in
        omega (arith, same, at, tile, legal.fits found.0 found.1, within)

    off : some_below (λ i. eqb (tile_of (route_of w k) i) t) (length (route_of w k)) ≡ false → used w.sites t + buffers_in (route_of w k) ms t ≤ capacity w.sites t
    off e = omega (arith, within, buffers_off w.grid (route_of w k) p ms t (some_below_none (λ i. eqb (tile_of (route_of w k) i) t) (length (route_of w k)) e))

pub wires_fit : (w : World) (rs : List Record) (b : ℕ) → MayEnter w rs → crosses w.grid rs b ≡ true → used w.wires b + 1 ≤ capacity w.wires b
wires_fit w rs b m e =
    let found = some_below_found (λ i. is_there (crossed_at w.grid rs i) b) (length rs) e in
    go found.0 found.1 (crossed_at w.grid rs found.0) refl found.2
  where
    go : (i : ℕ) → i < length rs → (c : Option ℕ) → crossed_at w.grid rs i ≡ c → is_there c b ≡ true → used w.wires b + 1 ≤ capacity w.wires b
    go i l None x y = absurd cc
    go i l (Some c) x y = m.wire_left i b l (x ∙ ap Some (eqb-true c b y))
