-- A route crosses a boundary at every index above 0, and no boundary twice; every index leads back to the driver.
use Rattle.std.proofs.Common.{◌≡◌, ℕ, zero, suc, ◌<◌, ◌≤◌, true, false, ◌&&◌, ltb, List, length, Some, None, sym, ◌∙◌, subst, ⊎_elim, arith}
use Rattle.std.proofs.lemmas.Bool.{and_parts, and_from, ltb-true, lt-ltb, cond-true, cond-false, cases_Bool, cases_order}
use Rattle.grid.specs.declared.shape.Grid.{Grid}
use Rattle.grid.specs.Boundaries.{neighbours, boundary_at, boundary_between}
use Rattle.grid.specs.Tiles.{place}
use Rattle.grid.proofs.Pairs.{tells_pair, counted}
use Rattle.net.specs.declared.records.record.Record.{Record}
use Rattle.net.specs.Proper.{Proper}
use Rattle.net.specs.Routes.{tile_of, parent_of}
use Rattle.route_facts.specs.Facts.{crossing, CrossesEach, CrossingsApart, parent_told, LeadsBack, at_driver, through, LeadsBackEach}

module _ (g : Grid) (rs : List Record) (p : Proper g rs) where
  -- a tile tells its index
  pub same_index : (i j : ℕ) → i < length rs → j < length rs → tile_of rs i ≡ tile_of rs j → i ≡ j
  same_index i j h l e =
      ⊎_elim (λ (d : i ≡ j). d) (⊎_elim (λ (d : i < j). absurd (p.apart i j d l e)) (λ (d : j < i). absurd (p.apart j i d h (sym e)))) (cases_order i j)

  parent_in : (i : ℕ) → 0 < i → i < length rs → parent_of rs i < length rs
  parent_in i pos h = omega (arith, p.earlier i pos h)

  -- the parent that is told is an index of the route
  pub told_in : (i q : ℕ) → parent_told rs i ≡ Some q → q < length rs
  told_in i q e =
      ⊎_elim
      (λ (t : (ltb 0 i && ltb i (length rs)) ≡ true).
      let both = and_parts (ltb 0 i) (ltb i (length rs)) t in
      let told : parent_told rs i ≡ Some (parent_of rs i) = cond-true (ltb 0 i && ltb i (length rs)) (Some (parent_of rs i)) None t in
      let same : parent_of rs i ≡ q = cc in
      omega (arith, parent_in i (ltb-true 0 i both.0) (ltb-true i (length rs) both.1)))
      (λ (t : (ltb 0 i && ltb i (length rs)) ≡ false).
      let none : parent_told rs i ≡ None = cond-false (ltb 0 i && ltb i (length rs)) (Some (parent_of rs i)) None t in
      cc)
      (cases_Bool (ltb 0 i && ltb i (length rs)))

  pub crosses_each : CrossesEach g rs
  crosses_each i pos h =
      let t = boundary_between g (tile_of rs i) (tile_of rs (parent_of rs i)) in
      let b : ℕ = boundary_at g (place g (tile_of rs i)) (place g (tile_of rs (parent_of rs i))) in
      let e : boundary_between g (tile_of rs i) (tile_of rs (parent_of rs i)) ≡ Some b = cond-true (neighbours g (tile_of rs i) (tile_of rs (parent_of rs i))) (Some b) None (p.beside i pos h) in
      let here : (ltb 0 i && ltb i (length rs)) ≡ true = and_from (ltb 0 i) (ltb i (length rs)) (lt-ltb 0 i pos) (lt-ltb i (length rs) h) in
      (b, cond-true (ltb 0 i && ltb i (length rs)) t None here ∙ e, counted g (tile_of rs i) (tile_of rs (parent_of rs i)) b e)

  -- what is crossed lies at an index above 0, between its tile and its parent's
  crossed : (i b : ℕ) → crossing g rs i ≡ Some b → (0 < i) × (i < length rs) × (boundary_between g (tile_of rs i) (tile_of rs (parent_of rs i)) ≡ Some b)
  crossed i b e =
      ⊎_elim
      (λ (t : (ltb 0 i && ltb i (length rs)) ≡ true).
      let both = and_parts (ltb 0 i) (ltb i (length rs)) t in
      (ltb-true 0 i both.0, ltb-true i (length rs) both.1, sym (cond-true (ltb 0 i && ltb i (length rs)) (boundary_between g (tile_of rs i) (tile_of rs (parent_of rs i))) None t) ∙ e))
      (λ (t : (ltb 0 i && ltb i (length rs)) ≡ false).
      let none : crossing g rs i ≡ None = cond-false (ltb 0 i && ltb i (length rs)) (boundary_between g (tile_of rs i) (tile_of rs (parent_of rs i))) None t in
      cc)
      (cases_Bool (ltb 0 i && ltb i (length rs)))

  pub crossings_apart : CrossingsApart g rs
  crossings_apart i j b e f =
      let x = crossed i b e in
      let y = crossed j b f in
      ⊎_elim
      (λ s. same_index i j x.1 y.1 s.0)
      (λ s.
      let a = same_index i (parent_of rs j) x.1 (parent_in j y.0 y.1) s.0 in
      let c = same_index (parent_of rs i) j (parent_in i x.0 x.1) y.1 s.1 in
      absurd (omega (arith, p.earlier i x.0 x.1, p.earlier j y.0 y.1, a, c)))
      (tells_pair g (tile_of rs i) (tile_of rs (parent_of rs i)) (tile_of rs j) (tile_of rs (parent_of rs j)) b x.2 y.2)

  back_in : (n i : ℕ) → i < length rs → i ≤ n → LeadsBack rs i
  back_in zero i h l = let z : 0 ≡ i = omega arith in subst (LeadsBack rs) z at_driver
  back_in (suc n) i h l =
      ⊎_elim
      (λ (e : i ≡ 0). subst (LeadsBack rs) (sym e) at_driver)
      (⊎_elim
      (λ (e : i < 0). absurd (omega arith))
      (λ (e : 0 < i). let before = p.earlier i e h in through before (back_in n (parent_of rs i) (omega (arith, before)) (omega (arith, before)))))
      (cases_order i 0)

  pub leads_back : LeadsBackEach rs
  leads_back i h = back_in i i h (omega arith)
