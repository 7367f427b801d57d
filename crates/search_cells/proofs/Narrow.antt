-- On a route no index has more than four children: each stands on another side of the index's tile.
use Rattle.std.proofs.Common.{◌≡◌, ℕ, zero, suc, ◌+◌, ◌<◌, ◌≤◌, Bool, true, false, cond, not, ◌&&◌, eqb, ltb, List, ◌∷◌, length, sym, refl, ap, ◌∙◌, subst, arith}
use Rattle.std.proofs.lemmas.Bool.Decides.{nat_tests}
use Rattle.grid.specs.declared.shape.Grid.{Grid}
use Rattle.grid.specs.Tiles.{place, number, has_tile}
use Rattle.grid.specs.Boundaries.{neighbours, share_a_side}
use Rattle.grid.proofs.Numbering.{place_tells_number}
use Rattle.grid.proofs.Pairs.{four}
use Rattle.net.specs.Checked.{records_of}
use Rattle.net.specs.declared.records.Route.{Route}
use Rattle.net.specs.declared.records.record.Record.{Record}
use Rattle.net.specs.Proper.{Proper}
use Rattle.net.specs.Routes.{tile_of, parent_of, is_route}
use Rattle.net.proofs.Properly.{proper_if}
use Rattle.search_theory.specs.Costs.{below}
use Rattle.search_theory.specs.Tree.{keep, child, children}
use Rattle.search_theory.proofs.Costs.{no_test}
use Rattle.search_theory.proofs.Gather.{child_later, child_parent}
use Rattle.search_cells.specs.Cells.{Searchable}

abbrev count : (ℕ → Bool) → ℕ → ℕ
count q n = length (keep q (below n))

-- those that pass two tests
abbrev both : (ℕ → Bool) → (ℕ → Bool) → ℕ → Bool
both q a k = q k && a k

abbrev but : (ℕ → Bool) → (ℕ → Bool) → ℕ → Bool
but q a k = q k && not (a k)

parted : (q a : ℕ → Bool) (n : ℕ) → count q n ≡ count (both q a) n + count (but q a) n
parted q a zero = refl
parted q a (suc n) = go (q n) (a n) (parted q a n)
  where
    go : (v w : Bool) → length (keep q (below n)) ≡ length (keep (both q a) (below n)) + length (keep (but q a) (below n))
        → length (cond v (n ∷ keep q (below n)) (keep q (below n))) ≡ length (cond (v && w) (n ∷ keep (both q a) (below n)) (keep (both q a) (below n))) + length (cond (v && not w) (n ∷ keep (but q a) (below n)) (keep (but q a) (below n)))
    go true true e = omega arith
    go true false e = omega arith
    go false true e = e
    go false false e = e

none_kept : (q : ℕ → Bool) (n : ℕ) → ((k : ℕ) → k < n → q k ≡ true → ⊥) → count q n ≡ 0
none_kept q zero h = refl
none_kept q (suc n) h = go (q n) refl (none_kept q n (λ k l. h k (omega arith)))
  where
    go : (v : Bool) → q n ≡ v → count q n ≡ 0 → length (cond v (n ∷ keep q (below n)) (keep q (below n))) ≡ 0
    go true e ih = absurd (h n (omega arith) e)
    go false e ih = ih

at_most_one : (q : ℕ → Bool) (n : ℕ) → ((j k : ℕ) → j < k → k < n → q j ≡ true → q k ≡ true → ⊥) → count q n ≤ 1
at_most_one q zero h = omega arith
at_most_one q (suc n) h = go (q n) refl (at_most_one q n (λ j k a b. h j k a (omega arith)))
  where
    go : (v : Bool) → q n ≡ v → count q n ≤ 1 → length (cond v (n ∷ keep q (below n)) (keep q (below n))) ≤ 1
    go true e ih = omega (arith, none_kept q n (λ k l t. h k n l (omega arith) t e))
    go false e ih = ih

all_three : (x y z : Bool) → ((x && y) && z) ≡ true → (x ≡ true) × (y ≡ true) × (z ≡ true)
all_three true true z e = (refl, refl, e)
all_three true false z e = absurd (no_test e)
all_three false y z e = absurd (no_test e)

both_off : (u v : Bool) → not u ≡ true → not v ≡ true → u ≡ v
both_off true v e f = absurd (no_test e)
both_off false true e f = absurd (no_test f)
both_off false false e f = refl

-- where two tests tell apart all that pass a third, no more than four pass it
four_kept : (q a b : ℕ → Bool) (n : ℕ) → ((j k : ℕ) → j < k → k < n → q j ≡ true → q k ≡ true → a j ≡ a k → b j ≡ b k → ⊥) → count q n ≤ 4
four_kept q a b n h =
    omega (
      arith,
      parted q a n,
      parted (both q a) b n,
      parted (but q a) b n,
      at_most_one (both (both q a) b) n (λ j k l s t u. let x = all_three (q j) (a j) (b j) t in let y = all_three (q k) (a k) (b k) u in
          h j k l s x.0 y.0 (x.1 ∙ sym y.1) (x.2 ∙ sym y.2)),
      at_most_one (but (both q a) b) n (λ j k l s t u. let x = all_three (q j) (a j) (not (b j)) t in let y = all_three (q k) (a k) (not (b k)) u in
          h j k l s x.0 y.0 (x.1 ∙ sym y.1) (both_off (b j) (b k) x.2 y.2)),
      at_most_one (both (but q a) b) n (λ j k l s t u. let x = all_three (q j) (not (a j)) (b j) t in let y = all_three (q k) (not (a k)) (b k) u in
          h j k l s x.0 y.0 (both_off (a j) (a k) x.1 y.1) (x.2 ∙ sym y.2)),
      at_most_one (but (but q a) b) n (λ j k l s t u. let x = all_three (q j) (not (a j)) (not (b j)) t in let y = all_three (q k) (not (a k)) (not (b k)) u in
          h j k l s x.0 y.0 (both_off (a j) (a k) x.1 y.1) (both_off (b j) (b k) x.2 y.2)),
    )

-- two places beside a third are one where both tests agree
same_side : (a b c d r s : ℕ) → share_a_side (a, b) (r, s) ≡ true → share_a_side (c, d) (r, s) ≡ true
    → eqb a r ≡ eqb c r → cond (eqb a r) (ltb b s) (ltb a r) ≡ cond (eqb c r) (ltb d s) (ltb c r) → (a ≡ c) × (b ≡ d)
same_side a b c d r s p q e f = (grind (arith, nat_tests, four a b r s p, four c d r s q), grind (arith, nat_tests, four a b r s p, four c d r s q))

module _ (g : Grid) (rs : List Record) (p : Proper g rs) (i : ℕ) where
  -- in the row of i, and before it in its row or its column
  abbrev level : ℕ → Bool
  level k = eqb (place g (tile_of rs k)).0 (place g (tile_of rs i)).0

  abbrev earlier_side : ℕ → Bool
  earlier_side k = cond (level k) (ltb (place g (tile_of rs k)).1 (place g (tile_of rs i)).1) (ltb (place g (tile_of rs k)).0 (place g (tile_of rs i)).0)

  both_parts : (v w : Bool) → (v && w) ≡ true → w ≡ true
  both_parts true w e = e
  both_parts false w e = absurd (no_test e)

  beside : (k : ℕ) → k < length rs → child (parent_of rs) i k ≡ true → share_a_side (place g (tile_of rs k)) (place g (tile_of rs i)) ≡ true
  beside k h c =
      let later : i < k = child_later (parent_of rs) (length rs) p.earlier i k h c in
      both_parts (has_tile g (tile_of rs k) && has_tile g (tile_of rs i)) (share_a_side (place g (tile_of rs k)) (place g (tile_of rs i)))
      (subst (λ j. neighbours g (tile_of rs k) (tile_of rs j) ≡ true) (child_parent (parent_of rs) (length rs) p.earlier i k c) (p.beside k (omega arith) h))

  same_tile : (j k : ℕ) → j < length rs → k < length rs → ((place g (tile_of rs j)).0 ≡ (place g (tile_of rs k)).0) × ((place g (tile_of rs j)).1 ≡ (place g (tile_of rs k)).1) → tile_of rs j ≡ tile_of rs k
  same_tile j k a b e =
      sym (place_tells_number g (tile_of rs j) (p.on_grid j a)).1
      ∙ ap (λ r. number g (r, (place g (tile_of rs j)).1)) e.0
      ∙ ap (λ c. number g ((place g (tile_of rs k)).0, c)) e.1
      ∙ (place_tells_number g (tile_of rs k) (p.on_grid k b)).1

  narrow : length (children (parent_of rs) (length rs) i) ≤ 4
  narrow = four_kept (child (parent_of rs) i) level earlier_side (length rs)
      (λ j k l h s t e f. p.apart j k l h (same_tile j k (omega arith) h
      (same_side (place g (tile_of rs j)).0 (place g (tile_of rs j)).1 (place g (tile_of rs k)).0 (place g (tile_of rs k)).1 (place g (tile_of rs i)).0 (place g (tile_of rs i)).1
      (beside j (omega arith) s) (beside k h t) e f)))

pub route_searchable : (g : Grid) (rs : List Record) → is_route g rs ≡ true → Searchable rs
route_searchable g rs h =
    let p : Proper g rs = proper_if g rs h in
    record { some = p.some; earlier = p.earlier; narrow = λ i _. narrow g rs p i }

pub searchable : (r : Route) → Searchable (records_of r)
searchable r = route_searchable r.grid (records_of r) r.checked
