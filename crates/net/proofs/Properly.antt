-- The check refuses nothing exactly where the records are a route.
use Rattle.std.proofs.Common.{◌≡◌, ℕ, zero, suc, ◌<◌, ◌≤◌, Bool, true, false, not, ◌||◌, eqb, leb, List, length, is_ok, None, Ok, Err, Decides, Result, sym, refl, ap, ◌∙◌, subst, ⊎_elim, arith}
use Rattle.std.proofs.lemmas.Bool.{and_parts, and_from, or_cases, or_left, or_right, leb-true, le-leb, eqb-true, eqb-false, eq-eqb, ne_eqb, not-true, not_from_false, cases_eq}
use Rattle.std.proofs.lemmas.Bool.Decides.{nat_tests}
use Rattle.grid.specs.declared.shape.Grid.{Grid}
use Rattle.grid.specs.Tiles.{has_tile}
use Rattle.grid.specs.Boundaries.{neighbours}
use Rattle.net.specs.declared.records.Route.{Route}
use Rattle.net.specs.declared.records.record.Record.{Record}
use Rattle.net.specs.declared.records.record.RouteFault.{RouteFault}
use Rattle.net.specs.declared.records.record.RouteFault.TheVariants.{Count, OffGrid, Parent, Apart, Repeated, Useless}
use Rattle.net.specs.Checked.{records_of}
use Rattle.net.specs.Lowest.{lowest, unless, some_below, nothing_wrong, fault_of}
use Rattle.net.specs.Proper.{Proper}
use Rattle.net.specs.Routes.{most_records, tile_of, parent_of, sink_at, is_child, has_child, parent_fits, beside_parent, stands_earlier, record_fault, end_fault, right_count, route_fault, is_route}
use Rattle.net.proofs.Firsts.{or_else_none, both_none, unless_none, unless_clear, nothing_none, lowest_none, lowest_clear, some_below_none, some_below_found}

-- the four tests of a record
record Passes (g : Grid) (rs : List Record) (i : ℕ) : Type 0 where
  pub tile : has_tile g (tile_of rs i) ≡ true
  pub parent : parent_fits (parent_of rs i) i ≡ true
  pub side : beside_parent g rs i ≡ true
  pub alone : stands_earlier rs i ≡ false

passes : (g : Grid) (rs : List Record) (i : ℕ) → record_fault g rs i ≡ None → Passes g rs i
passes g rs i e =
    let a = or_else_none (unless (has_tile g (tile_of rs i)) (OffGrid i)) _ e in
    let b = or_else_none (unless (parent_fits (parent_of rs i) i) (Parent i)) _ a.1 in
    let c = or_else_none (unless (beside_parent g rs i) (Apart i)) _ b.1 in
    record {
      tile = unless_none (has_tile g (tile_of rs i)) (OffGrid i) a.0;
      parent = unless_none (parent_fits (parent_of rs i) i) (Parent i) b.0;
      side = unless_none (beside_parent g rs i) (Apart i) c.0;
      alone = not-true (stands_earlier rs i) (unless_none (not (stands_earlier rs i)) (Repeated i) c.1);
    }

passed : (g : Grid) (rs : List Record) (i : ℕ) → Passes g rs i → record_fault g rs i ≡ None
passed g rs i p =
    both_none (unless (has_tile g (tile_of rs i)) (OffGrid i)) _ (unless_clear (has_tile g (tile_of rs i)) (OffGrid i) p.tile)
    (both_none (unless (parent_fits (parent_of rs i) i) (Parent i)) _ (unless_clear (parent_fits (parent_of rs i) i) (Parent i) p.parent)
    (both_none (unless (beside_parent g rs i) (Apart i)) _ (unless_clear (beside_parent g rs i) (Apart i) p.side)
    (unless_clear (not (stands_earlier rs i)) (Repeated i) (not_from_false (stands_earlier rs i) p.alone))))

none_below : (q : ℕ → Bool) (n : ℕ) → ((i : ℕ) → i < n → q i ≡ false) → some_below q n ≡ false
none_below q zero h = refl
none_below q (suc n) h = ap (λ (b : Bool). b || q n) (none_below q n (λ i l. h i (omega arith))) ∙ h n (omega arith)

some_found : (q : ℕ → Bool) (n k : ℕ) → k < n → q k ≡ true → some_below q n ≡ true
some_found q zero k h e = absurd (omega arith)
some_found q (suc n) k h e =
    ⊎_elim
    (λ (d : k ≡ n). or_right (some_below q n) (q n) (subst (λ (j : ℕ). q j ≡ true) d e))
    (λ (d : k ≡ n → ⊥). or_left (some_below q n) (q n) (some_found q n k (earlier d) e))
    (cases_eq k n)
  where
    earlier : (k ≡ n → ⊥) → k < n
    earlier d = grind (arith, d)

module _ (g : Grid) (rs : List Record) where
  pub proper_if : is_route g rs ≡ true → Proper g rs
  proper_if e =
      let none = nothing_none (route_fault g rs) e in
      let a = or_else_none (unless (right_count (length rs)) (Count (length rs))) _ none in
      let b = or_else_none (lowest (record_fault g rs) (length rs)) (lowest (end_fault rs) (length rs)) a.1 in
      let count = and_parts (leb 1 (length rs)) (leb (length rs) most_records) (unless_none (right_count (length rs)) (Count (length rs)) a.0) in
      let some : 1 ≤ length rs = leb-true 1 (length rs) count.0 in
      let each : (i : ℕ) → i < length rs → Passes g rs i = λ i h. passes g rs i (lowest_none (record_fault g rs) (length rs) b.0 i h) in
      record {
        some = some;
        not_many = leb-true (length rs) most_records count.1;
        on_grid = λ i h. (each i h).tile;
        driver = eqb-true (parent_of rs 0) 0 (each 0 some).parent;
        earlier = λ i pos h. let p = (each i h).parent in grind (arith, nat_tests);
        beside = λ i pos h. later i pos (neighbours g (tile_of rs i) (tile_of rs (parent_of rs i))) (each i h).side;
        apart = λ i j l h d. eqb-false (tile_of rs i) (tile_of rs j) (some_below_none (λ k. eqb (tile_of rs k) (tile_of rs j)) j (each j h).alone i l) d;
        ends = λ i h s. some_below_found (is_child rs i) (length rs) (second (sink_at rs i) (has_child rs i) s (unless_none (sink_at rs i || has_child rs i) (Useless i) (lowest_none (end_fault rs) (length rs) b.1 i h)));
      }
    where
      later : (i : ℕ) → 0 < i → (b : Bool) → (eqb i 0 || b) ≡ true → b ≡ true
      later i pos b e = ⊎_elim (λ x. absurd (omega (arith, eqb-true i 0 x))) (λ x. x) (or_cases (eqb i 0) b e)

      second : (a b : Bool) → a ≡ false → (a || b) ≡ true → b ≡ true
      second a b x y = sym (ap (λ (z : Bool). z || b) x) ∙ y

  pub route_if : Proper g rs → is_route g rs ≡ true
  route_if p =
      ap nothing_wrong
      (both_none (unless (right_count (length rs)) (Count (length rs))) _ (unless_clear (right_count (length rs)) (Count (length rs)) (and_from (leb 1 (length rs)) (leb (length rs) most_records) (le-leb 1 (length rs) p.some) (le-leb (length rs) most_records p.not_many)))
      (both_none (lowest (record_fault g rs) (length rs)) (lowest (end_fault rs) (length rs)) (lowest_clear (record_fault g rs) (length rs) (λ i h. passed g rs i (each i h))) (lowest_clear (end_fault rs) (length rs) (λ i h. unless_clear (sink_at rs i || has_child rs i) (Useless i) (ended i h (sink_at rs i) refl)))))
    where
      parent : (i : ℕ) → i < length rs → parent_fits (parent_of rs i) i ≡ true
      parent zero h = eq-eqb (parent_of rs 0) 0 p.driver
      parent (suc i) h = let l = p.earlier (suc i) (omega arith) h in grind (arith, nat_tests)

      side : (i : ℕ) → i < length rs → beside_parent g rs i ≡ true
      side zero h = refl
      side (suc i) h = or_right (eqb (suc i) 0) (neighbours g (tile_of rs (suc i)) (tile_of rs (parent_of rs (suc i)))) (p.beside (suc i) (omega arith) h)

      each : (i : ℕ) → i < length rs → Passes g rs i
      each i h = record {
        tile = p.on_grid i h;
        parent = parent i h;
        side = side i h;
        alone = none_below (λ k. eqb (tile_of rs k) (tile_of rs i)) i (λ j l. ne_eqb (tile_of rs j) (tile_of rs i) (p.apart j i l h));
      }

      ended : (i : ℕ) → i < length rs → (b : Bool) → sink_at rs i ≡ b → (b || has_child rs i) ≡ true
      ended i h true e = refl
      ended i h false e = let k = p.ends i h e in some_found (is_child rs i) (length rs) k.0 k.1 k.2

  -- what the check answers tells whether the records are a route
  pub exactly : {A : Type 0} (r : Result A RouteFault) → fault_of r ≡ route_fault g rs → Decides (is_ok r) (Proper g rs)
  exactly (Ok a) e = (λ h. proper_if (ap nothing_wrong (sym e)), λ p. refl)
  exactly (Err f) e = (λ h. proper_if (ap nothing_wrong (sym e) ∙ h), λ p. ap nothing_wrong e ∙ route_if p)

-- the records of a route
pub proper : (r : Route) → Proper r.grid (records_of r)
proper r = proper_if r.grid (records_of r) r.checked
