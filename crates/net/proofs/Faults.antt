-- What the tests of one record settle, and how the marks of tiles and of parents go on.
use Rattle.std.proofs.Common.{◌≡◌, ℕ, ◌+◌, ◌<◌, ◌≤◌, Bool, true, false, not, ◌&&◌, ◌||◌, eqb, ltb, List, length, get_or, set, replicate, None, sym, refl, ap, ◌∙◌, subst, ⊎_elim, add-one, arith}
use Rattle.std.proofs.lemmas.Nat.{mul-le}
use Rattle.std.proofs.lemmas.List.{length-set, length-replicate, get_or-replicate, get_or-set_same, get_or-set_other}
use Rattle.std.proofs.lemmas.Bool.{eq-eqb, ne_eqb, cases_eq, ltb-true, lt-ltb}
use Rattle.grid.specs.declared.shape.Grid.{Grid}
use Rattle.grid.specs.Tiles.{tile_count, has_tile}
use Rattle.net.specs.declared.records.record.Record.{Record}
use Rattle.net.specs.Lowest.{or_else, unless, some_below}
use Rattle.net.specs.Marks.{TilesMarked, ParentsMarked}
use Rattle.net.specs.Routes.{tile_of, parent_of, is_child, parent_fits, beside_parent, stands_earlier, record_fault}
use Rattle.net.specs.declared.records.record.RouteFault.TheVariants.{OffGrid, Repeated}
use Rattle.net.proofs.Firsts.{or_else_none, unless_none}

pub tile_below : (g : Grid) (t : ℕ) → t < tile_count g → t < 4096
tile_below g t h = omega (arith, mul-le g.rows g.columns 64 64 g.rows_fit g.columns_fit)

last_test : {F : Type 0} (a b c d : Bool) (w x y z : F) → a ≡ true → b ≡ true → c ≡ true → or_else (unless a w) (or_else (unless b x) (or_else (unless c y) (unless (not d) z))) ≡ unless (not d) z
last_test true true true d w x y z e f g = refl
last_test true true false d w x y z e f g = cc
last_test true false c d w x y z e f g = cc
last_test false b c d w x y z e f g = cc

-- a record that passes the first three tests is wrong if its tile stands earlier
pub fourth_test : (g : Grid) (rs : List Record) (i : ℕ) (b : Bool) → has_tile g (tile_of rs i) ≡ true → parent_fits (parent_of rs i) i ≡ true → beside_parent g rs i ≡ true → stands_earlier rs i ≡ b → unless (not b) (Repeated i) ≡ record_fault g rs i
fourth_test g rs i b e f h s =
    ap (λ (x : Bool). unless (not x) (Repeated i)) (sym s) ∙ sym (last_test (has_tile g (tile_of rs i)) (parent_fits (parent_of rs i) i) (beside_parent g rs i) (stands_earlier rs i) _ _ _ (Repeated i) e f h)

unmarked : (n t : ℕ) → t < n → get_or (replicate n false) t false ≡ false
unmarked n t h = get_or-replicate n t false false h

-- before the first record no tile is marked
pub no_tile_marked : (rs : List Record) → TilesMarked rs 0 (replicate 4096 false)
no_tile_marked rs = (length-replicate 4096 false, λ t h. unmarked 4096 t h)

-- nothing wrong with a record: its tile is on the grid
pub record_on_grid : (g : Grid) (rs : List Record) (i : ℕ) → record_fault g rs i ≡ None → tile_of rs i < tile_count g
record_on_grid g rs i e = ltb-true (tile_of rs i) (tile_count g) (unless_none (has_tile g (tile_of rs i)) (OffGrid i) (or_else_none (unless (has_tile g (tile_of rs i)) (OffGrid i)) _ e).0)

or_true : (x y : Bool) → y ≡ true → (x || y) ≡ true
or_true true y e = refl
or_true false y e = e

or_same : (x y : Bool) → y ≡ false → (x || y) ≡ x
or_same true y e = refl
or_same false y e = e

-- a mark more, at the place where the next index passes the test
marked_more : (q : ℕ → ℕ → Bool) (i p size : ℕ) (marks : List Bool) → length marks ≡ size → p < size → ((t : ℕ) → q t i ≡ eqb p t)
    → ((t : ℕ) → t < size → get_or marks t false ≡ some_below (q t) i) → (t : ℕ) → t < size → get_or (set marks p true) t false ≡ some_below (q t) (i + 1)
marked_more q i p size marks e h same m t l =
    subst (λ (n : ℕ). get_or (set marks p true) t false ≡ some_below (q t) n) (sym (add-one i))
    (⊎_elim
    (λ (d : t ≡ p). subst (λ (x : ℕ). get_or (set marks p true) x false ≡ true) (sym d) (get_or-set_same marks p true false (omega arith)) ∙ sym (or_true (some_below (q t) i) (q t i) (same t ∙ eq-eqb p t (sym d))))
    (λ (d : t ≡ p → ⊥). get_or-set_other marks p t true false d ∙ (m t l ∙ sym (or_same (some_below (q t) i) (q t i) (same t ∙ ne_eqb p t (λ x. d (sym x))))))
    (cases_eq t p))

pub tile_marked : (rs : List Record) (i : ℕ) (seen : List Bool) → tile_of rs i < 4096 → TilesMarked rs i seen → TilesMarked rs (i + 1) (set seen (tile_of rs i) true)
tile_marked rs i seen h m = (length-set seen (tile_of rs i) true ∙ m.0, marked_more (λ t j. eqb (tile_of rs j) t) i (tile_of rs i) 4096 seen m.0 h (λ t. refl) m.1)

-- index 0 is nobody's child
pub no_parent_marked : (rs : List Record) → ParentsMarked rs 1 (replicate 256 false)
no_parent_marked rs = (length-replicate 256 false, λ t h. unmarked 256 t h)

first_not : (b : Bool) → (ltb 0 0 && b) ≡ false
first_not b = refl

later_child : (rs : List Record) (k t : ℕ) → 0 < k → is_child rs t k ≡ eqb (parent_of rs k) t
later_child rs k t h = ap (λ (x : Bool). x && eqb (parent_of rs k) t) (lt-ltb 0 k h)

pub parent_marked : (rs : List Record) (k : ℕ) (parents : List Bool) → 0 < k → parent_of rs k < 256 → ParentsMarked rs k parents → ParentsMarked rs (k + 1) (set parents (parent_of rs k) true)
parent_marked rs k parents pos h m = (length-set parents (parent_of rs k) true ∙ m.0, marked_more (λ t j. is_child rs t j) k (parent_of rs k) 256 parents m.0 h (λ t. later_child rs k t pos) m.1)

-- a parent past the marks is no index
pub parent_past : (rs : List Record) (k : ℕ) (parents : List Bool) → 0 < k → 256 ≤ parent_of rs k → ParentsMarked rs k parents → ParentsMarked rs (k + 1) parents
parent_past rs k parents pos h m = (
  m.0,
  λ t l. subst (λ (n : ℕ). get_or parents t false ≡ some_below (is_child rs t) n) (sym (add-one k))
      (m.1 t l ∙ sym (or_same (some_below (is_child rs t) k) (is_child rs t k) (later_child rs k t pos ∙ ne_eqb (parent_of rs k) t (λ e. omega arith)))),
)
