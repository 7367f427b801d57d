-- Boundary numbers fit pairs of neighbours one to one.
use Rattle.std.proofs.Common.{◌≡◌, ℕ, ◌+◌, ◌-◌, ◌*◌, ◌/◌, ◌%◌, ◌<◌, true, ◌&&◌, eqb, ltb, ◌⊎◌, Some, None, Option, sym, refl, ap, ◌∙◌, subst, inl, inr, ⊎_elim, mul-zero, arith}
use Rattle.std.proofs.lemmas.Nat.{mul-add-lt, div-mul-add, mod-mul-add, div_below, mod_below, div-add-mod'}
use Rattle.std.proofs.lemmas.Bool.{and_parts, and_from, or_cases, ltb-true, lt-ltb, eqb-true, cond-true, cond-false, cases_lt, cases_Bool}
use Rattle.std.proofs.lemmas.Bool.Decides.{nat_tests}
use Rattle.grid.specs.declared.shape.Grid.{Grid}
use Rattle.grid.specs.Tiles.{Place, number, place, has_place, has_tile}
use Rattle.grid.specs.Boundaries.{one_apart, share_a_side, neighbours, boundary_count, boundary_right, boundary_below, boundary_at, boundary_between, BoundaryEitherWay, BoundaryCounted, BoundaryTellsPair, EachBoundaryHasPair}
use Rattle.grid.proofs.Numbering.{number_tells_place, place_tells_number}

-- s is the left one, or the upper one, of two neighbours with the boundary b between them
pub data Lies (g : Grid) (s t b : ℕ) : Type 0 where
  across : (r k : ℕ) → r < g.rows → k + 1 < g.columns → s ≡ number g (r, k) → t ≡ number g (r, k + 1) → b ≡ boundary_right g (r, k) → Lies g s t b
  down : (r k : ℕ) → r + 1 < g.rows → k < g.columns → s ≡ number g (r, k) → t ≡ number g (r + 1, k) → b ≡ boundary_below g (r, k) → Lies g s t b

-- the four ways to share a side
pub four : (a b c d : ℕ) → share_a_side (a, b) (c, d) ≡ true → ((a ≡ c) × (b + 1 ≡ d)) ⊎ (((a ≡ c) × (d + 1 ≡ b)) ⊎ (((b ≡ d) × (a + 1 ≡ c)) ⊎ ((b ≡ d) × (c + 1 ≡ a))))
four a b c d h =
    ⊎_elim
    (λ e. let f = and_parts (eqb a c) (one_apart b d) e in
    ⊎_elim
    (λ x. inl (eqb-true a c f.0, eqb-true (b + 1) d x))
    (λ x. inr (inl (eqb-true a c f.0, eqb-true (d + 1) b x)))
    (or_cases (eqb (b + 1) d) (eqb (d + 1) b) f.1))
    (λ e. let f = and_parts (eqb b d) (one_apart a c) e in
    ⊎_elim
    (λ x. inr (inr (inl (eqb-true b d f.0, eqb-true (a + 1) c x))))
    (λ x. inr (inr (inr (eqb-true b d f.0, eqb-true (c + 1) a x))))
    (or_cases (eqb (a + 1) c) (eqb (c + 1) a) f.1))
    (or_cases (eqb a c && one_apart b d) (eqb b d && one_apart a c) h)

on_grid : (g : Grid) (r k : ℕ) → r < g.rows → k < g.columns → has_place g (r, k) ≡ true
on_grid g r k h l = and_from (ltb r g.rows) (ltb k g.columns) (lt-ltb r g.rows h) (lt-ltb k g.columns l)

-- two places that share a side have a boundary between their tiles
between_places : (g : Grid) (p q : Place) → has_place g p ≡ true → has_place g q ≡ true → share_a_side p q ≡ true → boundary_between g (number g p) (number g q) ≡ Some (boundary_at g p q)
between_places g p q hp hq h =
    let a = number_tells_place g p hp in
    let b = number_tells_place g q hq in
    let sides : share_a_side (place g (number g p)) (place g (number g q)) ≡ true =
    subst (λ (x : Place). share_a_side x (place g (number g q)) ≡ true) (sym a.1) (subst (λ (y : Place). share_a_side p y ≡ true) (sym b.1) h) in
    let same : boundary_at g (place g (number g p)) (place g (number g q)) ≡ boundary_at g p q = λ i. boundary_at g (a.1 i) (b.1 i) in
    cond-true
    (neighbours g (number g p) (number g q))
    (Some (boundary_at g (place g (number g p)) (place g (number g q))))
    None
    (and_from
    (has_tile g (number g p) && has_tile g (number g q))
    (share_a_side (place g (number g p)) (place g (number g q)))
    (and_from (has_tile g (number g p)) (has_tile g (number g q)) a.0 b.0)
    sides)
    ∙ ap (λ (n : ℕ). Some n) same

at_tiles : (g : Grid) (s t b : ℕ) (p q : Place) → s ≡ number g p → t ≡ number g q → boundary_at g p q ≡ b → boundary_between g (number g p) (number g q) ≡ Some (boundary_at g p q) → boundary_between g s t ≡ Some b
at_tiles g s t b p q e f same h = (λ i. boundary_between g (e i) (f i)) ∙ (h ∙ ap (λ (n : ℕ). Some n) same)

-- neighbours that lie so have that boundary, whichever is named first
pub lies_forth : (g : Grid) (s t b : ℕ) → Lies g s t b → boundary_between g s t ≡ Some b
lies_forth g s t b (across r k h l e f m) =
    at_tiles g s t b (r, k) (r, k + 1) e f (grind (arith, nat_tests)) (between_places g (r, k) (r, k + 1) (on_grid g r k h (omega arith)) (on_grid g r (k + 1) h l) (grind (arith, nat_tests)))
lies_forth g s t b (down r k h l e f m) =
    at_tiles g s t b (r, k) (r + 1, k) e f (grind (arith, nat_tests)) (between_places g (r, k) (r + 1, k) (on_grid g r k (omega arith) l) (on_grid g (r + 1) k h l) (grind (arith, nat_tests)))

pub lies_back : (g : Grid) (s t b : ℕ) → Lies g s t b → boundary_between g t s ≡ Some b
lies_back g s t b (across r k h l e f m) =
    at_tiles g t s b (r, k + 1) (r, k) f e (grind (arith, nat_tests)) (between_places g (r, k + 1) (r, k) (on_grid g r (k + 1) h l) (on_grid g r k h (omega arith)) (grind (arith, nat_tests)))
lies_back g s t b (down r k h l e f m) =
    at_tiles g t s b (r + 1, k) (r, k) f e (grind (arith, nat_tests)) (between_places g (r + 1, k) (r, k) (on_grid g (r + 1) k h l) (on_grid g r k (omega arith) l) (grind (arith, nat_tests)))

-- how two tiles lie whose places share a side
lies_at : (g : Grid) (s t n a b c d : ℕ) → has_place g (a, b) ≡ true → has_place g (c, d) ≡ true → s ≡ number g (a, b) → t ≡ number g (c, d) → share_a_side (a, b) (c, d) ≡ true → boundary_at g (a, b) (c, d) ≡ n → Lies g s t n ⊎ Lies g t s n
lies_at g s t n a b c d hp hq e f h m =
    let p = and_parts (ltb a g.rows) (ltb b g.columns) hp in
    let q = and_parts (ltb c g.rows) (ltb d g.columns) hq in
    let a< : a < g.rows = ltb-true a g.rows p.0 in
    let b< : b < g.columns = ltb-true b g.columns p.1 in
    let c< : c < g.rows = ltb-true c g.rows q.0 in
    let d< : d < g.columns = ltb-true d g.columns q.1 in
    ⊎_elim
    (λ x. inl (across a b a< (omega arith) e (f ∙ (λ i. number g (sym x.0 i, sym x.1 i))) (grind (arith, nat_tests))))
    (⊎_elim
    (λ x. inr (across c d c< (omega arith) f (e ∙ (λ i. number g (x.0 i, sym x.1 i))) (grind (arith, nat_tests))))
    (⊎_elim
    (λ x. inl (down a b (omega arith) b< e (f ∙ (λ i. number g (sym x.1 i, sym x.0 i))) (grind (arith, nat_tests))))
    (λ x. inr (down c d (omega arith) d< f (e ∙ (λ i. number g (sym x.1 i, x.0 i))) (grind (arith, nat_tests))))))
    (four a b c d h)

-- how two tiles lie that have a boundary between them
pub lies : (g : Grid) (s t b : ℕ) → boundary_between g s t ≡ Some b → Lies g s t b ⊎ Lies g t s b
lies g s t b h =
    ⊎_elim
    (λ e.
    let parts = and_parts (has_tile g s && has_tile g t) (share_a_side (place g s) (place g t)) e in
    let tiles = and_parts (has_tile g s) (has_tile g t) parts.0 in
    let at_s = place_tells_number g s tiles.0 in
    let at_t = place_tells_number g t tiles.1 in
    let told : boundary_between g s t ≡ Some (boundary_at g (place g s) (place g t)) = cond-true (neighbours g s t) (Some (boundary_at g (place g s) (place g t))) None e in
    let same : boundary_at g (place g s) (place g t) ≡ b = cc in
    lies_at g s t b (s / g.columns) (s % g.columns) (t / g.columns) (t % g.columns) at_s.0 at_t.0 (sym at_s.1) (sym at_t.1) parts.1 same)
    (λ e.
    let told : boundary_between g s t ≡ None = cond-false (neighbours g s t) (Some (boundary_at g (place g s) (place g t))) None e in
    let z : ◌≡◌ {A = ℕ} 0 1 = cc in
    absurd (omega arith))
    (cases_Bool (neighbours g s t))

-- a row and a column are known from where they lie in rows of w
unique : (w a b c d : ℕ) → b < w → d < w → a * w + b ≡ c * w + d → (a ≡ c) × (b ≡ d)
unique w a b c d h l e = (sym (div-mul-add a w b h) ∙ (ap (λ (n : ℕ). n / w) e ∙ div-mul-add c w d l), sym (mod-mul-add a w b h) ∙ (ap (λ (n : ℕ). n % w) e ∙ mod-mul-add c w d l))

same_number : (g : Grid) (s u : ℕ) (p q : Place) → s ≡ number g p → u ≡ number g q → p.0 ≡ q.0 → p.1 ≡ q.1 → s ≡ u
same_number g s u p q e f x y = e ∙ ((λ i. number g (x i, y i)) ∙ sym f)

-- the boundary tells the two tiles, the left or upper one first
pub one_pair : (g : Grid) (s t u v b : ℕ) → Lies g s t b → Lies g u v b → (s ≡ u) × (t ≡ v)
one_pair g s t u v b (across r k h l e f m) (across r' k' h' l' e' f' m') =
    let x = unique (g.columns - 1) r k r' k' (omega arith) (omega arith) (sym m ∙ m') in
    (same_number g s u (r, k) (r', k') e e' x.0 x.1, same_number g t v (r, k + 1) (r', k' + 1) f f' x.0 (ap (λ (n : ℕ). n + 1) x.1))
one_pair g s t u v b (across r k h l e f m) (down r' k' h' l' e' f' m') =
    absurd (omega (arith, mul-add-lt r (g.columns - 1) k g.rows h (omega arith)))
one_pair g s t u v b (down r k h l e f m) (across r' k' h' l' e' f' m') =
    absurd (omega (arith, mul-add-lt r' (g.columns - 1) k' g.rows h' (omega arith)))
one_pair g s t u v b (down r k h l e f m) (down r' k' h' l' e' f' m') =
    let x = unique g.columns r k r' k' l l' (omega arith) in
    (same_number g s u (r, k) (r', k') e e' x.0 x.1, same_number g t v (r + 1, k) (r' + 1, k') f f' (ap (λ (n : ℕ). n + 1) x.0) x.1)

pub lies_counted : (g : Grid) (s t b : ℕ) → Lies g s t b → b < boundary_count g
lies_counted g s t b (across r k h l e f m) = omega (arith, mul-add-lt r (g.columns - 1) k g.rows h (omega arith))
lies_counted g s t b (down r k h l e f m) = omega (arith, mul-add-lt r g.columns k (g.rows - 1) (omega arith) l)

-- each number below the count lies between two tiles
pub some_pair : (g : Grid) (b : ℕ) → b < boundary_count g → (s : ℕ) × (t : ℕ) × Lies g s t b
some_pair g b h =
    ⊎_elim
    (λ x.
    let wide : 0 < g.columns - 1 = ⊎_elim (λ y. y) (λ y. let none : g.columns - 1 ≡ 0 = omega arith in let z : g.rows * (g.columns - 1) ≡ 0 = ap (λ (n : ℕ). g.rows * n) none ∙ mul-zero g.rows in absurd (omega arith)) (cases_lt 0 (g.columns - 1)) in
    let r : ℕ = b / (g.columns - 1) in
    let k : ℕ = b % (g.columns - 1) in
    let k< : k < g.columns - 1 = mod_below b (g.columns - 1) wide in
    (number g (r, k), number g (r, k + 1), across r k (div_below b (g.columns - 1) g.rows wide x) (omega arith) refl refl (sym (div-add-mod' b (g.columns - 1)))))
    (λ x.
    let c : ℕ = b - g.rows * (g.columns - 1) in
    let c< : c < (g.rows - 1) * g.columns = omega arith in
    let r : ℕ = c / g.columns in
    let k : ℕ = c % g.columns in
    let r< : r < g.rows - 1 = div_below c g.columns (g.rows - 1) g.some_columns c< in
    let again : r * g.columns + k ≡ c = div-add-mod' c g.columns in
    (number g (r, k), number g (r + 1, k), down r k (omega arith) (mod_below c g.columns g.some_columns) refl refl (omega arith)))
    (cases_lt b (g.rows * (g.columns - 1)))

pub counted : (g : Grid) → BoundaryCounted g
counted g s t b h = ⊎_elim (lies_counted g s t b) (lies_counted g t s b) (lies g s t b h)

pub tells_pair : (g : Grid) → BoundaryTellsPair g
tells_pair g s t u v b h l =
    ⊎_elim
    (λ x. ⊎_elim (λ y. inl (one_pair g s t u v b x y)) (λ y. inr (one_pair g s t v u b x y)) (lies g u v b l))
    (λ x.
    ⊎_elim
    (λ y. let e = one_pair g t s u v b x y in inr (e.1, e.0))
    (λ y. let e = one_pair g t s v u b x y in inl (e.1, e.0))
    (lies g u v b l))
    (lies g s t b h)

pub each_has_pair : (g : Grid) → EachBoundaryHasPair g
each_has_pair g b h = let x = some_pair g b h in (x.0, x.1, lies_forth g x.0 x.1 b x.2)

-- what one order answers, the other does
turned : (g : Grid) (s t b : ℕ) → boundary_between g s t ≡ Some b → boundary_between g t s ≡ Some b
turned g s t b h = ⊎_elim (lies_back g s t b) (lies_forth g t s b) (lies g s t b h)

pub either_way : (g : Grid) → BoundaryEitherWay g
either_way g s t = go (boundary_between g s t) (boundary_between g t s) refl refl
  where
    go : (x y : Option ℕ) → boundary_between g s t ≡ x → boundary_between g t s ≡ y → boundary_between g s t ≡ boundary_between g t s
    go (Some b) y e f = e ∙ sym (turned g s t b e)
    go None (Some b) e f = turned g t s b f ∙ sym f
    go None None e f = e ∙ sym f
