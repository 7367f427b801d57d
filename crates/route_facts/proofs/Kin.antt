-- An index has at most four children, and at most three past the driver: each stands in another neighbour of its tile.
use Rattle.std.proofs.Common.{◌≡◌, ℕ, zero, suc, ◌+◌, ◌-◌, ◌<◌, ◌≤◌, Bool, true, false, cond, ◌&&◌, eqb, ltb, List, [], ◌∷◌, length, get_or, take, drop, count_by, sym, refl, ap, ◌∙◌, subst, ⊎_elim, add-one, arith}
use Rattle.std.proofs.lemmas.Bool.{and_parts, ltb-true, lt-ltb, eqb-true, eq-eqb, ne_eqb, cases_Bool}
use Rattle.std.specs.List.{filter}
use Rattle.std.proofs.lemmas.List.{length-drop, take_all, drop_all}
use Rattle.std.proofs.lemmas.List.Sums.{length-filter}
use Rattle.std.proofs.Math.Seq.{drop-cons}
use Rattle.grid.specs.declared.shape.Grid.{Grid}
use Rattle.grid.specs.Boundaries.{share_a_side, neighbours}
use Rattle.grid.specs.Tiles.{number, place, has_tile}
use Rattle.grid.proofs.Numbering.{place_tells_number}
use Rattle.grid.proofs.Pairs.{four}
use Rattle.net.specs.Checked.{records_of}
use Rattle.net.specs.declared.records.Route.{Route}
use Rattle.net.specs.declared.records.record.Record.{Record}
use Rattle.net.specs.Proper.{Proper}
use Rattle.net.specs.Routes.{no_record, tile_of, parent_of, is_child}
use Rattle.net.proofs.Properly.{proper}
use Rattle.length_rule.specs.Children.{indices, kept, sum_over}
use Rattle.length_rule.proofs.Sums.{sum_none, sum_one, sum_two, sum_from, from_first, from_later}
use Rattle.length_rule.proofs.Unique.{child_later}
use Rattle.route_facts.specs.Facts.{child_count, FewChildren}
use Rattle.route_facts.proofs.Crossings.{same_index}

abbrev one_if : Bool → ℕ
one_if b = cond b 1 0

pub length_kept : (q : ℕ → Bool) (ks : List ℕ) → length (kept q ks) ≡ sum_over ks (λ k. one_if (q k))
length_kept q [] = refl
length_kept q (k ∷ ks) = go (q k) (length_kept q ks)
  where
    go : (b : Bool) → length (kept q ks) ≡ sum_over ks (λ j. one_if (q j)) → length (cond b (k ∷ kept q ks) (kept q ks)) ≡ one_if b + sum_over ks (λ j. one_if (q j))
    go true e = omega (arith, e)
    go false e = omega (arith, e)

sum_at_most : (f g : ℕ → ℕ) (n : ℕ) → ((k : ℕ) → k < n → f k ≤ g k) → sum_over (indices n) f ≤ sum_over (indices n) g
sum_at_most f g zero h = omega arith
sum_at_most f g (suc n) h = omega (arith, h n (omega arith), sum_at_most f g n (λ k l. h k (omega arith)))

-- a test that no two indices pass
at_most_one : (q : ℕ → Bool) (n : ℕ) → ((i j : ℕ) → i < n → j < n → q i ≡ true → q j ≡ true → i ≡ j) → sum_over (indices n) (λ k. one_if (q k)) ≤ 1
at_most_one q zero h = omega arith
at_most_one q (suc n) h = go (q n) refl (at_most_one q n (λ i j a b. h i j (omega arith) (omega arith)))
  where
    go : (b : Bool) → q n ≡ b → sum_over (indices n) (λ k. one_if (q k)) ≤ 1 → one_if b + sum_over (indices n) (λ k. one_if (q k)) ≤ 1
    go true e rest = omega (arith, sum_none (λ k. one_if (q k)) n (λ k l. ⊎_elim (λ x. absurd (omega (arith, h k n (omega arith) (omega arith) x e))) (λ x. ap one_if x) (cases_Bool (q k))))
    go false e rest = omega (arith, rest)

-- the tiles beside the place (a, b), if there are such
module _ (g : Grid) (a b t : ℕ) where
  abbrev beside_count : ℕ
  beside_count = one_if (eqb t (number g (a, b + 1))) + (one_if (eqb t (number g (a, b - 1))) + (one_if (eqb t (number g (a + 1, b))) + one_if (eqb t (number g (a - 1, b)))))

  is_one : (u : ℕ) → t ≡ u → one_if (eqb t u) ≡ 1
  is_one u e = ap one_if (eq-eqb t u e)

  beside_some : (c d : ℕ) → t ≡ number g (c, d) → share_a_side (c, d) (a, b) ≡ true → 1 ≤ beside_count
  beside_some c d e s =
      ⊎_elim
      (λ x. omega (arith, is_one (number g (a, b - 1)) (e ∙ (λ i. number g (x.0 i, below d b x.1 i)))))
      (⊎_elim
      (λ x. omega (arith, is_one (number g (a, b + 1)) (e ∙ (λ i. number g (x.0 i, sym x.1 i)))))
      (⊎_elim
      (λ x. omega (arith, is_one (number g (a - 1, b)) (e ∙ (λ i. number g (below c a x.1 i, x.0 i)))))
      (λ x. omega (arith, is_one (number g (a + 1, b)) (e ∙ (λ i. number g (sym x.1 i, x.0 i)))))))
      (four c d a b s)
    where
      below : (m n : ℕ) → m + 1 ≡ n → m ≡ n - 1
      below m n x = omega arith

  beside_turned : (c d : ℕ) → t ≡ number g (c, d) → share_a_side (a, b) (c, d) ≡ true → 1 ≤ beside_count
  beside_turned c d e s =
      ⊎_elim
      (λ x. omega (arith, is_one (number g (a, b + 1)) (e ∙ (λ i. number g (sym x.0 i, sym x.1 i)))))
      (⊎_elim
      (λ x. omega (arith, is_one (number g (a, b - 1)) (e ∙ (λ i. number g (sym x.0 i, below d b x.1 i)))))
      (⊎_elim
      (λ x. omega (arith, is_one (number g (a + 1, b)) (e ∙ (λ i. number g (sym x.1 i, sym x.0 i)))))
      (λ x. omega (arith, is_one (number g (a - 1, b)) (e ∙ (λ i. number g (below c a x.1 i, sym x.0 i)))))))
      (four a b c d s)
    where
      below : (m n : ℕ) → m + 1 ≡ n → m ≡ n - 1
      below m n x = omega arith

module _ (g : Grid) (rs : List Record) (p : Proper g rs) (i : ℕ) (h : i < length rs) where
  near : ℕ → ℕ
  near k = beside_count g (place g (tile_of rs i)).0 (place g (tile_of rs i)).1 (tile_of rs k)

  -- a tile that is a neighbour of i's
  near_some : (k : ℕ) → k < length rs → neighbours g (tile_of rs k) (tile_of rs i) ≡ true → 1 ≤ near k
  unfolding near
  near_some k l e =
      let parts = and_parts (has_tile g (tile_of rs k) && has_tile g (tile_of rs i)) (share_a_side (place g (tile_of rs k)) (place g (tile_of rs i))) e in
      beside_some g (place g (tile_of rs i)).0 (place g (tile_of rs i)).1 (tile_of rs k) (place g (tile_of rs k)).0 (place g (tile_of rs k)).1 (sym (place_tells_number g (tile_of rs k) (p.on_grid k l)).1) parts.1

  near_turned : (k : ℕ) → k < length rs → neighbours g (tile_of rs i) (tile_of rs k) ≡ true → 1 ≤ near k
  unfolding near
  near_turned k l e =
      let parts = and_parts (has_tile g (tile_of rs i) && has_tile g (tile_of rs k)) (share_a_side (place g (tile_of rs i)) (place g (tile_of rs k))) e in
      beside_turned g (place g (tile_of rs i)).0 (place g (tile_of rs i)).1 (tile_of rs k) (place g (tile_of rs k)).0 (place g (tile_of rs k)).1 (sym (place_tells_number g (tile_of rs k) (p.on_grid k l)).1) parts.1

  one_tile : (t : ℕ) → sum_over (indices (length rs)) (λ k. one_if (eqb (tile_of rs k) t)) ≤ 1
  one_tile t = at_most_one (λ k. eqb (tile_of rs k) t) (length rs) (λ j k a b x y. same_index g rs p j k a b (eqb-true (tile_of rs j) t x ∙ sym (eqb-true (tile_of rs k) t y)))

  four_near : sum_over (indices (length rs)) near ≤ 4
  unfolding near
  four_near =
      let a : ℕ = (place g (tile_of rs i)).0 in
      let b : ℕ = (place g (tile_of rs i)).1 in
      let at : ℕ → ℕ → ℕ = λ t k. one_if (eqb (tile_of rs k) t) in
      omega (
        arith,
        sum_two (at (number g (a, b + 1))) (λ k. at (number g (a, b - 1)) k + (at (number g (a + 1, b)) k + at (number g (a - 1, b)) k)) (length rs),
        sum_two (at (number g (a, b - 1))) (λ k. at (number g (a + 1, b)) k + at (number g (a - 1, b)) k) (length rs),
        sum_two (at (number g (a + 1, b))) (at (number g (a - 1, b))) (length rs),
        one_tile (number g (a, b + 1)),
        one_tile (number g (a, b - 1)),
        one_tile (number g (a + 1, b)),
        one_tile (number g (a - 1, b)),
      )

  child_near : (k : ℕ) → k < length rs → is_child rs i k ≡ true → 1 ≤ near k
  child_near k l e =
      let both = and_parts (ltb 0 k) (eqb (parent_of rs k) i) e in
      near_some k l (subst (λ (j : ℕ). neighbours g (tile_of rs k) (tile_of rs j) ≡ true) (eqb-true (parent_of rs k) i both.1) (p.beside k (ltb-true 0 k both.0) l))

  children_near : child_count rs i ≤ 4
  children_near =
      omega (
        arith,
        length_kept (is_child rs i) (indices (length rs)),
        four_near,
        sum_at_most (λ k. one_if (is_child rs i k)) near (length rs) (λ k l. go k l (is_child rs i k) refl),
      )
    where
      go : (k : ℕ) → k < length rs → (b : Bool) → is_child rs i k ≡ b → one_if b ≤ near k
      go k l true e = child_near k l e
      go k l false e = omega arith

  -- the parent stands in a neighbour too
  past_driver : 0 < i → child_count rs i ≤ 3
  past_driver pos =
      omega (
        arith,
        length_kept (is_child rs i) (indices (length rs)),
        four_near,
        sum_at_most (λ k. one_if (is_child rs i k) + one_if (eqb k (parent_of rs i))) near (length rs) (λ k l. go k l (is_child rs i k) (eqb k (parent_of rs i)) refl refl),
        sum_two (λ k. one_if (is_child rs i k)) (λ k. one_if (eqb k (parent_of rs i))) (length rs),
        sum_one (λ k. one_if (eqb k (parent_of rs i))) (length rs) (parent_of rs i) (omega (arith, before)) (λ k l d. ap one_if (ne_eqb k (parent_of rs i) d)),
        ap one_if (eq-eqb (parent_of rs i) (parent_of rs i) refl),
      )
    where
      before : parent_of rs i < i
      before = p.earlier i pos h

      go : (k : ℕ) → k < length rs → (a b : Bool) → is_child rs i k ≡ a → eqb k (parent_of rs i) ≡ b → one_if a + one_if b ≤ near k
      go k l true true e f = absurd (omega (arith, child_later rs p.earlier i k l e, eqb-true k (parent_of rs i) f, p.earlier i pos h))
      go k l true false e f = omega (arith, child_near k l e)
      go k l false true e f = omega (arith, near_turned k l (subst (λ (j : ℕ). neighbours g (tile_of rs i) (tile_of rs j) ≡ true) (sym (eqb-true k (parent_of rs i) f)) (p.beside i pos h)))
      go k l false false e f = omega arith

pub few_children : (g : Grid) (rs : List Record) → Proper g rs → FewChildren rs
few_children g rs p i h = (children_near g rs p i h, past_driver g rs p i h)

pub few_children_of : (r : Route) → FewChildren (records_of r)
few_children_of r = few_children r.grid (records_of r) (proper r)

-- one index more
pub kept_more : (rs : List Record) (i k n : ℕ) (b : Bool) → 0 < k → eqb (parent_of rs k) i ≡ b → n ≡ length (kept (is_child rs i) (indices k)) → one_if b + n ≡ length (kept (is_child rs i) (indices (k + 1)))
kept_more rs i k n b pos e f =
    let child : is_child rs i k ≡ b = ap (λ (x : Bool). x && eqb (parent_of rs k) i) (lt-ltb 0 k pos) ∙ e in
    subst (λ (m : ℕ). one_if b + n ≡ length (kept (is_child rs i) (indices m))) (sym (add-one k)) (go b child)
  where
    go : (c : Bool) → is_child rs i k ≡ c → one_if c + n ≡ length (cond (is_child rs i k) (k ∷ kept (is_child rs i) (indices k)) (kept (is_child rs i) (indices k)))
    go c d = subst (λ (x : Bool). one_if c + n ≡ length (cond x (k ∷ kept (is_child rs i) (indices k)) (kept (is_child rs i) (indices k)))) (sym d) (at c)
      where
        at : (c : Bool) → one_if c + n ≡ length (cond c (k ∷ kept (is_child rs i) (indices k)) (kept (is_child rs i) (indices k)))
        at true = omega (arith, f)
        at false = omega (arith, f)

-- the records from s on that name this parent
named_from : (rs : List Record) (i c s : ℕ) → s + c ≡ length rs → 0 < s → length (filter (λ (r : Record). eqb r.parent i) (drop s rs)) ≡ sum_from c s (λ k. one_if (is_child rs i k))
named_from rs i zero s e pos = ap (λ (xs : List Record). length (filter (λ (r : Record). eqb r.parent i) xs)) (drop_all s rs (omega arith))
named_from rs i (suc c) s e pos =
    let here : one_if (eqb (parent_of rs s) i) ≡ one_if (is_child rs i s) = ap (λ (b : Bool). one_if (b && eqb (parent_of rs s) i)) (sym (lt-ltb 0 s pos)) in
    ap (λ (xs : List Record). length (filter (λ (r : Record). eqb r.parent i) xs)) (drop-cons rs s no_record (omega arith))
    ∙ omega (arith, here, kept_first (eqb (parent_of rs s) i), named_from rs i c (suc s) (omega arith) (omega arith))
  where
    kept_first : (b : Bool) → length (cond b (get_or rs s no_record ∷ filter (λ (r : Record). eqb r.parent i) (drop (suc s) rs)) (filter (λ (r : Record). eqb r.parent i) (drop (suc s) rs))) ≡ one_if b + length (filter (λ (r : Record). eqb r.parent i) (drop (suc s) rs))
    kept_first true = omega arith
    kept_first false = omega arith

-- the first record is nobody's child
pub named_later : (r : Route) (rs : List Record) (i n : ℕ) → rs ≡ records_of r → n ≡ count_by (λ (x : Record). eqb x.parent i) (take (length rs - 1) (drop 1 rs)) → n ≡ child_count (records_of r) i
named_later r rs i n e counted =
    let some : 1 ≤ length rs = omega (arith, (proper r).some, ap length e) in
    let whole : 1 + (length rs - 1) ≡ length rs = omega arith in
    let f : ℕ → ℕ = λ k. one_if (is_child rs i k) in
    counted
    ∙ (ap (count_by (λ (x : Record). eqb x.parent i)) (take_all (length rs - 1) (drop 1 rs) (omega (arith, length-drop 1 rs)))
    ∙ (sym (length-filter (λ (x : Record). eqb x.parent i) (drop 1 rs))
    ∙ (named_from rs i (length rs - 1) 1 whole (omega arith)
    ∙ (from_later (length rs - 1) 1 f (λ k h. let z : 0 ≡ k = omega arith in subst (λ (j : ℕ). f j ≡ 0) z refl)
    ∙ (ap (λ (n : ℕ). sum_from n 0 f) whole ∙ (from_first (length rs) f ∙ (sym (length_kept (is_child rs i) (indices (length rs))) ∙ ap (λ (xs : List Record). child_count xs i) e)))))))
