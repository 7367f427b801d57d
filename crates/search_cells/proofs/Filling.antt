-- A table in cells, filled child by child.
use Rattle.std.proofs.Common.{◌≡◌, ℕ, zero, suc, ◌+◌, ◌-◌, ◌*◌, ◌<◌, ◌≤◌, Bool, true, false, cond, ◌&&◌, eqb, ◌≢◌, ◌⊎◌, List, [], ◌∷◌, map, length, get_or, set, Some, None, Option, sym, refl, ap, ◌∙◌, subst, inl, inr, zero-le, eq-or-lt_of_le, add-one, arith, get_or-set_other, get_or-set_same}
use Rattle.std.proofs.lemmas.Bool.Decides.{nat_tests, eqb_tells}
use Rattle.search_cells.specs.Cells.{no_leg, branch_of, as_joined, table_of, HasRoom}
use Rattle.search_cells.specs.Lists.{last_first}
use Rattle.search_cells.specs.declared.Chosen.{Chosen}
use Rattle.search_cells.specs.declared.Priced.{Priced as Kept}
use Rattle.search_cells.specs.declared.Leg.{Leg}
use Rattle.search_theory.specs.Costs.{Kind, below}
use Rattle.search_theory.specs.Entries.{Priced, cheaper, cheapest, Row, given, Each}
use Rattle.search_theory.specs.Joining.{Branch, Table, start, tagged, join, charged, best_entry, headed, step, table}
use Rattle.search_theory.specs.Search.{no_branch}
use Rattle.search_theory.specs.Tree.{keep}
use Rattle.search_cells.proofs.Parts.{rows_apart}
use Rattle.search_cells.proofs.Pushing.{length_last_first}
use Rattle.search_cells.proofs.Turns.{cheapest_same}
use Rattle.search_theory.proofs.Best.{cheaper_each, cheapest_each}
use Rattle.search_theory.proofs.Rebuild.{length_map}

module _ {C V : Type 0} (o : Kind C) (held : V → C) where
  cleared_at : (cur : List (Option (Kept V Chosen))) (w : ℕ) (v : Option (Kept V Chosen)) → as_joined held v ≡ Some (record { cost = o.nothing; what = [] }) → 0 < length cur
      → (h j : ℕ) → get_or cur (h * w + j) None ≡ None → j < w → table_of held (set cur 0 v) w h j ≡ start o h j
  cleared_at cur w v is within h j none b = go (eq-or-lt_of_le zero-le) (eq-or-lt_of_le zero-le)
    where
      first : Option (Priced C (List Branch))
      first = Some (record { cost = o.nothing; what = [] })

      other : 0 < h * w + j → (eqb h 0 && eqb j 0) ≡ false → table_of held (set cur 0 v) w h j ≡ start o h j
      other p q =
          let ne : h * w + j ≢ 0 = omega arith in
          ap (as_joined held) (get_or-set_other cur 0 (h * w + j) v None ne ∙ none) ∙ sym (ap (λ b. cond b first None) q)

      go : (0 ≡ h) ⊎ (0 < h) → (0 ≡ j) ⊎ (0 < j) → table_of held (set cur 0 v) w h j ≡ start o h j
      go (inl e) (inl f) =
          let z : 0 * w ≡ 0 = omega arith in
          let y : h * w ≡ 0 = ap (λ n. n * w) (sym e) ∙ z in
          let eq : h * w + j ≡ 0 = omega (arith, y) in
          let q : (eqb h 0 && eqb j 0) ≡ true = grind (arith, nat_tests) in
          ap (λ i. as_joined held (get_or (set cur 0 v) i None)) eq ∙ ap (as_joined held) (get_or-set_same cur 0 v None within) ∙ is ∙ sym (ap (λ b. cond b first None) q)
      go (inl e) (inr l) = other (omega arith) (grind (arith, nat_tests))
      go (inr l) d = other (omega (arith, rows_apart 0 h w l)) (grind (arith, nat_tests))

  -- where all is cleared and the first cell written, nothing hangs yet
  pub cleared : (cur : List (Option (Kept V Chosen))) (w : ℕ) (v : Option (Kept V Chosen)) → as_joined held v ≡ Some (record { cost = o.nothing; what = [] }) → 0 < length cur
      → ((k : ℕ) → get_or cur k None ≡ None) → (h j : ℕ) → j < w → table_of held (set cur 0 v) w h j ≡ start o h j
  cleared cur w v is within none h j b = cleared_at cur w v is within h j (none (h * w + j)) b

  -- the same, of the five rows of a table alone
  pub cleared_rows : (cur : List (Option (Kept V Chosen))) (w : ℕ) (v : Option (Kept V Chosen)) → as_joined held v ≡ Some (record { cost = o.nothing; what = [] }) → 0 < length cur
      → ((k : ℕ) → k < 5 * w → get_or cur k None ≡ None) → (h j : ℕ) → h < 5 → j < w → table_of held (set cur 0 v) w h j ≡ start o h j
  cleared_rows cur w v is within none h j a b = cleared_at cur w v is within h j (none (h * w + j) (omega (arith, rows_apart h 5 w a))) b

  -- a cell that has a leg for each of fewer than four children has room
  pub has_room : (cell : Option (Kept V Chosen)) (n : ℕ) (x : Option (Priced C (List Branch))) → as_joined held cell ≡ x → Each (λ a. length a.what ≡ n) x → n < 4 → HasRoom cell
  has_room cell n x e h l = go cell (subst (Each (λ a. length a.what ≡ n)) (sym e) h)
    where
      go : (cell : Option (Kept V Chosen)) → Each (λ a. length a.what ≡ n) (as_joined held cell) → HasRoom cell
      go None h = tt
      go (Some a) h = omega (arith, h, length_last_first branch_of no_leg a.what.legs.items a.what.legs.count)

module _ {C : Type 0} (o : Kind C) where
  -- as many legs as children
  abbrev Long : ℕ → Priced C (List Branch) → Type 0
  Long n a = length a.what ≡ n

  join_long : (n : ℕ) (f : Bool) (t : Option (Priced C (List Branch))) (r : Option (Priced C ℕ)) → Each (Long n) t → Each (Long (suc n)) (join o f t r)
  join_long n f None r h = tt
  join_long n f (Some t) None h = tt
  join_long n f (Some t) (Some r) h = ap suc h

  charged_long : (n : ℕ) (c : C) (t : Option (Priced C (List Branch))) → Each (Long n) t → Each (Long n) (charged o c t)
  charged_long n c None h = tt
  charged_long n c (Some t) h = h

module _ {C X : Type 0} (o : Kind C) (limit : ℕ) (p : ℕ → C) where
  pub table_long : (rs : List (Row C X)) (h j : ℕ) → Each (λ a. length a.what ≡ length rs) (table o limit p rs h j)
  table_long [] h j = go (eqb h 0 && eqb j 0)
    where
      go : (b : Bool) → Each (Long o 0) (cond b (Some (record { cost = o.nothing; what = [] })) None)
      go true = refl
      go false = tt
  table_long (r ∷ rs) h j =
      cheaper_each o (Long o (suc (length rs))) (cheapest o j (λ e. join o false (table o limit p rs h (j - suc e)) (tagged e (r e)))) (headed o p (table o limit p rs) (best_entry o limit r) h j)
      (cheapest_each o (Long o (suc (length rs))) j (λ e. join o false (table o limit p rs h (j - suc e)) (tagged e (r e)))
      (λ e l. join_long o (length rs) false (table o limit p rs h (j - suc e)) (tagged e (r e)) (table_long rs h (j - suc e))))
      (with_head (λ h. table_long rs h j) h)
    where
      with_head : ((h : ℕ) → Each (λ a. length a.what ≡ length rs) (table o limit p rs h j)) → (h : ℕ) → Each (Long o (suc (length rs))) (headed o p (table o limit p rs) (best_entry o limit r) h j)
      with_head ih zero = tt
      with_head ih (suc h) = charged_long o (suc (length rs)) (p h) (join o true (table o limit p rs h j) (best_entry o limit r)) (join_long o (length rs) true (table o limit p rs h j) (best_entry o limit r) (ih h))

  -- tables and rows that agree where they are looked at
  pub step_same : (t u : Table C) (r s : Row C X) (n : ℕ) → ((h j : ℕ) → h < n → j ≤ limit → t h j ≡ u h j) → ((e : ℕ) → e ≤ limit → r e ≡ s e) → (h j : ℕ) → h < n → j ≤ limit → step o limit p t r h j ≡ step o limit p u s h j
  step_same t u r s n tables rows h j a b =
      ap (λ x. cheaper o x (headed o p t (best_entry o limit r) h j))
      (cheapest_same o j (λ e. join o false (t h (j - suc e)) (tagged e (r e))) (λ e. join o false (u h (j - suc e)) (tagged e (s e)))
      (λ e l. ap (λ x. join o false x (tagged e (r e))) (tables h (j - suc e) a (omega arith)) ∙ ap (λ x. join o false (u h (j - suc e)) (tagged e x)) (rows e (omega arith))))
      ∙ ap (cheaper o (cheapest o j (λ e. join o false (u h (j - suc e)) (tagged e (s e))))) (with_head h a)
    where
      firsts : best_entry o limit r ≡ best_entry o limit s
      firsts = cheapest_same o limit (λ e. tagged e (r e)) (λ e. tagged e (s e)) (λ e l. ap (tagged e) (rows e (omega arith)))

      with_head : (h : ℕ) → h < n → headed o p t (best_entry o limit r) h j ≡ headed o p u (best_entry o limit s) h j
      with_head zero a = refl
      with_head (suc h) a = ap (λ x. charged o (p h) (join o true x (best_entry o limit r))) (tables h j (omega arith) b) ∙ ap (λ x. charged o (p h) (join o true (u h j) x)) firsts

  -- over what is as-chosen
  pub table_keep : (q : ℕ → Bool) (r s : ℕ → Row C X) (n : ℕ) → ((k : ℕ) → k < n → q k ≡ true → (e : ℕ) → e ≤ limit → r k e ≡ s k e)
      → (h j : ℕ) → j ≤ limit → table o limit p (map r (keep q (below n))) h j ≡ table o limit p (map s (keep q (below n))) h j
  table_keep q r s zero same h j b = refl
  table_keep q r s (suc n) same h j b = go (table_keep q r s n (λ k l. same k (omega arith))) (q n) refl h j b
    where
      go : ((h j : ℕ) → j ≤ limit → table o limit p (map r (keep q (below n))) h j ≡ table o limit p (map s (keep q (below n))) h j) → (v : Bool) → q n ≡ v → (h j : ℕ) → j ≤ limit → table o limit p (map r (cond v (n ∷ keep q (below n)) (keep q (below n)))) h j ≡ table o limit p (map s (cond v (n ∷ keep q (below n)) (keep q (below n)))) h j
      go ih true e h j b = step_same (table o limit p (map r (keep q (below n)))) (table o limit p (map s (keep q (below n)))) (r n) (s n) (suc h) (λ i k a d. ih i k d) (same n (omega arith) e) h j (omega arith) b
      go ih false e h j b = ih h j b

pub keep_more : (q : ℕ → Bool) (k : ℕ) (b : Bool) → q k ≡ b → keep q (below (k + 1)) ≡ cond b (k ∷ keep q (below k)) (keep q (below k))
keep_more q k b e = ap (λ n. keep q (below n)) (add-one k) ∙ ap (λ v. cond v (k ∷ keep q (below k)) (keep q (below k))) e

keep_grows : (q : ℕ → Bool) (k d : ℕ) → length (keep q (below k)) ≤ length (keep q (below (d + k)))
keep_grows q k zero = let z : 0 + k ≡ k = omega arith in subst (λ n. length (keep q (below k)) ≤ length (keep q (below n))) (sym z) (omega arith)
keep_grows q k (suc d) =
    let z : suc d + k ≡ suc (d + k) = omega arith in
    subst (λ n. length (keep q (below k)) ≤ length (keep q (below n))) (sym z) (go (keep_grows q k d) (q (d + k)))
  where
    go : length (keep q (below k)) ≤ length (keep q (below (d + k))) → (b : Bool) → length (keep q (below k)) ≤ length (cond b ((d + k) ∷ keep q (below (d + k))) (keep q (below (d + k))))
    go ih true = omega arith
    go ih false = ih

-- one that is as-chosen is not among those before it
pub keep_below : {A : Type 0} (f : ℕ → A) (q : ℕ → Bool) (k n : ℕ) → k < n → q k ≡ true → length (map f (keep q (below k))) < length (keep q (below n))
keep_below f q k n l e =
    let z : n ≡ (n - (k + 1)) + (k + 1) = omega arith in
    let one : length (keep q (below (k + 1))) ≡ suc (length (keep q (below k))) = ap length (keep_more q k true e) in
    let all : length (keep q (below (k + 1))) ≤ length (keep q (below n)) = subst (λ m. length (keep q (below (k + 1))) ≤ length (keep q (below m))) (sym z) (keep_grows q (k + 1) (n - (k + 1))) in
    omega (arith, length_map f (keep q (below k)))

-- what is listed for each of those as-chosen, the last first
pub given_rank : (q : ℕ → Bool) (legs : List Leg) (n k : ℕ) → k < n → q k ≡ true
    → given no_branch k (keep q (below n)) (last_first branch_of no_leg legs (length (keep q (below n)))) ≡ branch_of (get_or legs (length (keep q (below k))) no_leg)
given_rank q legs zero k l e = absurd (omega arith)
given_rank q legs (suc n) k l e = go (q n) refl (λ l. given_rank q legs n k l e)
  where
    ks : List ℕ
    ks = keep q (below n)

    want : Branch
    want = branch_of (get_or legs (length (keep q (below k))) no_leg)

    go : (b : Bool) → q n ≡ b → (k < n → given no_branch k ks (last_first branch_of no_leg legs (length ks)) ≡ want) → given no_branch k (cond b (n ∷ ks) ks) (last_first branch_of no_leg legs (length (cond b (n ∷ ks) ks))) ≡ want
    go true f ih = elim (eqb_tells k n) [
      | inl z ↦
          ap (λ b. cond b (branch_of (get_or legs (length ks) no_leg)) (given no_branch k ks (last_first branch_of no_leg legs (length ks)))) z.0
          ∙ ap (λ i. branch_of (get_or legs (length (keep q (below i))) no_leg)) (sym z.1)
      | inr z ↦ ap (λ b. cond b (branch_of (get_or legs (length ks) no_leg)) (given no_branch k ks (last_first branch_of no_leg legs (length ks)))) z.0 ∙ ih (omega arith)
    ]
    go false f ih = ih (grind (arith, nat_tests))
