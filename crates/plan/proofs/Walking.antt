-- The walk from the end: each step keeps what the table of lengths holds, and at the end it holds what hangs.
use Rattle.std.proofs.Common.{◌≡◌, ℕ, zero, suc, ◌+◌, ◌-◌, ◌<◌, ◌≤◌, Bool, true, false, cond, ◌&&◌, eqb, ltb, List, map, length, get_or, set, replicate, sym, refl, ap, ◌∙◌, subst, ⊎_elim, add-one, arith}
use Rattle.std.specs.List.{range_with_len}
use Rattle.std.proofs.lemmas.List.FromFn.{fill_by_all, get_or-map-range_with_len}
use Rattle.std.proofs.lemmas.List.{length-set, length-replicate, get_or-replicate, get_or-set_same, get_or-set_other}
use Rattle.std.proofs.lemmas.Bool.{and_parts, lt-ltb, eqb-true, eq-eqb, cases_eq, cases_lt, cases_Bool}
use Rattle.grid.specs.declared.shape.Grid.{Grid}
use Rattle.net.specs.declared.records.record.Record.{Record}
use Rattle.net.specs.declared.records.Route.{Route}
use Rattle.net.specs.Checked.{records_of}
use Rattle.net.specs.Proper.{Proper}
use Rattle.net.specs.Routes.{parent_of, is_child, is_route}
use Rattle.net.proofs.Properly.{proper}
use Rattle.length_rule.specs.Children.{indices, sum_over}
use Rattle.length_rule.specs.Lengths.{hanging_in, hanging}
use Rattle.length_rule.specs.Marks.{head_at, trunk_at}
use Rattle.length_rule.proofs.Sums.{sum_kept, sum_none, sum_from, from_first, from_later}
use Rattle.length_rule.proofs.Unique.{child_later, the_rule}
use Rattle.plan.specs.Walk.{adds, Walked}

-- the grid and the records of a checked route
pub routed : (r : Route) (g : Grid) (rs : List Record) → g ≡ r.grid → rs ≡ records_of r → is_route g rs ≡ true
routed r g rs e f = (λ i. is_route (e i) (f i)) ∙ r.checked

-- a term is no more than the sum
pub term_at_most : (f : ℕ → ℕ) (n p : ℕ) → p < n → f p ≤ sum_over (indices n) f
term_at_most f zero p h = absurd (omega arith)
term_at_most f (suc n) p h =
    ⊎_elim
    (λ (e : p ≡ n). omega (arith, ap f e))
    (λ (e : p ≡ n → ⊥). omega (arith, term_at_most f n p (lower e)))
    (cases_eq p n)
  where
    lower : (p ≡ n → ⊥) → p < n
    lower e = grind (arith, e)

-- one term more
sum_raised : (f g : ℕ → ℕ) (n p v : ℕ) → p < n → g p ≡ f p + v → ((k : ℕ) → k < n → (k ≡ p → ⊥) → g k ≡ f k) → sum_over (indices n) g ≡ sum_over (indices n) f + v
sum_raised f g zero p v h e s = absurd (omega arith)
sum_raised f g (suc n) p v h e s =
    ⊎_elim
    (λ (d : p ≡ n). let same = sum_same' n (λ k l. s k (omega arith) (λ x. omega arith)) in let at : g n ≡ f n + v = subst (λ (x : ℕ). g x ≡ f x + v) d e in omega (arith, at, same))
    (λ (d : p ≡ n → ⊥). let here : g n ≡ f n = s n (omega arith) (λ x. d (sym x)) in omega (arith, here, sum_raised f g n p v (lower d) e (λ k l x. s k (omega arith) x)))
    (cases_eq p n)
  where
    lower : (p ≡ n → ⊥) → p < n
    lower d = grind (arith, d)

    sum_same' : (m : ℕ) → ((k : ℕ) → k < m → g k ≡ f k) → sum_over (indices m) g ≡ sum_over (indices m) f
    sum_same' zero q = refl
    sum_same' (suc m) q = omega (arith, q m (omega arith), sum_same' m (λ k l. q k (omega arith)))

module _ (g : Grid) (rs : List Record) (proper : Proper g rs) (ms : List ℕ) where
  abbrev term : ℕ → ℕ → ℕ
  term j m = cond (is_child rs j m) (adds rs ms m) 0

  no_child : (j m : ℕ) → m < length rs → (is_child rs j m ≡ true → ⊥) → term j m ≡ 0
  no_child j m l h = ⊎_elim (λ e. absurd (h e)) (λ e. ap (λ (b : Bool). cond b (adds rs ms m) 0) e) (cases_Bool (is_child rs j m))

  -- an index all of whose children are walked has what hangs there
  pub hung_all : (k j : ℕ) (lengths : List ℕ) → Walked rs ms k lengths → k ≤ length rs → j < length rs → ((m : ℕ) → m < k → is_child rs j m ≡ true → ⊥) → get_or lengths j 0 ≡ hanging rs ms j
  hung_all k j lengths w short l none =
      let small : j < 256 = omega (arith, proper.not_many) in
      let whole : k + (length rs - k) ≡ length rs = omega arith in
      w.hung j small
      ∙ (from_later (length rs - k) k (term j) (λ m h. no_child j m (omega arith) (none m h))
      ∙ (ap (λ (n : ℕ). sum_from n 0 (term j)) whole
      ∙ (from_first (length rs) (term j)
      ∙ (sym (sum_kept (is_child rs j) (adds rs ms) (indices (length rs))) ∙ omega (arith, (the_rule rs proper.earlier ms).keeps.hangs j l)))))

  pub hung_here : (k : ℕ) (lengths : List ℕ) → Walked rs ms (k + 1) lengths → k < length rs → get_or lengths k 0 ≡ hanging rs ms k
  hung_here k lengths w l = hung_all (k + 1) k lengths w (omega arith) l (λ m h e. omega (arith, child_later rs proper.earlier k m (omega arith) e))

  -- what is left to pass up stays small
  pub small : (k : ℕ) (lengths : List ℕ) → 0 < k → k < length rs → Walked rs ms (k + 1) lengths → get_or lengths (parent_of rs k) 0 + get_or lengths k 0 ≤ 254
  small k lengths pos l w =
      let at : ℕ → ℕ = λ j. get_or lengths j 0 in
      let light : sum_over (indices (suc k)) (λ j. get_or lengths j 0) ≤ length rs - (k + 1) = subst (λ (n : ℕ). sum_over (indices n) (λ j. get_or lengths j 0) ≤ length rs - (k + 1)) (add-one k) w.light in
      omega (arith, light, term_at_most (λ j. get_or lengths j 0) k (parent_of rs k) (proper.earlier k pos l), proper.not_many)

  module _ (k : ℕ) (lengths : List ℕ) (pos : 0 < k) (l : k < length rs) (w : Walked rs ms (k + 1) lengths) where
    abbrev up : ℕ
    up = cond (head_at ms k) 0 (1 + cond (trunk_at ms k) 0 (get_or lengths k 0))

    abbrev after : List ℕ
    after = set lengths (parent_of rs k) (get_or lengths (parent_of rs k) 0 + up)

    up_adds : up ≡ adds rs ms k
    up_adds = ap (λ (x : ℕ). cond (head_at ms k) 0 (1 + cond (trunk_at ms k) 0 x)) (hung_here k lengths w l)

    pub up_small : up ≤ 1 + get_or lengths k 0
    up_small = go (head_at ms k) (trunk_at ms k)
      where
        go : (a b : Bool) → cond a 0 (1 + cond b 0 (get_or lengths k 0)) ≤ 1 + get_or lengths k 0
        go true b = omega arith
        go false true = omega arith
        go false false = omega arith

    parent_low : parent_of rs k < k
    parent_low = proper.earlier k pos l

    in_table : parent_of rs k < length lengths
    in_table = omega (arith, w.size, parent_low, proper.not_many)

    term_here : (j : ℕ) → (j ≡ parent_of rs k → ⊥) → term j k ≡ 0
    term_here j d = no_child j k l (λ e. d (sym (eqb-true (parent_of rs k) j (and_parts (ltb 0 k) (eqb (parent_of rs k) j) e).1)))

    term_parent : term (parent_of rs k) k ≡ adds rs ms k
    term_parent = ap (λ (b : Bool). cond (b && eqb (parent_of rs k) (parent_of rs k)) (adds rs ms k) 0) (lt-ltb 0 k pos) ∙ ap (λ (b : Bool). cond (true && b) (adds rs ms k) 0) (eq-eqb (parent_of rs k) (parent_of rs k) refl)

    -- the terms from k on are that of k and those past it
    from_here : (j : ℕ) → sum_from (length rs - k) k (term j) ≡ term j k + sum_from (length rs - (k + 1)) (k + 1) (term j)
    from_here j =
        let more : length rs - k ≡ suc (length rs - (k + 1)) = omega arith in
        ap (λ (n : ℕ). sum_from n k (term j)) more ∙ ap (λ (s : ℕ). term j k + sum_from (length rs - (k + 1)) s (term j)) (sym (add-one k))

    hung_after : (j : ℕ) → j < 256 → get_or after j 0 ≡ sum_from (length rs - k) k (term j)
    hung_after j h =
        ⊎_elim
        (λ (e : j ≡ parent_of rs k).
        subst (λ (x : ℕ). get_or after x 0 ≡ sum_from (length rs - k) k (term x)) (sym e)
        (get_or-set_same lengths (parent_of rs k) (get_or lengths (parent_of rs k) 0 + up) 0 in_table
        ∙ omega (arith, up_adds, term_parent, from_here (parent_of rs k), w.hung (parent_of rs k) (omega (arith, parent_low, proper.not_many)))))
        (λ (e : j ≡ parent_of rs k → ⊥). get_or-set_other lengths (parent_of rs k) j (get_or lengths (parent_of rs k) 0 + up) 0 e ∙ omega (arith, term_here j e, from_here j, w.hung j h))
        (cases_eq j (parent_of rs k))

    light_after : sum_over (indices k) (λ j. get_or after j 0) ≤ length rs - k
    light_after =
        let light : sum_over (indices (suc k)) (λ j. get_or lengths j 0) ≤ length rs - (k + 1) = subst (λ (n : ℕ). sum_over (indices n) (λ j. get_or lengths j 0) ≤ length rs - (k + 1)) (add-one k) w.light in
        let raised = sum_raised (λ j. get_or lengths j 0) (λ j. get_or after j 0) k (parent_of rs k) up parent_low
        (get_or-set_same lengths (parent_of rs k) (get_or lengths (parent_of rs k) 0 + up) 0 in_table)
        (λ j h e. get_or-set_other lengths (parent_of rs k) j (get_or lengths (parent_of rs k) 0 + up) 0 e) in
        omega (arith, light, raised, up_small)

    pub step : Walked rs ms k after
    step = record { size = length-set lengths (parent_of rs k) (get_or lengths (parent_of rs k) 0 + up) ∙ w.size; hung = hung_after; light = light_after }

  -- nothing is walked yet
  pub start : Walked rs ms (length rs) (replicate 256 0)
  start = record {
    size = length-replicate {A = ℕ} 256 0;
    hung = λ j h. get_or-replicate 256 j 0 0 h ∙ sym (ap (λ (n : ℕ). sum_from n (length rs) (term j)) none);
    light = omega (arith, sum_none (λ j. get_or (replicate 256 0) j 0) (length rs) (λ j h. get_or-replicate 256 j 0 0 (omega (arith, proper.not_many))));
  }
    where
      none : length rs - length rs ≡ 0
      none = omega arith

  -- nothing hangs past the last index
  past : (n j : ℕ) → length rs ≤ j → hanging_in n rs ms j ≡ 0
  past zero j h = refl
  past (suc n) j h =
      omega (arith, sum_kept (is_child rs j) f (indices (length rs)), sum_none (λ k. cond (is_child rs j k) (f k) 0) (length rs) (λ k l. ⊎_elim (λ e. absurd (omega (arith, child_later rs proper.earlier j k l e))) (λ e. ap (λ (b : Bool). cond b (f k) 0) e) (cases_Bool (is_child rs j k))))
    where
      f : ℕ → ℕ
      f k = cond (head_at ms k) 0 (1 + cond (trunk_at ms k) 0 (hanging_in n rs ms k))

  none_past : (j : ℕ) → length rs ≤ j → sum_from (length rs - 1) 1 (term j) ≡ 0
  none_past j l =
      let whole : 1 + (length rs - 1) ≡ length rs = omega (arith, proper.some) in
      let some : 1 ≤ length rs = proper.some in
      from_later (length rs - 1) 1 (term j) (λ m h. no_child j m (omega arith) (λ e. omega (arith, child_later rs proper.earlier j m (omega arith) e)))
      ∙ (ap (λ (n : ℕ). sum_from n 0 (term j)) whole
      ∙ (from_first (length rs) (term j) ∙ sum_none (term j) (length rs) (λ k h. no_child j k h (λ e. omega (arith, child_later rs proper.earlier j k h e)))))

  pub all_walked : (lengths : List ℕ) → Walked rs ms 1 lengths → lengths ≡ map (hanging rs ms) (range_with_len 0 256)
  all_walked lengths w = fill_by_all (hanging rs ms) lengths 256 0 w.size each
    where
      each : (j : ℕ) → j < 256 → get_or lengths j 0 ≡ hanging rs ms j
      each j h = ⊎_elim
          (λ (l : j < length rs). hung_all 1 j lengths w proper.some l (λ m b e. omega (arith, child_later rs proper.earlier j m (omega (arith, proper.some)) e)))
          (λ (l : length rs ≤ j). w.hung j h ∙ (none_past j l ∙ sym (past (length rs) j l)))
          (cases_lt j (length rs))

-- One step of the walk: p is the parent of k, and u what k passes up.
module _ (r : Route) {ms lengths : List ℕ} {k : ℕ} (later : 0 < k) (within : k < length (records_of r)) (w : Walked (records_of r) ms (k + 1) lengths) where
  both_small : get_or lengths (parent_of (records_of r) k) 0 + get_or lengths k 0 ≤ 254
  both_small = small r.grid (records_of r) (proper r) ms k lengths later within w

  pub passes_small : get_or lengths k 0 ≤ 254
  passes_small = omega (arith, both_small)

  pub parent_below : {p : ℕ} → p ≡ parent_of (records_of r) k → p < 256
  parent_below parent = omega (arith, parent, (proper r).earlier k later within, (proper r).not_many)

  module _ {p u : ℕ} (parent : p ≡ parent_of (records_of r) k) (passed : u ≡ cond (head_at ms k) 0 (1 + cond (trunk_at ms k) 0 (get_or lengths k 0))) where
    pub sum_small : get_or lengths p 0 + u ≤ 255
    sum_small = omega (arith, ap (λ (j : ℕ). get_or lengths j 0) parent, passed, up_small r.grid (records_of r) (proper r) ms k lengths later within w, both_small)

    pub walked_more : Walked (records_of r) ms k (set lengths p (get_or lengths p 0 + u))
    walked_more =
        subst (λ (xs : List ℕ). Walked (records_of r) ms k xs) (sym (λ i. set lengths (parent i) (get_or lengths (parent i) 0 + passed i)))
        (step r.grid (records_of r) (proper r) ms k lengths later within w)

-- the table tells what hangs at index i
pub hanging_told : (r : Route) (ms lengths : List ℕ) (i : ℕ) → i < length (records_of r) → lengths ≡ map (hanging (records_of r) ms) (range_with_len 0 256) → get_or lengths i 0 ≡ hanging (records_of r) ms i
hanging_told r ms lengths i h e =
    ap (λ (xs : List ℕ). get_or xs i 0) e ∙ get_or-map-range_with_len (hanging (records_of r) ms) 0 256 i i 0 (omega (arith, (proper r).not_many)) (omega arith)
