-- A legal layout is a choice that fits at each index, so none costs less than the driver's row says.
use Rattle.std.proofs.Common.{◌≡◌, ℕ, zero, suc, ◌+◌, ◌<◌, ◌≤◌, Bool, true, false, cond, ltb, List, [], ◌∷◌, map, Some, sym, refl, ap, ◌∙◌, subst, inl, inr, arith}
use Rattle.std.proofs.lemmas.Bool.Decides.{nat_tests, eqb_tells}
use Rattle.search_theory.specs.Costs.{Kind, Lawful, below, sum, total}
use Rattle.search_theory.specs.Entries.{Row}
use Rattle.search_theory.specs.Joining.{Branch, Choice}
use Rattle.search_theory.specs.Layouts.{Problem, Rooted, kids, Layout, over, Lengths, needs, Legal, layout_cost}
use Rattle.search_theory.specs.Search.{fork}
use Rattle.search_theory.specs.Tree.{keep, child}
use Rattle.search_theory.proofs.Costs.{no_test, costs, sum_same}
use Rattle.search_theory.proofs.Induction.{tree_best}
use Rattle.search_theory.proofs.Infinite.{NoMore, worth, enterings, heads, loose_length, Driven}
use Rattle.search_theory.proofs.Local.{standing, Fits, buffer_rule}

-- what a layout chooses for one child
abbrev pub branch : Layout → (ℕ → ℕ) → ℕ → Branch
branch m en k = record { head = (m k).head; entering = en k }

-- the branches of an index, from the layout of its children
module _ (m : Layout) (en : ℕ → ℕ) where
  pub enterings_branches : (ks : List ℕ) → enterings (map (branch m en) ks) ≡ map en ks
  enterings_branches [] = refl
  enterings_branches (k ∷ ks) = ap (λ es. en k ∷ es) (enterings_branches ks)

  pub heads_branches : (ks : List ℕ) → heads (map (branch m en) ks) ≡ sum 0 ◌+◌ (λ k. cond (m k).head 1 0) ks
  heads_branches [] = refl
  heads_branches (k ∷ ks) = go (m k).head (heads_branches ks)
    where
      h : ℕ
      h = heads (map (branch m en) ks)

      s : ℕ
      s = sum 0 ◌+◌ (λ k. cond (m k).head 1 0) ks

      go : (b : Bool) → h ≡ s → cond b (suc h) h ≡ cond b 1 0 + s
      go true e = omega arith
      go false e = omega arith

  pub loose_branches : (ks : List ℕ) → loose_length (map (branch m en) ks) ≡ sum 0 ◌+◌ (λ k. cond (m k).head 0 (1 + en k)) ks
  loose_branches [] = refl
  loose_branches (k ∷ ks) = go (m k).head (loose_branches ks)
    where
      h : ℕ
      h = loose_length (map (branch m en) ks)

      s : ℕ
      s = sum 0 ◌+◌ (λ k. cond (m k).head 0 (1 + en k)) ks

      go : (b : Bool) → h ≡ s → cond b h (suc (en k + h)) ≡ cond b 0 (1 + en k) + s
      go true e = omega arith
      go false e = omega arith

  pub driven_branches : (limit : ℕ) (q : ℕ → Bool) (n : ℕ) → ((k : ℕ) → k < n → (m k).head ≡ true → en k < limit) → Driven limit (map (branch m en) (keep q (below n)))
  driven_branches limit q zero h = tt
  driven_branches limit q (suc n) h = go (q n) (driven_branches limit q n (λ k l. h k (omega arith)))
    where
      go : (b : Bool) → Driven limit (map (branch m en) (keep q (below n))) → Driven limit (map (branch m en) (cond b (n ∷ keep q (below n)) (keep q (below n))))
      go true d = (h n (omega arith), d)
      go false d = d

-- what stands at an index is what it needs
pub stands_needed : {C : Type 0} (N : Problem C) (m : Layout) (en : ℕ → ℕ) (x : Choice) (i : ℕ) → x.trunk ≡ (m i).trunk → map (branch m en) (kids N i) ≡ x.branches → standing x ≡ needs N m i
stands_needed N m en x i t e =
    ap (λ b. cond b (suc (heads x.branches)) (heads x.branches)) t
    ∙ ap (λ bs. cond (m i).trunk (suc (heads bs)) (heads bs)) (sym e)
    ∙ grown (m i).trunk (heads_branches m en (kids N i))
  where
    h : ℕ
    h = heads (map (branch m en) (kids N i))

    s : ℕ
    s = over N i (λ k. cond (m k).head 1 0)

    grown : (b : Bool) → h ≡ s → cond b (suc h) h ≡ cond b 1 0 + s
    grown true q = omega arith
    grown false q = omega arith

-- one of what is summed
sum_one : (f : ℕ → ℕ) (q : ℕ → Bool) (n k : ℕ) → k < n → q k ≡ true → f k ≤ sum 0 ◌+◌ f (keep q (below n))
sum_one f q zero k h t = absurd (omega arith)
sum_one f q (suc n) k h t = go (q n) refl (λ h. sum_one f q n k h t)
  where
    ks : List ℕ
    ks = keep q (below n)

    go : (b : Bool) → q n ≡ b → (k < n → f k ≤ sum 0 ◌+◌ f ks) → f k ≤ sum 0 ◌+◌ f (cond b (n ∷ ks) ks)
    go true e ih = elim (eqb_tells k n) [ inl z ↦ omega (arith, ap f z.1) | inr z ↦ let r : f k ≤ sum 0 ◌+◌ f ks = ih (omega arith) in omega arith ]
    go false e ih = ih (grind (arith, nat_tests))

module _ {C : Type 0} (N : Problem C) (root : Rooted N) (m : Layout) (legal : Legal N m) where
  -- nothing longer than the limit hangs anywhere: some gate above drives it
  within : (f i : ℕ) → i ≤ f → i < N.count → legal.lengths.hanging i ≤ N.limit
  within f zero h k = legal.driver
  within zero (suc i) h k = absurd (omega arith)
  within (suc f) (suc i) h k =
      let up : N.parent (suc i) < suc i = root.before (suc i) (omega arith) k in
      go (m (suc i)).trunk (m (suc i)).head refl refl (within f (N.parent (suc i)) (omega arith) (omega arith)) up
    where
      L : Lengths N m
      L = legal.lengths

      j : ℕ
      j = N.parent (suc i)

      f₁ : ℕ → ℕ
      f₁ = λ k. cond (m k).head 0 (1 + L.entering k)

      go : (t d : Bool) → (m (suc i)).trunk ≡ t → (m (suc i)).head ≡ d → L.hanging j ≤ N.limit → j < suc i → L.hanging (suc i) ≤ N.limit
      go true d e g ih up = legal.trunks (suc i) k e
      go false d e g ih up = out d g
        where
          through : L.entering (suc i) ≡ L.hanging (suc i)
          through = L.enters (suc i) k ∙ ap (λ b. cond b 0 (L.hanging (suc i))) e

          out : (d : Bool) → (m (suc i)).head ≡ d → L.hanging (suc i) ≤ N.limit
          out true g = omega (arith, legal.heads (suc i) k g, through)
          out false g =
              let its : child N.parent j (suc i) ≡ true = grind (arith, nat_tests) in
              let one : f₁ (suc i) ≤ sum 0 ◌+◌ f₁ (kids N j) = sum_one f₁ (child N.parent j) N.count (suc i) k its in
              let is : f₁ (suc i) ≡ 1 + L.entering (suc i) = ap (λ b. cond b 0 (1 + L.entering (suc i))) g in
              let below_parent : L.hanging j ≡ sum 0 ◌+◌ f₁ (kids N j) = L.hangs j (omega arith) in
              omega (arith, through)

  abbrev pub choices : ℕ → Choice
  choices i = record { trunk = (m i).trunk; branches = map (branch m legal.lengths.entering) (kids N i) }

  pub fits : (i : ℕ) → i < N.count → Fits N.limit (ltb 0 i) (N.spare i) (choices i) (legal.lengths.entering i)
  fits i h = record {
    room = room (m i).trunk (legal.sites i h);
    reach = subst (λ x. x ≤ N.limit) hung (within i i (omega arith) h);
    driven = driven_branches m L.entering N.limit (child N.parent i) N.count (λ k l t. omega (arith, legal.heads k l t));
    allowed = allowed i;
    enters = L.enters i h ∙ ap (cond (m i).trunk 0) hung;
  }
    where
      L : Lengths N m
      L = legal.lengths

      hung : L.hanging i ≡ loose_length (map (branch m L.entering) (kids N i))
      hung = L.hangs i h ∙ sym (loose_branches m L.entering (kids N i))

      room : (b : Bool) → cond b 1 0 + over N i (λ k. cond (m k).head 1 0) ≤ N.spare i → cond b (suc (heads (map (branch m L.entering) (kids N i)))) (heads (map (branch m L.entering) (kids N i))) ≤ N.spare i
      room true r = omega (arith, heads_branches m L.entering (kids N i))
      room false r = omega (arith, heads_branches m L.entering (kids N i))

      allowed : (i : ℕ) → (m i).trunk ≡ true → ltb 0 i ≡ true
      allowed zero t = absurd (no_test (sym legal.unmarked_trunk ∙ t))
      allowed (suc i) t = grind (arith, nat_tests)

  -- no legal plan costs less than the first row says
  pub rival : {o : Kind C} → Lawful o → (row : ℕ → Row C Choice) → ((i : ℕ) → i < N.count → (e : ℕ) → row i e ≡ fork o N i (map row (kids N i)) e) → NoMore o (worth (row 0 (legal.lengths.entering 0))) (Some (layout_cost o N m))
  rival {o = o} l row filled =
      subst (λ x. NoMore o (worth (row 0 (legal.lengths.entering 0))) (Some x))
      (sum_same (costs l) (λ i. total o (N.price i) (below (standing (choices i)))) (λ i. total o (N.price i) (below (needs N m i))) N.count
      (λ i h. ap (λ s. total o (N.price i) (below s)) (stands_needed N m legal.lengths.entering (choices i) i refl refl)))
      (tree_best l (buffer_rule l N.limit (λ i. ltb 0 i) N.spare N.price) N.parent N.count root.some root.before row filled choices legal.lengths.entering
      (λ i h. enterings_branches m legal.lengths.entering (kids N i)) fits)
