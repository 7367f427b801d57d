-- A layout has lengths, and no others; layouts that agree along the net are legal together and cost the same.
use Rattle.std.proofs.Common.{◌≡◌, ℕ, zero, suc, ◌+◌, ◌<◌, ◌≤◌, Bool, true, false, cond, List, [], ◌∷◌, map, sym, refl, ap, ◌∙◌, subst, arith}
use Rattle.search_theory.specs.Costs.{Kind, Lawful, below, sum, total}
use Rattle.search_theory.specs.Layouts.{Problem, Rooted, kids, Layout, over, Lengths, needs, Legal, layout_cost}
use Rattle.search_theory.specs.Tree.{keep, child, climb}
use Rattle.search_theory.proofs.Climb.{climb_filled, climb_one}
use Rattle.search_theory.proofs.Costs.{costs, sum_same}

abbrev hung : Layout → List ℕ → List ℕ → ℕ
hung m [] es = 0
hung m (k ∷ ks) [] = 0
hung m (k ∷ ks) (e ∷ es) = cond (m k).head 0 (1 + e) + hung m ks es

hung_map : (m : Layout) (en : ℕ → ℕ) (ks : List ℕ) → hung m ks (map en ks) ≡ sum 0 ◌+◌ (λ k. cond (m k).head 0 (1 + en k)) ks
hung_map m en [] = refl
hung_map m en (k ∷ ks) = ap (λ x. cond (m k).head 0 (1 + en k) + x) (hung_map m en ks)

module _ {C : Type 0} (N : Problem C) (root : Rooted N) (m : Layout) where
  entered : ℕ → List ℕ → ℕ
  entered = λ i es. cond (m i).trunk 0 (hung m (kids N i) es)

  pub lengths : Lengths N m
  unfolding entered
  lengths = record {
    hanging = λ i. over N i (λ k. cond (m k).head 0 (1 + en k));
    entering = en;
    hangs = λ i h. refl;
    enters = λ i h. climb_filled 0 entered N.parent N.count root.before i h ∙ ap (cond (m i).trunk 0) (hung_map m en (kids N i));
  }
    where
      en : ℕ → ℕ
      en = climb 0 entered N.parent N.count N.count

  module _ (a b : Lengths N m) where
    follows : (x : Lengths N m) (i : ℕ) → i < N.count → x.entering i ≡ entered i (map x.entering (kids N i))
    unfolding entered
    follows x i h = x.enters i h ∙ ap (cond (m i).trunk 0) (x.hangs i h ∙ sym (hung_map m x.entering (kids N i)))

    pub one_entering : (i : ℕ) → i < N.count → a.entering i ≡ b.entering i
    one_entering = climb_one entered N.parent N.count root.before a.entering b.entering (follows a) (follows b)

module _ {M : Type 0} (z : M) (p : M → M → M) (q : ℕ → Bool) where
  pub sum_kept : (f g : ℕ → M) (n : ℕ) → ((k : ℕ) → k < n → f k ≡ g k) → sum z p f (keep q (below n)) ≡ sum z p g (keep q (below n))
  sum_kept f g zero h = refl
  sum_kept f g (suc n) h = go (q n) (sum_kept f g n (λ k l. h k (omega arith)))
    where
      ks : List ℕ
      ks = keep q (below n)

      go : (b : Bool) → sum z p f ks ≡ sum z p g ks → sum z p f (cond b (n ∷ ks) ks) ≡ sum z p g (cond b (n ∷ ks) ks)
      go true ih = ap (λ x. p x (sum z p f ks)) (h n (omega arith)) ∙ ap (p (g n)) ih
      go false ih = ih

pub one_hanging : {C : Type 0} (N : Problem C) → Rooted N → (m : Layout) (a b : Lengths N m) (i : ℕ) → i < N.count → a.hanging i ≡ b.hanging i
one_hanging N root m a b i h =
    a.hangs i h
    ∙ sum_kept 0 ◌+◌ (child N.parent i) (λ k. cond (m k).head 0 (1 + a.entering k)) (λ k. cond (m k).head 0 (1 + b.entering k)) N.count
    (λ k l. ap (λ e. cond (m k).head 0 (1 + e)) (one_entering N root m a b k l))
    ∙ sym (b.hangs i h)

module _ {C : Type 0} (N : Problem C) (root : Rooted N) (a b : Layout) (same : (k : ℕ) → k < N.count → a k ≡ b k) where
  needs_same : (i : ℕ) → i < N.count → needs N a i ≡ needs N b i
  needs_same i h =
      ap (λ v. cond v.trunk 1 0 + over N i (λ k. cond (a k).head 1 0)) (same i h)
      ∙ ap (λ s. cond (b i).trunk 1 0 + s) (sum_kept 0 ◌+◌ (child N.parent i) (λ k. cond (a k).head 1 0) (λ k. cond (b k).head 1 0) N.count (λ k l. ap (λ v. cond v.head 1 0) (same k l)))

  pub legal_same : Legal N a → Legal N b
  legal_same x = record {
    unmarked_head = subst (λ v. v.head ≡ false) (same 0 root.some) x.unmarked_head;
    unmarked_trunk = subst (λ v. v.trunk ≡ false) (same 0 root.some) x.unmarked_trunk;
    lengths = record {
      hanging = x.lengths.hanging;
      entering = x.lengths.entering;
      hangs = λ i h. x.lengths.hangs i h ∙ sum_kept 0 ◌+◌ (child N.parent i) (λ k. cond (a k).head 0 (1 + x.lengths.entering k)) (λ k. cond (b k).head 0 (1 + x.lengths.entering k)) N.count (λ k l. ap (λ v. cond v.head 0 (1 + x.lengths.entering k)) (same k l));
      enters = λ i h. x.lengths.enters i h ∙ ap (λ v. cond v.trunk 0 (x.lengths.hanging i)) (same i h);
    };
    driver = x.driver;
    trunks = λ i h t. x.trunks i h (ap (λ v. v.trunk) (same i h) ∙ t);
    heads = λ k h t. x.heads k h (ap (λ v. v.head) (same k h) ∙ t);
    sites = λ i h. subst (λ s. s ≤ N.spare i) (needs_same i h) (x.sites i h);
  }

  pub cost_same : {o : Kind C} → Lawful o → layout_cost o N a ≡ layout_cost o N b
  cost_same {o = o} l =
      sum_same (costs l) (λ i. total o (N.price i) (below (needs N a i))) (λ i. total o (N.price i) (below (needs N b i))) N.count
      (λ i h. ap (λ s. total o (N.price i) (below s)) (needs_same i h))
