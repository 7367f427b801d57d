-- A value for each index from those of its children: there is one, and only one.
use Rattle.std.proofs.Common.{◌≡◌, ℕ, zero, suc, ◌+◌, ◌<◌, ◌≤◌, Bool, true, false, cond, List, ◌∷◌, map, sym, refl, ap, ◌∙◌, arith}
use Rattle.search_theory.specs.Costs.{below}
use Rattle.search_theory.specs.Tree.{keep, child, children, climb}
use Rattle.search_theory.proofs.Gather.{child_later}

module _ {A : Type 0} (q : ℕ → Bool) where
  -- two functions that agree on what is kept
  pub map_keep : (f g : ℕ → A) (n : ℕ) → ((k : ℕ) → k < n → q k ≡ true → f k ≡ g k) → map f (keep q (below n)) ≡ map g (keep q (below n))
  map_keep f g zero h = refl
  map_keep f g (suc n) h = go (q n) refl (map_keep f g n (λ k l. h k (omega arith)))
    where
      go : (b : Bool) → q n ≡ b → map f (keep q (below n)) ≡ map g (keep q (below n)) → map f (cond b (n ∷ keep q (below n)) (keep q (below n))) ≡ map g (cond b (n ∷ keep q (below n)) (keep q (below n)))
      go true e ih = ap (λ x. x ∷ map f (keep q (below n))) (h n (omega arith) e) ∙ ap (λ xs. g n ∷ xs) ih
      go false e ih = ih

module _ {A : Type 0} (d : A) (step : ℕ → List A → A) (parent : ℕ → ℕ) (n : ℕ) (ok : (k : ℕ) → 0 < k → k < n → parent k < k) where
  -- whatever the fuel, if it is enough
  fuelled : (f g i : ℕ) → n ≤ i + f → n ≤ i + g → i < n → climb d step parent n f i ≡ climb d step parent n g i
  fuelled zero g i a b h = absurd (omega arith)
  fuelled (suc f) zero i a b h = absurd (omega arith)
  fuelled (suc f) (suc g) i a b h =
      ap (step i) (map_keep (child parent i) (climb d step parent n f) (climb d step parent n g) n
      (λ k s t. let z : i < k = child_later parent n ok i k s t in fuelled f g k (omega arith) (omega arith) s))

  pub climb_filled : (i : ℕ) → i < n → climb d step parent n n i ≡ step i (map (climb d step parent n n) (children parent n i))
  climb_filled i h = fuelled n (suc n) i (omega arith) (omega arith) h

module _ {A : Type 0} (step : ℕ → List A → A) (parent : ℕ → ℕ) (n : ℕ) (ok : (k : ℕ) → 0 < k → k < n → parent k < k) (x y : ℕ → A)
    (xs : (i : ℕ) → i < n → x i ≡ step i (map x (children parent n i)))
    (ys : (i : ℕ) → i < n → y i ≡ step i (map y (children parent n i))) where
  pub climb_one : (i : ℕ) → i < n → x i ≡ y i
  climb_one i h = go n i (omega arith) h
    where
      go : (f i : ℕ) → n ≤ i + f → i < n → x i ≡ y i
      go zero i a h = absurd (omega arith)
      go (suc f) i a h =
          xs i h
          ∙ ap (step i) (map_keep (child parent i) x y n (λ k s t. let z : i < k = child_later parent n ok i k s t in go f k (omega arith) s))
          ∙ sym (ys i h)
