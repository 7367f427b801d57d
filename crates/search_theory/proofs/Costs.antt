-- What the laws give of sums, and of costs with `None` for what cannot be had.
use Rattle.std.proofs.Common.{◌≡◌, ℕ, zero, suc, ◌<◌, Bool, true, false, List, [], ◌∷◌, Some, None, Option, sym, refl, ap, ◌∙◌, subst, ⊎_elim, arith}
use Rattle.search_theory.specs.Costs.{Kind, Lawful, below, sum}
use Rattle.search_theory.proofs.Infinite.{add, NoMore}

-- a commutative monoid
pub record Monoid {M : Type 0} (z : M) (p : M → M → M) : Type 0 where
  pub neutral : (x : M) → p x z ≡ x
  pub assoc : (x y w : M) → p (p x y) w ≡ p x (p y w)
  pub comm : (x y : M) → p x y ≡ p y x

module _ {M : Type 0} {z : M} {p : M → M → M} (𝓜 : Monoid z p) where
  pub zero_left : (x : M) → p z x ≡ x
  zero_left x = 𝓜.comm z x ∙ 𝓜.neutral x

  pub swap : (a b c : M) → p a (p b c) ≡ p b (p a c)
  swap a b c = sym (𝓜.assoc a b c) ∙ ap (λ x. p x c) (𝓜.comm a b) ∙ 𝓜.assoc b a c

  pub middle : (a b c d : M) → p (p a b) (p c d) ≡ p (p a c) (p b d)
  middle a b c d = 𝓜.assoc a b (p c d) ∙ ap (p a) (swap b c d) ∙ sym (𝓜.assoc a c (p b d))

  pub sum_plus : (f g : ℕ → M) (ks : List ℕ) → sum z p (λ k. p (f k) (g k)) ks ≡ p (sum z p f ks) (sum z p g ks)
  sum_plus f g [] = sym (𝓜.neutral z)
  sum_plus f g (k ∷ ks) = ap (p (p (f k) (g k))) (sum_plus f g ks) ∙ middle (f k) (g k) (sum z p f ks) (sum z p g ks)

  -- f over the indices below n, where it is nothing
  pub sum_none : (f : ℕ → M) (n : ℕ) → ((k : ℕ) → k < n → f k ≡ z) → sum z p f (below n) ≡ z
  sum_none f zero h = refl
  sum_none f (suc n) h =
      ap (λ x. p x (sum z p f (below n))) (h n (omega arith)) ∙ zero_left _ ∙ sum_none f n (λ k l. h k (omega arith))

  pub sum_same : (f g : ℕ → M) (n : ℕ) → ((k : ℕ) → k < n → f k ≡ g k) → sum z p f (below n) ≡ sum z p g (below n)
  sum_same f g zero h = refl
  sum_same f g (suc n) h =
      ap (λ x. p x (sum z p f (below n))) (h n (omega arith)) ∙ ap (p (g n)) (sum_same f g n (λ k l. h k (omega arith)))

  pub sum_swap : (f : ℕ → ℕ → M) (is ks : List ℕ) → sum z p (λ i. sum z p (λ k. f i k) ks) is ≡ sum z p (λ k. sum z p (λ i. f i k) is) ks
  sum_swap f [] ks = sym (nought ks)
    where
      nought : (ks : List ℕ) → sum z p (λ k. z) ks ≡ z
      nought [] = refl
      nought (k ∷ ks) = zero_left _ ∙ nought ks
  sum_swap f (i ∷ is) ks =
      ap (p (sum z p (λ k. f i k) ks)) (sum_swap f is ks) ∙ sym (sum_plus (λ k. f i k) (λ k. sum z p (λ i. f i k) is) ks)

pub no_test : false ≡ true → ⊥
no_test e = let z : ◌≡◌ {A = ℕ} 0 1 = cc in omega arith

module _ {C : Type 0} {o : Kind C} (l : Lawful o) where
  pub neutral_right : (x : C) → o.plus x o.nothing ≡ x
  neutral_right x = l.commutative x o.nothing ∙ l.neutral x

  -- where one is not at most the other, the other is at most it
  pub total_other : (x y : C) → o.at_most x y ≡ false → o.at_most y x ≡ true
  total_other x y e = ⊎_elim (λ (a : o.at_most x y ≡ true). absurd (no_test (sym e ∙ a))) (λ (a : o.at_most y x ≡ true). a) (l.total x y)

  pub refl_at_most : (x : C) → o.at_most x x ≡ true
  refl_at_most x = go (o.at_most x x) refl
    where
      go : (b : Bool) → o.at_most x x ≡ b → o.at_most x x ≡ true
      go true e = e
      go false e = total_other x x e

  pub costs : Monoid o.nothing o.plus
  costs = record { neutral = neutral_right; assoc = l.associative; comm = l.commutative }

  add_neutral : (x : Option C) → add o x (Some o.nothing) ≡ x
  add_neutral None = refl
  add_neutral (Some x) = ap Some (neutral_right x)

  add_assoc : (x y z : Option C) → add o (add o x y) z ≡ add o x (add o y z)
  add_assoc None y z = refl
  add_assoc (Some x) None z = refl
  add_assoc (Some x) (Some y) None = refl
  add_assoc (Some x) (Some y) (Some z) = ap Some (l.associative x y z)

  add_comm : (x y : Option C) → add o x y ≡ add o y x
  add_comm None None = refl
  add_comm None (Some y) = refl
  add_comm (Some x) None = refl
  add_comm (Some x) (Some y) = ap Some (l.commutative x y)

  pub adds : Monoid (Some o.nothing) (add o)
  adds = record { neutral = add_neutral; assoc = add_assoc; comm = add_comm }

  pub no_more_refl : (x : Option C) → NoMore o x x
  no_more_refl None = tt
  no_more_refl (Some x) = refl_at_most x

  pub no_more_trans : (x y z : Option C) → NoMore o x y → NoMore o y z → NoMore o x z
  no_more_trans x y None h k = tt
  no_more_trans x None (Some z) h k = absurd k
  no_more_trans None (Some y) (Some z) h k = h
  no_more_trans (Some x) (Some y) (Some z) h k = l.transitive x y z h k

  pub no_more_add : (x y z : Option C) → NoMore o x y → NoMore o (add o x z) (add o y z)
  no_more_add x None z h = tt
  no_more_add None (Some y) z h = absurd h
  no_more_add (Some x) (Some y) None h = tt
  no_more_add (Some x) (Some y) (Some z) h = l.monotone x y z h

  pub both_add : (x y u v : Option C) → NoMore o x y → NoMore o u v → NoMore o (add o x u) (add o y v)
  both_add x y u v h k =
      no_more_trans (add o x u) (add o y u) (add o y v) (no_more_add x y u h)
      (subst (λ w. NoMore o w (add o y v)) (adds.comm u y) (subst (NoMore o (add o u y)) (adds.comm v y) (no_more_add u v y k)))

  pub regroup : (F A W : Option C) → add o (add o F A) W ≡ add o F (add o W A)
  regroup F A W = adds.assoc F A W ∙ ap (add o F) (adds.comm A W)
