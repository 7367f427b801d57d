-- Values that at each index stay within its own weight and the values of its children: at index 0 the value stays within
-- the sum of all weights.
use Rattle.std.proofs.Common.{◌≡◌, ℕ, zero, suc, ◌<◌, Bool, true, false, cond, ◌&&◌, eqb, ltb, List, [], ◌∷◌, sym, refl, ap, ◌∙◌, subst, arith}
use Rattle.std.proofs.lemmas.Bool.Decides.{nat_tests}
use Rattle.search_theory.specs.Costs.{below, sum}
use Rattle.search_theory.specs.Tree.{keep, child, children}
use Rattle.search_theory.proofs.Costs.{Monoid, zero_left, sum_plus, sum_none}

module _ {M : Type 0} {z : M} {p : M → M → M} (𝓜 : Monoid z p) where
  keep_one : (y : ℕ → M) (b : Bool) (k : ℕ) (ks : List ℕ) → sum z p y (cond b (k ∷ ks) ks) ≡ p (cond b (y k) z) (sum z p y ks)
  keep_one y true k ks = refl
  keep_one y false k ks = sym (zero_left 𝓜 (sum z p y ks))

  pub sum_keep : (y : ℕ → M) (q : ℕ → Bool) (ks : List ℕ) → sum z p y (keep q ks) ≡ sum z p (λ k. cond (q k) (y k) z) ks
  sum_keep y q [] = refl
  sum_keep y q (k ∷ ks) = keep_one y (q k) k (keep q ks) ∙ ap (p (cond (q k) (y k) z)) (sum_keep y q ks)

  -- an index among those below n is met once
  pub sum_at : (i n : ℕ) (x : M) → i < n → sum z p (λ k. cond (eqb i k) x z) (below n) ≡ x
  sum_at i zero x h = absurd (omega arith)
  sum_at i (suc n) x h = go (eqb i n) refl (λ l. sum_at i n x l)
    where
      rest : M
      rest = sum z p (λ k. cond (eqb i k) x z) (below n)

      go : (b : Bool) → eqb i n ≡ b → (i < n → rest ≡ x) → p (cond b x z) rest ≡ x
      go true e ih = ap (p x) (sum_none 𝓜 (λ k. cond (eqb i k) x z) n (λ k l. let f : eqb i k ≡ false = grind (arith, nat_tests) in ap (λ b. cond b x z) f)) ∙ 𝓜.neutral x
      go false e ih = zero_left 𝓜 _ ∙ ih (grind (arith, nat_tests))

  module _
      (R : M → M → Type 0)
      (RTrans : (x y w : M) → R x y → R y w → R x w)
      (RPlus : (x y w : M) → R x y → R (p x w) (p y w))
      (kid : ℕ → ℕ → Bool)
      (N : ℕ)
      (later : (i k : ℕ) → k < N → kid i k ≡ true → i < k)
      (one : (k : ℕ) → 0 < k → k < N → (x : M) → sum z p (λ i. cond (kid i k) x z) (below k) ≡ x)
    where
      -- the last index has no children
      leaf : (y : ℕ → M) (n : ℕ) → n < N → sum z p y (keep (kid n) (below (suc n))) ≡ z
      leaf y n fits = sum_keep y (kid n) (below (suc n)) ∙ sum_none 𝓜 (λ k. cond (kid n k) (y k) z) (suc n) (λ k l. go k l (kid n k) refl)
        where
          go : (k : ℕ) → k < suc n → (b : Bool) → kid n k ≡ b → cond b (y k) z ≡ z
          go k l true e = absurd (omega (arith, later n k (omega arith) e))
          go k l false e = refl

      pub gather : (n : ℕ) (w y : ℕ → M) → n < N → ((i : ℕ) → i < suc n → R (y i) (p (w i) (sum z p y (keep (kid i) (below (suc n)))))) → R (y 0) (sum z p w (below (suc n)))
      gather zero w y fits H = subst (λ x. R (y 0) (p (w 0) x)) (leaf y 0 fits) (H 0 (omega arith))
      gather (suc n) w y fits H =
          RTrans (y 0) (p (y (suc n)) all) (p (w (suc n)) all)
          (subst (R (y 0)) joined (gather n w' y (omega arith) H'))
          (RPlus (y (suc n)) (w (suc n)) all (subst (R (y (suc n))) (ap (p (w (suc n))) (leaf y (suc n) fits) ∙ 𝓜.neutral (w (suc n))) (H (suc n) (omega arith))))
        where
          all : M
          all = sum z p w (below (suc n))

          -- what the last index has goes to its parent
          w' : ℕ → M
          w' i = p (w i) (cond (kid i (suc n)) (y (suc n)) z)

          H' : (i : ℕ) → i < suc n → R (y i) (p (w' i) (sum z p y (keep (kid i) (below (suc n)))))
          H' i l =
              subst (R (y i)) (ap (p (w i)) (keep_one y (kid i (suc n)) (suc n) (keep (kid i) (below (suc n)))) ∙ sym (𝓜.assoc (w i) (cond (kid i (suc n)) (y (suc n)) z) (sum z p y (keep (kid i) (below (suc n))))))
              (H i (omega arith))

          joined : sum z p w' (below (suc n)) ≡ p (y (suc n)) all
          joined =
              sum_plus 𝓜 w (λ i. cond (kid i (suc n)) (y (suc n)) z) (below (suc n))
              ∙ ap (p all) (one (suc n) (omega arith) fits (y (suc n)))
              ∙ 𝓜.comm all (y (suc n))

-- Each index below n but the first has its parent before it.
module _ (parent : ℕ → ℕ) (n : ℕ) (ok : (k : ℕ) → 0 < k → k < n → parent k < k) where
  pub child_later : (i k : ℕ) → k < n → child parent i k ≡ true → i < k
  child_later i k l e = grind (arith, nat_tests, ok k)

  pub child_parent : (i k : ℕ) → child parent i k ≡ true → parent k ≡ i
  child_parent i k e = grind (arith, nat_tests)

  pub child_one : {M : Type 0} {z : M} {p : M → M → M} (𝓜 : Monoid z p) (k : ℕ) → 0 < k → k < n → (x : M) → sum z p (λ i. cond (child parent i k) x z) (below k) ≡ x
  child_one {z = z} {p = p} 𝓜 k pos l x =
      let e : ltb 0 k ≡ true = grind (arith, nat_tests) in
      subst (λ b. sum z p (λ i. cond (b && eqb (parent k) i) x z) (below k) ≡ x) (sym e) (sum_at 𝓜 (parent k) k x (ok k pos l))

-- The value of index 0 against the sum over all: over any relation that the monoid keeps, as `≡` or `≤`.
pub gathered : {M : Type 0} {z : M} {p : M → M → M} (𝓜 : Monoid z p) (R : M → M → Type 0)
    → ((x y w : M) → R x y → R y w → R x w) → ((x y w : M) → R x y → R (p x w) (p y w))
    → (parent : ℕ → ℕ) (n : ℕ) → 0 < n → ((k : ℕ) → 0 < k → k < n → parent k < k) → (w y : ℕ → M)
    → ((i : ℕ) → i < n → R (y i) (p (w i) (sum z p y (children parent n i)))) → R (y 0) (sum z p w (below n))
gathered 𝓜 R RTrans RPlus parent zero pos ok w y H = absurd (omega arith)
gathered 𝓜 R RTrans RPlus parent (suc n) pos ok w y H =
    gather 𝓜 R RTrans RPlus (child parent) (suc n) (child_later parent (suc n) ok) (child_one parent (suc n) ok 𝓜) n w y (omega arith) H
