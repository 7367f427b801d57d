-- The row of an index, from a table in cells.
use Rattle.std.proofs.Common.{◌≡◌, ℕ, suc, ◌+◌, ◌-◌, ◌<◌, ◌≤◌, Bool, true, false, cond, ◌&&◌, eqb, ltb, leb, ◌⊎◌, None, Option, sym, refl, ap, ◌∙◌, inl, inr, eq-or-lt_of_le, arith, lt-ltb}
use Rattle.std.proofs.lemmas.Bool.Decides.{nat_tests}
use Rattle.search_cells.specs.Cells.{five_rows}
use Rattle.search_theory.specs.Costs.{Kind}
use Rattle.search_theory.specs.Entries.{Priced, cheaper, cheapest}
use Rattle.search_theory.specs.Joining.{Choice, Table, charged, chosen, plain, trunked, finish}
use Rattle.search_cells.proofs.Turns.{cheapest_same}
use Rattle.search_theory.proofs.Arrays.{cheapest_none, cheapest_cap}

pub five_same : {C : Type 0} (t : Table C) (h j : ℕ) → h < 5 → five_rows t h j ≡ t h j
five_same t h j l = ap (λ b. cond b (t h j) None) (lt-ltb h 5 l)

pub five_none : {C : Type 0} (t : Table C) (h j : ℕ) → 5 ≤ h → five_rows t h j ≡ None
five_none t h j l = let z : ltb h 5 ≡ false = grind (arith, nat_tests) in ap (λ b. cond b (t h j) None) z

module _ {C X : Type 0} (o : Kind C) where
  -- m is n, or as many as there are
  capped : (f g : ℕ → Option (Priced C X)) (n m : ℕ) → ((k : ℕ) → k < 5 → f k ≡ g k) → ((k : ℕ) → 5 ≤ k → f k ≡ None) → m ≤ 5 → m ≤ n → (m < 5 → m ≡ n) → cheapest o n f ≡ cheapest o m g
  capped f g n m same none a b c = go (eq-or-lt_of_le b)
    where
      go : (m ≡ n) ⊎ (m < n) → cheapest o n f ≡ cheapest o m g
      go (inl e) = ap (λ k. cheapest o k f) (sym e) ∙ cheapest_same o m f g (λ k l. same k (omega arith))
      go (inr l) =
          let five : 5 ≤ m = full (eq-or-lt_of_le a) in
          let z : n ≡ (n - m) + m = omega arith in
          ap (λ k. cheapest o k f) z ∙ cheapest_cap o m (n - m) f (λ k d. none k (omega arith)) ∙ cheapest_same o m f g (λ k d. same k (omega arith))
        where
          full : (m ≡ 5) ⊎ (m < 5) → 5 ≤ m
          full (inl e) = omega arith
          full (inr s) = absurd (let z : m ≡ n = c s in omega arith)

module _ {C : Type 0} (o : Kind C) (t : Table C) where
  pub plain_five : (spare m e : ℕ) → m ≤ 5 → m ≤ spare + 1 → (m < 5 → m ≡ spare + 1) → plain o spare (five_rows t) e ≡ chosen false (cheapest o m (λ h. t h e))
  plain_five spare m e a b c =
      ap (chosen false) (capped o (λ h. five_rows t h e) (λ h. t h e) (suc spare) m (λ k l. five_same t k e l) (λ k l. five_none t k e l) a (omega arith) (λ l. let z : m ≡ spare + 1 = c l in omega arith))

  pub trunked_five : (limit spare m : ℕ) (p : ℕ → C) → m ≤ 5 → m ≤ spare → (m < 5 → m ≡ spare)
      → trunked o limit spare p (five_rows t) ≡ chosen true (cheapest o m (λ h. charged o (p h) (cheapest o (suc limit) (λ j. t h j))))
  trunked_five limit spare m p a b c =
      ap (chosen true) (capped o (λ h. charged o (p h) (cheapest o (suc limit) (λ j. five_rows t h j))) (λ h. charged o (p h) (cheapest o (suc limit) (λ j. t h j))) spare m
      (λ k l. ap (charged o (p k)) (cheapest_same o (suc limit) (five_rows t k) (t k) (λ j d. five_same t k j l)))
      (λ k l. ap (charged o (p k)) (cheapest_none o (suc limit) (five_rows t k) (λ j d. five_none t k j l))) a b c)

module _ {C : Type 0} (o : Kind C) (limit : ℕ) (free : Bool) (spare : ℕ) (p : ℕ → C) where
  both : (b : Bool) (x : Option (Priced C Choice)) (e : ℕ) → cond (eqb e 0) (cond b x None) None ≡ cond (b && eqb e 0) x None
  both true x e = refl
  both false x e = go (eqb e 0)
    where
      nil : Option (Priced C Choice)
      nil = None

      go : (d : Bool) → cond d nil nil ≡ nil
      go true = refl
      go false = refl

  pub finish_at : (t : Table C) (e : ℕ) → e ≤ limit → cheaper o (plain o spare t e) (cond (eqb e 0) (cond free (trunked o limit spare p t) None) None) ≡ finish o limit free spare p t e
  finish_at t e l =
      let q : leb e limit ≡ true = grind (arith, nat_tests) in
      ap (cheaper o (plain o spare t e)) (both free (trunked o limit spare p t) e)
      ∙ sym (ap (λ b. cond b (cheaper o (plain o spare t e) (cond (free && eqb e 0) (trunked o limit spare p t) None)) None) q)

  -- tables that agree where it is looked at
  pub finish_same : (t u : Table C) → ((h j : ℕ) → j ≤ limit → t h j ≡ u h j) → (e : ℕ) → e ≤ limit → finish o limit free spare p t e ≡ finish o limit free spare p u e
  finish_same t u same e l =
      ap (λ a. cond (leb e limit) (cheaper o a (cond (free && eqb e 0) (trunked o limit spare p t) None)) None)
      (ap (chosen false) (cheapest_same o (suc spare) (λ h. t h e) (λ h. u h e) (λ h d. same h e l)))
      ∙ ap (λ a. cond (leb e limit) (cheaper o (plain o spare u e) (cond (free && eqb e 0) a None)) None)
      (ap (chosen true) (cheapest_same o spare (λ h. charged o (p h) (cheapest o (suc limit) (λ j. t h j))) (λ h. charged o (p h) (cheapest o (suc limit) (λ j. u h j)))
      (λ h d. ap (charged o (p h)) (cheapest_same o (suc limit) (t h) (u h) (λ j b. same h j (omega arith))))))

pub plain_same : {C : Type 0} (o : Kind C) (t u : Table C) (spare e : ℕ) → ((h : ℕ) → t h e ≡ u h e) → plain o spare (five_rows t) e ≡ plain o spare (five_rows u) e
plain_same o t u spare e same =
    ap (chosen false) (cheapest_same o (suc spare) (λ h. five_rows t h e) (λ h. five_rows u h e) (λ h d. ap (λ x. cond (ltb h 5) x None) (same h)))
