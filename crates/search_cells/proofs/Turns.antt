-- The cheapest of several, as it is kept and as the theory has it.
use Rattle.std.proofs.Common.{◌≡◌, ℕ, zero, suc, ◌+◌, ◌<◌, Bool, true, false, cond, eqb, Option, Some, None, sym, refl, ap, ◌∙◌, subst, inl, inr, add-one, arith}
use Rattle.std.proofs.lemmas.Bool.Decides.{nat_tests, eqb_tells}
use Rattle.search_cells.specs.Cells.{seen, lesser, least, LeastOf}
use Rattle.search_cells.specs.declared.Priced.{Priced as Kept}
use Rattle.search_theory.specs.Costs.{Kind}
use Rattle.search_theory.specs.Entries.{Priced, cheaper, cheapest}

module _ {C X : Type 0} (o : Kind C) where
  pub cheapest_more : (f : ℕ → Option (Priced C X)) (n : ℕ) (b x r : Option (Priced C X)) → b ≡ cheapest o n f → x ≡ f n → r ≡ cheaper o b x → r ≡ cheapest o (n + 1) f
  cheapest_more f n b x r p q s = s ∙ ap (λ z. cheaper o z x) p ∙ ap (cheaper o (cheapest o n f)) q ∙ sym (ap (λ k. cheapest o k f) (add-one n))

  pub cheapest_same : (n : ℕ) (f g : ℕ → Option (Priced C X)) → ((k : ℕ) → k < n → f k ≡ g k) → cheapest o n f ≡ cheapest o n g
  cheapest_same zero f g h = refl
  cheapest_same (suc n) f g h =
      ap (λ z. cheaper o z (f n)) (cheapest_same n f g (λ k l. h k (omega arith))) ∙ ap (cheaper o (cheapest o n g)) (h n (omega arith))

module _ {C V W : Type 0} (o : Kind C) (held : V → C) where
  least_same : (n : ℕ) (f g : ℕ → Option (Kept V W)) → ((k : ℕ) → k < n → f k ≡ g k) → least o held n f ≡ least o held n g
  least_same zero f g h = refl
  least_same (suc n) f g h =
      ap (λ z. lesser o held z (f n)) (least_same n f g (λ k l. h k (omega arith))) ∙ ap (lesser o held (least o held n g)) (h n (omega arith))

  -- a turn of the loop for the cheapest of several
  pub least_more : (answers : ℕ → Option (Kept V W) → Type 0) (n : ℕ) (b x r : Option (Kept V W)) → LeastOf o held n answers b → answers n x → r ≡ lesser o held b x → LeastOf o held (n + 1) answers r
  least_more answers n b x r so_far here is = record {
    got = got;
    each = λ k l. elim (eqb_tells k n) [
      | inl z ↦ subst (answers k) (sym (ap (λ b. cond b x (so_far.got k)) z.0)) (subst (λ i. answers i x) (sym z.1) here)
      | inr z ↦ let ne : ¬ (k ≡ n) = z.1 in subst (answers k) (sym (ap (λ b. cond b x (so_far.got k)) z.0)) (so_far.each k (omega arith))
    ];
    is = is
        ∙ ap (λ z. lesser o held z x) (so_far.is ∙ least_same n so_far.got got (λ k l. before k (grind (arith, nat_tests))))
        ∙ ap (lesser o held (least o held n got)) (sym (ap (λ b. cond b x (so_far.got n)) own))
        ∙ sym (ap (λ k. least o held k got) (add-one n));
  }
    where
      got : ℕ → Option (Kept V W)
      got k = cond (eqb k n) x (so_far.got k)

      own : eqb n n ≡ true
      own = grind (arith, nat_tests)

      before : (k : ℕ) → eqb k n ≡ false → so_far.got k ≡ got k
      before k e = sym (ap (λ b. cond b x (so_far.got k)) e)

  module _ {X : Type 0} (read : W → X) where
    pub seen_lesser : (a b : Option (Kept V W)) → seen held read (lesser o held a b) ≡ cheaper o (seen held read a) (seen held read b)
    seen_lesser None b = refl
    seen_lesser (Some a) None = refl
    seen_lesser (Some a) (Some b) = go (o.at_most (held a.cost) (held b.cost))
      where
        go : (t : Bool) → seen held read (cond t (Some a) (Some b)) ≡ cond t (seen held read (Some a)) (seen held read (Some b))
        go true = refl
        go false = refl

    seen_least : (n : ℕ) (f : ℕ → Option (Kept V W)) → seen held read (least o held n f) ≡ cheapest o n (λ k. seen held read (f k))
    seen_least zero f = refl
    seen_least (suc n) f = seen_lesser (least o held n f) (f n) ∙ ap (λ z. cheaper o z (seen held read (f n))) (seen_least n f)

    -- what is answered at each place is as wanted there
    pub seen_cheapest : (n : ℕ) (answers : ℕ → Option (Kept V W) → Type 0) (want : ℕ → Option (Priced C X)) (r : Option (Kept V W)) → LeastOf o held n answers r
        → ((k : ℕ) (x : Option (Kept V W)) → k < n → answers k x → seen held read x ≡ want k) → seen held read r ≡ cheapest o n want
    seen_cheapest n answers want r l h =
        ap (seen held read) l.is ∙ seen_least n l.got ∙ cheapest_same o n (λ k. seen held read (l.got k)) want (λ k d. h k (l.got k) d (l.each k d))
