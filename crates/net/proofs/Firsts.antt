-- The lowest index at which something is wrong: how a scan from below comes to it, and what it means that there is none.
use Rattle.std.proofs.Common.{◌≡◌, ℕ, zero, suc, ◌+◌, ◌<◌, Bool, true, false, cond, ◌||◌, is_some, Some, None, Option, sym, refl, ap, ◌∙◌, subst, ⊎_elim, add-one, arith}
use Rattle.std.proofs.lemmas.Bool.{cases_eq}
use Rattle.net.specs.Lowest.{or_else, lowest, unless, some_below, nothing_wrong}

no_some : {F : Type 0} (x : F) → Some x ≡ None → ⊥
no_some x e = cc

pub or_else_none : {F : Type 0} (a b : Option F) → or_else a b ≡ None → (a ≡ None) × (b ≡ None)
or_else_none (Some x) b e = absurd (no_some x e)
or_else_none None b e = (refl, e)

pub both_none : {F : Type 0} (a b : Option F) → a ≡ None → b ≡ None → or_else a b ≡ None
both_none a b e f = ap (λ (o : Option _). or_else o b) e ∙ f

pub unless_none : {F : Type 0} (b : Bool) (f : F) → unless b f ≡ None → b ≡ true
unless_none true f e = refl
unless_none false f e = absurd (no_some f e)

pub unless_clear : {F : Type 0} (b : Bool) (f : F) → b ≡ true → unless b f ≡ None
unless_clear b f e = ap (λ (x : Bool). cond x None (Some f)) e

pub nothing_none : {F : Type 0} (o : Option F) → nothing_wrong o ≡ true → o ≡ None
nothing_none None e = refl
nothing_none (Some f) e = cc

module _ {F : Type 0} (f : ℕ → Option F) where
  pub lowest_none : (n : ℕ) → lowest f n ≡ None → (i : ℕ) → i < n → f i ≡ None
  lowest_none zero e i h = absurd (omega arith)
  lowest_none (suc n) e i h =
      let both = or_else_none (lowest f n) (f n) e in
      ⊎_elim (λ (x : i ≡ n). subst (λ (k : ℕ). f k ≡ None) (sym x) both.1) (λ (x : i ≡ n → ⊥). lowest_none n both.0 i (earlier x)) (cases_eq i n)
    where
      earlier : (i ≡ n → ⊥) → i < n
      earlier x = grind (arith, x)

  pub lowest_clear : (n : ℕ) → ((i : ℕ) → i < n → f i ≡ None) → lowest f n ≡ None
  lowest_clear zero h = refl
  lowest_clear (suc n) h = ap (λ (o : Option F). or_else o (f n)) (lowest_clear n (λ i l. h i (omega arith))) ∙ h n (omega arith)

  pub lowest_more : (i : ℕ) → lowest f i ≡ None → f i ≡ None → lowest f (i + 1) ≡ None
  lowest_more i e h = ap (lowest f) (add-one i) ∙ (ap (λ (o : Option F). or_else o (f i)) e ∙ h)

  pub lowest_found : (i n : ℕ) (x : F) → lowest f i ≡ None → f i ≡ Some x → i < n → lowest f n ≡ Some x
  lowest_found i zero x e h l = absurd (omega arith)
  lowest_found i (suc n) x e h l =
      ⊎_elim
      (λ (d : i ≡ n). subst (λ (k : ℕ). or_else (lowest f k) (f k) ≡ Some x) d (ap (λ (o : Option F). or_else o (f i)) e ∙ h))
      (λ (d : i ≡ n → ⊥). ap (λ (o : Option F). or_else o (f n)) (lowest_found i n x e h (earlier d)))
      (cases_eq i n)
    where
      earlier : (i ≡ n → ⊥) → i < n
      earlier d = grind (arith, d)

  -- the same, of an answer that was tested
  pub lowest_some : (i n : ℕ) (o : Option F) → lowest f i ≡ None → o ≡ f i → is_some o ≡ true → i < n → o ≡ lowest f n
  lowest_some i n (Some x) e h s l = sym (lowest_found i n x e (sym h) l)
  lowest_some i n None e h s l = cc

pub none_since : {F : Type 0} (o : Option F) → is_some o ≡ false → o ≡ None
none_since (Some x) e = cc
none_since None e = refl

module _ (q : ℕ → Bool) where
  pub some_below_none : (n : ℕ) → some_below q n ≡ false → (i : ℕ) → i < n → q i ≡ false
  some_below_none zero e i h = absurd (omega arith)
  some_below_none (suc n) e i h = ⊎_elim (λ (x : i ≡ n). ap q x ∙ or_right_false (some_below q n) (q n) e) (λ (x : i ≡ n → ⊥). some_below_none n (or_left_false (some_below q n) (q n) e) i (earlier x)) (cases_eq i n)
    where
      earlier : (i ≡ n → ⊥) → i < n
      earlier x = grind (arith, x)

      or_left_false : (a b : Bool) → (a || b) ≡ false → a ≡ false
      or_left_false true b e = e
      or_left_false false b e = refl

      or_right_false : (a b : Bool) → (a || b) ≡ false → b ≡ false
      or_right_false true b e = cc
      or_right_false false b e = e

  pub some_below_found : (n : ℕ) → some_below q n ≡ true → (i : ℕ) × (i < n) × (q i ≡ true)
  some_below_found zero e = cc
  some_below_found (suc n) e = go (some_below q n) refl e (λ x. some_below_found n x)
    where
      go : (b : Bool) → some_below q n ≡ b → (b || q n) ≡ true → (some_below q n ≡ true → (i : ℕ) × (i < n) × (q i ≡ true)) → (i : ℕ) × (i < suc n) × (q i ≡ true)
      go true x y before = let found = before x in (found.0, omega (arith, found.1), found.2)
      go false x y before = (n, omega arith, y)
