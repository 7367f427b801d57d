-- The cheapest of several costs no more than any, and is one of them.
use Rattle.std.proofs.Common.{◌≡◌, ℕ, zero, suc, ◌<◌, Bool, true, false, cond, ◌⊎◌, Some, None, Option, sym, refl, subst, inl, inr, eq-or-lt_of_le, arith}
use Rattle.search_theory.specs.Costs.{Kind, Lawful}
use Rattle.search_theory.specs.Entries.{Priced, cheaper, cheapest, Each}
use Rattle.search_theory.proofs.Costs.{refl_at_most, no_more_refl, no_more_trans, total_other}
use Rattle.search_theory.proofs.Infinite.{NoMore, worth}

pub each_map : {X : Type 0} {P Q : X → Type 0} (a : Option X) → ((x : X) → P x → Q x) → Each P a → Each Q a
each_map None f h = tt
each_map (Some x) f h = f x h

module _ {C X : Type 0} (o : Kind C) where
  cond_each : (P : Priced C X → Type 0) (b : Bool) (x y : Priced C X) → P x → P y → Each P (cond b (Some x) (Some y))
  cond_each P true x y h k = h
  cond_each P false x y h k = k

  pub cheaper_each : (P : Priced C X → Type 0) (a b : Option (Priced C X)) → Each P a → Each P b → Each P (cheaper o a b)
  cheaper_each P None b h k = k
  cheaper_each P (Some a) None h k = h
  cheaper_each P (Some a) (Some b) h k = cond_each P (o.at_most a.cost b.cost) a b h k

  pub cheapest_each : (P : Priced C X → Type 0) (n : ℕ) (f : ℕ → Option (Priced C X)) → ((k : ℕ) → k < n → Each P (f k)) → Each P (cheapest o n f)
  cheapest_each P zero f h = tt
  cheapest_each P (suc n) f h = cheaper_each P (cheapest o n f) (f n) (cheapest_each P n f (λ k l. h k (omega arith))) (h n (omega arith))

module _ {C : Type 0} {o : Kind C} (l : Lawful o) {X : Type 0} where
  pub cheaper_left : (a b : Option (Priced C X)) → NoMore o (worth (cheaper o a b)) (worth a)
  cheaper_left None b = tt
  cheaper_left (Some a) None = refl_at_most l a.cost
  cheaper_left (Some a) (Some b) = go (o.at_most a.cost b.cost) refl
    where
      go : (v : Bool) → o.at_most a.cost b.cost ≡ v → NoMore o (worth (cond v (Some a) (Some b))) (Some a.cost)
      go true e = refl_at_most l a.cost
      go false e = total_other l a.cost b.cost e

  pub cheaper_right : (a b : Option (Priced C X)) → NoMore o (worth (cheaper o a b)) (worth b)
  cheaper_right None b = no_more_refl l (worth b)
  cheaper_right (Some a) None = tt
  cheaper_right (Some a) (Some b) = go (o.at_most a.cost b.cost) refl
    where
      go : (v : Bool) → o.at_most a.cost b.cost ≡ v → NoMore o (worth (cond v (Some a) (Some b))) (Some b.cost)
      go true e = e
      go false e = refl_at_most l b.cost

  pub cheapest_least : (n : ℕ) (f : ℕ → Option (Priced C X)) (k : ℕ) → k < n → NoMore o (worth (cheapest o n f)) (worth (f k))
  cheapest_least zero f k h = absurd (omega arith)
  cheapest_least (suc n) f k h = go (eq-or-lt_of_le (omega arith)) (λ l. cheapest_least n f k l)
    where
      both : Option (Priced C X)
      both = cheaper o (cheapest o n f) (f n)

      go : (k ≡ n) ⊎ (k < n) → (k < n → NoMore o (worth (cheapest o n f)) (worth (f k))) → NoMore o (worth both) (worth (f k))
      go (inl e) ih = subst (λ i. NoMore o (worth both) (worth (f i))) (sym e) (cheaper_right (cheapest o n f) (f n))
      go (inr m) ih = no_more_trans l (worth both) (worth (cheapest o n f)) (worth (f k)) (cheaper_left (cheapest o n f) (f n)) (ih m)
