-- What a fare means, and that it keeps the laws. An implementation hands the proof of its laws over as a ghost value,
-- and may take it from its own specs/.
use Rattle.std.specs.Prelude.{◌≡◌, ℕ, max, Bool, nat_le, refl}
use Rattle.std.proofs.Common.{inl, inr, ⊎_elim, arith}
use Rattle.std.proofs.lemmas.Bool.{leb-true, le-leb, cases_lt}
use Rattle.laws.specs.Laws.{CostLaws}
use Rattle.any_kind.specs.declared.fare.Fare.{Fare}

abbrev pub fare : ℕ → ℕ → Fare
fare coins stamps = record { coins = coins; stamps = stamps }

abbrev pub fare_plus : Fare → Fare → Fare
fare_plus x y = fare (max x.coins y.coins) (max x.stamps y.stamps)

abbrev pub fare_at_most : Fare → Fare → Bool
fare_at_most x y = nat_le x.coins y.coins

associative : (a b c : ℕ) → max (max a b) c ≡ max a (max b c)
associative a b c = omega arith

commutative : (a b : ℕ) → max a b ≡ max b a
commutative a b = omega arith

neutral : (a : ℕ) → max 0 a ≡ a
neutral a = omega arith

pub fare_laws : CostLaws (fare 0 0) fare_plus fare_at_most
fare_laws = record {
  total = λ x y. ⊎_elim (λ h. inl (le-leb _ _ (omega arith))) (λ h. inr (le-leb _ _ h)) (cases_lt x.coins y.coins);
  transitive = λ x y z p q. let a = leb-true _ _ p in let b = leb-true _ _ q in le-leb _ _ (omega arith);
  associative = λ x y z i. fare (associative x.coins y.coins z.coins i) (associative x.stamps y.stamps z.stamps i);
  commutative = λ x y i. fare (commutative x.coins y.coins i) (commutative x.stamps y.stamps i);
  neutral = λ x i. fare (neutral x.coins i) (neutral x.stamps i);
  monotone = λ x y z p. let a = leb-true _ _ p in le-leb _ _ (omega arith);
}

pub fare_kept : (x : Fare) → fare x.coins x.stamps ≡ x
fare_kept x = refl
