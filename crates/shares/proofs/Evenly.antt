-- A unit that passes one test for each limit up to the largest is divided exactly by each.
use Rattle.std.proofs.Common.{◌≡◌, ℕ, zero, suc, ◌*◌, ◌/◌, Bool, true, ◌&&◌, eqb, refl, subst, ⊎_elim, arith}
use Rattle.std.proofs.lemmas.Bool.{eqb-true, and_parts, cases_lt}
use Rattle.net.specs.Largest.{largest_limit}
use Rattle.shares.specs.Shares.{Exact, share_of, share_unit}

abbrev evenly : ℕ → ℕ → Bool
evenly unit zero = true
evenly unit (suc n) = eqb (unit / suc n * suc n) unit && evenly unit n

exact_to : (unit largest : ℕ) → evenly unit largest ≡ true → (limit : ℕ) → Exact largest unit limit (share_of unit limit)
exact_to unit zero e limit low high = absurd (omega arith)
exact_to unit (suc n) e limit low high =
    let both = and_parts _ _ e in
    ⊎_elim
    (λ h. exact_to unit n both.1 limit low (omega arith))
    (λ h. let same : suc n ≡ limit = omega arith in subst (λ (k : ℕ). unit / k * k ≡ unit) same (eqb-true _ _ both.0))
    (cases_lt limit (suc n))

pub exact : (limit : ℕ) → Exact largest_limit share_unit limit (share_of share_unit limit)
exact = exact_to share_unit largest_limit refl
