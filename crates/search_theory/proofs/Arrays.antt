-- What code that keeps its rows in cells goes by: no table has more head buffers than children, no row an entry past the
-- limit, and none matters past them.
use Rattle.std.proofs.Common.{◌≡◌, ℕ, zero, suc, ◌+◌, ◌-◌, ◌<◌, ◌≤◌, true, false, cond, ◌&&◌, eqb, leb, List, [], ◌∷◌, length, Some, None, Option, refl, ap, ◌∙◌, arith}
use Rattle.std.proofs.lemmas.Bool.Decides.{nat_tests}
use Rattle.search_theory.specs.Costs.{Kind}
use Rattle.search_theory.specs.Entries.{Priced, cheaper, cheapest, Row}
use Rattle.search_theory.specs.Joining.{Choice, tagged, join, charged, best_entry, headed, table}
use Rattle.search_theory.specs.Layouts.{Problem}
use Rattle.search_theory.specs.Search.{fork}

module _ {C X : Type 0} (o : Kind C) where
  pub cheapest_none : (n : ℕ) (f : ℕ → Option (Priced C X)) → ((k : ℕ) → k < n → f k ≡ None) → cheapest o n f ≡ None
  cheapest_none zero f h = refl
  cheapest_none (suc n) f h = ap (λ x. cheaper o x (f n)) (cheapest_none n f (λ k l. h k (omega arith))) ∙ h n (omega arith)

  pub cheaper_none : (a : Option (Priced C X)) → cheaper o a None ≡ a
  cheaper_none None = refl
  cheaper_none (Some a) = refl

  pub cheapest_cap : (n d : ℕ) (f : ℕ → Option (Priced C X)) → ((k : ℕ) → n ≤ k → f k ≡ None) → cheapest o (d + n) f ≡ cheapest o n f
  cheapest_cap n zero f h = let z : 0 + n ≡ n = omega arith in ap (λ k. cheapest o k f) z
  cheapest_cap n (suc d) f h =
      let z : suc d + n ≡ suc (d + n) = omega arith in
      ap (λ k. cheapest o k f) z ∙ ap (cheaper o (cheapest o (d + n) f)) (h (d + n) (omega arith)) ∙ cheaper_none (cheapest o (d + n) f) ∙ cheapest_cap n d f h

module _ {C X : Type 0} (o : Kind C) (limit : ℕ) (p : ℕ → C) where
  pub table_few : (rs : List (Row C X)) (h j : ℕ) → length rs < h → table o limit p rs h j ≡ None
  table_few [] h j m =
      let z : (eqb h 0 && eqb j 0) ≡ false = grind (arith, nat_tests) in
      ap (λ b. cond b (Some (record { cost = o.nothing; what = [] })) None) z
  table_few (r ∷ rs) zero j m = absurd (omega arith)
  table_few (r ∷ rs) (suc h) j m =
      ap (λ x. cheaper o x (headed o p (table o limit p rs) (best_entry o limit r) (suc h) j))
      (cheapest_none o j (λ e. join o false (table o limit p rs (suc h) (j - suc e)) (tagged e (r e))) (λ e l. ap (λ t. join o false t (tagged e (r e))) (table_few rs (suc h) (j - suc e) (omega arith))))
      ∙ ap (λ t. charged o (p h) (join o true t (best_entry o limit r))) (table_few rs h j (omega arith))

pub fork_short : {C : Type 0} (o : Kind C) (N : Problem C) (i : ℕ) (rs : List (Row C Choice)) (e : ℕ) → N.limit < e → fork o N i rs e ≡ None
fork_short o N i rs e h = let z : leb e N.limit ≡ false = grind (arith, nat_tests) in rw z
