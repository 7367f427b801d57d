-- The cheapest plan of the worked strip: the search finds the cost, and what it finds is cheapest.
use Rattle.std.proofs.Common.{◌≡◌, ℕ, ◌<◌, List, [], ◌∷◌, Some, None, Option, refl, subst, inl, inr, add_assoc, add_comm, zero-add, arith}
use Rattle.std.proofs.lemmas.Bool.Decides.{nat_tests, leb_tells}
use Rattle.net.specs.Proper.{Proper}
use Rattle.net.specs.Routes.{parent_of}
use Rattle.net.specs.declared.records.record.Record.{Record}
use Rattle.net.proofs.Properly.{proper_if}
use Rattle.search_theory.specs.Costs.{Lawful}
use Rattle.search_theory.specs.Entries.{Priced}
use Rattle.best_plan.specs.Chosen.{chosen}
use Rattle.best_plan.specs.Cheapest.{Cheapest, AnswersBest}
use Rattle.best_plan.proofs.Legals.{chosen_best}
use Rattle.worked.specs.Examples.{sums, long_strip, path}

pub sums_lawful : Lawful sums
sums_lawful = record {
  total = λ x y. elim (leb_tells x y) [ inl z ↦ inl z.0 | inr z ↦ inr (grind (arith, nat_tests)) ];
  transitive = λ x y z h k. grind (arith, nat_tests);
  associative = add_assoc;
  commutative = add_comm;
  neutral = zero-add;
  monotone = λ x y z h. grind (arith, nat_tests);
}

-- the cost of an answer, or nothing
abbrev cost_is : Option (Priced ℕ (List ℕ)) → ℕ → Type 0
cost_is None n = ⊥
cost_is (Some a) n = a.cost ≡ n

found_cheapest : (limit : ℕ) (rs : List Record) (spare : List ℕ) (prices : List (Option ℕ)) (n : ℕ) (a : Option (Priced ℕ (List ℕ)))
    → AnswersBest sums limit rs spare prices a → cost_is a n → (marks : List ℕ) × Cheapest sums limit rs spare prices n marks
found_cheapest limit rs spare prices n None h e = absurd e
found_cheapest limit rs spare prices n (Some a) h e = (a.what, subst (λ c. Cheapest sums limit rs spare prices c a.what) e h)

pub path_proper : Proper long_strip path
path_proper = proper_if long_strip path refl

path_hangs : (i : ℕ) → 0 < i → i < 8 → parent_of path i < i
path_hangs = path_proper.earlier

abbrev spares : List ℕ
spares = 0 ∷ 1 ∷ 1 ∷ 1 ∷ 0 ∷ 1 ∷ 0 ∷ 0 ∷ []

abbrev offers : List (Option ℕ)
offers = None ∷ Some 1300 ∷ Some 8600 ∷ Some 500 ∷ None ∷ Some 1000 ∷ None ∷ None ∷ []

pub path_cheapest : (marks : List ℕ) × Cheapest sums 3 path spares offers 1500 marks
path_cheapest =
    found_cheapest 3 path spares offers 1500 (chosen sums 3 path spares offers)
    (chosen_best sums_lawful 3 path spares offers (record { some = path_proper.some; earlier = path_hangs })) refl
