-- Each worked example, by what the definitions and the check compute of it.
use Rattle.std.proofs.Common.{◌≡◌, ℕ, zero, suc, ◌<◌, ◌≤◌, Bool, true, false, not, ◌&&◌, List, [], ◌∷◌, length, drop, sym, refl, ap, subst, arith}
use Rattle.std.specs.List.{AllByRecursion}
use Rattle.std.proofs.lemmas.Bool.{and_parts, both_ways, not-true}
use Rattle.net.specs.declared.records.record.Record.{Record}
use Rattle.net.specs.Lowest.{nothing_wrong}
use Rattle.net.proofs.Properly.{proper_if}
use Rattle.length_rule.specs.Legal.{Legal}
use Rattle.length_rule.specs.Marks.{mark_at}
use Rattle.length_rule.specs.Refusals.{plan_fault}
use Rattle.length_rule.proofs.Accepts.{legal_if, none_if}
use Rattle.worked.specs.Examples.{Holds, examples, branches, join, strip, square}
use Rattle.worked.proofs.CheapestStrip.{path_proper, path_cheapest}

-- what the check refuses is not legal
refused : (limit : ℕ) (rs : List Record) (spare ms : List ℕ) → 1 ≤ length rs → nothing_wrong (plan_fault limit rs spare ms) ≡ false → Legal limit rs spare ms → ⊥
refused limit rs spare ms some e l = both_ways (nothing_wrong (plan_fault limit rs spare ms)) e (ap nothing_wrong (none_if limit rs spare ms some l))

-- a test of every mark
abbrev each_mark : (ℕ → Bool) → Bool
each_mark q = (q 0 && q 1) && (q 2 && q 3)

mark_passes : (q : ℕ → Bool) → each_mark q ≡ true → (m : ℕ) → m ≤ 3 → q m ≡ true
mark_passes q e zero h = (and_parts (q 0) (q 1) (and_parts (q 0 && q 1) (q 2 && q 3) e).0).0
mark_passes q e (suc zero) h = (and_parts (q 0) (q 1) (and_parts (q 0 && q 1) (q 2 && q 3) e).0).1
mark_passes q e (suc (suc zero)) h = (and_parts (q 2) (q 3) (and_parts (q 0 && q 1) (q 2 && q 3) e).1).0
mark_passes q e (suc (suc (suc zero))) h = (and_parts (q 2) (q 3) (and_parts (q 0 && q 1) (q 2 && q 3) e).1).1
mark_passes q e (suc (suc (suc (suc m)))) h = absurd (omega arith)

one_spare : List ℕ
one_spare = 0 ∷ 1 ∷ 0 ∷ 0 ∷ []

fails : ℕ → ℕ → ℕ → Bool
unfolding one_spare
fails b c d = not (nothing_wrong (plan_fault 1 join one_spare (0 ∷ b ∷ c ∷ d ∷ [])))

all_fail : each_mark (λ b. each_mark (λ c. each_mark (λ d. fails b c d))) ≡ true
unfolding fails one_spare
all_fail = refl

no_plan : (ms : List ℕ) → length ms ≡ 4 → ((i : ℕ) → i < 4 → mark_at ms i ≤ 3) → mark_at ms 0 ≡ 0 → nothing_wrong (plan_fault 1 join one_spare ms) ≡ false
unfolding fails
no_plan [] e m z = absurd (omega arith)
no_plan (a ∷ []) e m z = absurd (omega arith)
no_plan (a ∷ (b ∷ [])) e m z = absurd (omega arith)
no_plan (a ∷ (b ∷ (c ∷ []))) e m z = absurd (omega arith)
no_plan (a ∷ (b ∷ (c ∷ (d ∷ [])))) e m z =
    subst (λ (x : ℕ). nothing_wrong (plan_fault 1 join one_spare (x ∷ (b ∷ (c ∷ (d ∷ []))))) ≡ false) (sym z)
    (not-true (nothing_wrong (plan_fault 1 join one_spare (0 ∷ (b ∷ (c ∷ (d ∷ []))))))
    (mark_passes (λ y. fails b c y)
    (mark_passes (λ x. each_mark (λ y. fails b x y)) (mark_passes (λ w. each_mark (λ x. each_mark (λ y. fails w x y))) all_fail b (m 1 (omega arith))) c (m 2 (omega arith)))
    d (m 3 (omega arith))))
no_plan (a ∷ (b ∷ (c ∷ (d ∷ (x ∷ xs))))) e m z = absurd (omega arith)

none_of_join : (ms : List ℕ) → Legal 1 join one_spare ms → ⊥
none_of_join ms l = refused 1 join one_spare ms (omega arith) (no_plan ms l.plan.each l.plan.known l.plan.driver) l

plans : AllByRecursion Holds (drop 5 examples)
unfolding one_spare
plans = (
  (proper_if strip branches refl, legal_if 3 branches (0 ∷ 0 ∷ 0 ∷ 0 ∷ []) (0 ∷ 0 ∷ 0 ∷ 0 ∷ []) (omega arith) refl),
  (
    (proper_if strip branches refl, refused 2 branches (0 ∷ 0 ∷ 0 ∷ 0 ∷ []) (0 ∷ 0 ∷ 0 ∷ 0 ∷ []) (omega arith) refl),
    (
      (proper_if square join refl, legal_if 1 join (0 ∷ 2 ∷ 0 ∷ 0 ∷ []) (0 ∷ 0 ∷ 1 ∷ 1 ∷ []) (omega arith) refl),
      (
        (proper_if square join refl, none_of_join),
        ((proper_if square join refl, legal_if 2 join (0 ∷ 1 ∷ 0 ∷ 0 ∷ []) (0 ∷ 2 ∷ 0 ∷ 0 ∷ []) (omega arith) refl), tt),
      ),
    ),
  ),
)

pub shown : AllByRecursion Holds examples
shown = (refl, (refl, (refl, (refl, ((path_proper, path_cheapest), plans)))))
