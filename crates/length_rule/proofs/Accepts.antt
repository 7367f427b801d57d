-- The refusals of a plan leave exactly the legal plans.
use Rattle.std.proofs.Common.{◌≡◌, ℕ, ◌<◌, ◌≤◌, Bool, cond, eqb, leb, List, [], ◌∷◌, length, is_ok, None, Some, Ok, Err, Decides, Result, sym, refl, ap, ◌∙◌, subst, ⊎_elim, arith}
use Rattle.std.specs.List.{AllByRecursion}
use Rattle.std.proofs.lemmas.Bool.{leb-true, le-leb, eqb-true, eq-eqb, ne_eqb, cases_eq}
use Rattle.std.proofs.lemmas.Bool.Decides.{nat_tests}
use Rattle.net.specs.declared.records.record.Record.{Record}
use Rattle.net.specs.Lowest.{lowest, unless, nothing_wrong, fault_of}
use Rattle.net.proofs.Firsts.{or_else_none, both_none, unless_none, unless_clear, nothing_none, lowest_none, lowest_clear}
use Rattle.length_rule.specs.declared.PlanFault.{PlanFault}
use Rattle.length_rule.specs.declared.PlanFault.TheVariants.{Marks, Mark, Drives, Sites}
use Rattle.length_rule.specs.declared.Gate.{Gate}
use Rattle.length_rule.specs.Gates.{gates_at, need}
use Rattle.length_rule.specs.Legal.{spare_at, Legal}
use Rattle.length_rule.specs.Marks.{mark_at}
use Rattle.length_rule.specs.Refusals.{mark_fault, over_limit, gate_fault, site_fault, plan_fault}

within : (limit i : ℕ) (gs : List Gate) → over_limit limit i gs ≡ None → AllByRecursion (λ g. g.drives ≤ limit) gs
within limit i [] e = tt
within limit i (g ∷ gs) e =
    let both = or_else_none (unless (leb g.drives limit) (Drives i g.drives)) (over_limit limit i gs) e in
    (leb-true g.drives limit (unless_none (leb g.drives limit) (Drives i g.drives) both.0), within limit i gs both.1)

none_over : (limit i : ℕ) (gs : List Gate) → AllByRecursion (λ g. g.drives ≤ limit) gs → over_limit limit i gs ≡ None
none_over limit i [] h = refl
none_over limit i (g ∷ gs) h =
    both_none (unless (leb g.drives limit) (Drives i g.drives)) (over_limit limit i gs)
    (unless_clear (leb g.drives limit) (Drives i g.drives) (le-leb g.drives limit h.0))
    (none_over limit i gs h.1)

mark_known : (i m : ℕ) → m ≤ cond (eqb i 0) 0 3 → m ≤ 3
mark_known i m h = grind (arith, nat_tests)

mark_allowed : (ms : List ℕ) (i : ℕ) → mark_at ms i ≤ 3 → mark_at ms 0 ≡ 0 → mark_at ms i ≤ cond (eqb i 0) 0 3
mark_allowed ms i h e = ⊎_elim (λ (z : i ≡ 0). subst (λ (k : ℕ). mark_at ms k ≤ cond (eqb k 0) 0 3) (sym z) (omega arith)) (λ (z : i ≡ 0 → ⊥). subst (λ (b : Bool). mark_at ms i ≤ cond b 0 3) (sym (ne_eqb i 0 z)) h) (cases_eq i 0)

module _ (limit : ℕ) (rs : List Record) (spare ms : List ℕ) (some : 1 ≤ length rs) where
  pub legal_if : plan_fault limit rs spare ms ≡ None → Legal limit rs spare ms
  legal_if e =
      let a = or_else_none (unless (eqb (length ms) (length rs)) (Marks (length rs))) _ e in
      let b = or_else_none (lowest (mark_fault ms) (length rs)) _ a.1 in
      let c = or_else_none (lowest (gate_fault limit rs ms) (length rs)) (lowest (site_fault rs spare ms) (length rs)) b.1 in
      let mark : (i : ℕ) → i < length rs → mark_at ms i ≤ cond (eqb i 0) 0 3 =
      λ i h. leb-true (mark_at ms i) (cond (eqb i 0) 0 3) (unless_none (leb (mark_at ms i) (cond (eqb i 0) 0 3)) (Mark i) (lowest_none (mark_fault ms) (length rs) b.0 i h)) in
      record {
        plan = record {
          each = eqb-true (length ms) (length rs) (unless_none (eqb (length ms) (length rs)) (Marks (length rs)) a.0);
          known = λ i h. mark_known i (mark_at ms i) (mark i h);
          driver = omega (arith, mark 0 some);
        };
        driven = λ i h. within limit i (gates_at rs ms i) (lowest_none (gate_fault limit rs ms) (length rs) c.0 i h);
        fits = λ i h. leb-true (need rs ms i) (spare_at spare i) (unless_none (leb (need rs ms i) (spare_at spare i)) (Sites i) (lowest_none (site_fault rs spare ms) (length rs) c.1 i h));
      }

  pub none_if : Legal limit rs spare ms → plan_fault limit rs spare ms ≡ None
  none_if l =
      both_none (unless (eqb (length ms) (length rs)) (Marks (length rs))) _ (unless_clear (eqb (length ms) (length rs)) (Marks (length rs)) (eq-eqb (length ms) (length rs) l.plan.each))
      (both_none (lowest (mark_fault ms) (length rs)) _
      (lowest_clear (mark_fault ms) (length rs)
      (λ i h. unless_clear (leb (mark_at ms i) (cond (eqb i 0) 0 3)) (Mark i) (le-leb (mark_at ms i) (cond (eqb i 0) 0 3) (mark_allowed ms i (l.plan.known i h) l.plan.driver))))
      (both_none (lowest (gate_fault limit rs ms) (length rs)) (lowest (site_fault rs spare ms) (length rs))
      (lowest_clear (gate_fault limit rs ms) (length rs) (λ i h. none_over limit i (gates_at rs ms i) (l.driven i h)))
      (lowest_clear (site_fault rs spare ms) (length rs)
      (λ i h. unless_clear (leb (need rs ms i) (spare_at spare i)) (Sites i) (le-leb (need rs ms i) (spare_at spare i) (l.fits i h))))))

  -- what the check answers tells whether the plan is legal
  pub exactly : {A : Type 0} (r : Result A PlanFault) → fault_of r ≡ plan_fault limit rs spare ms → Decides (is_ok r) (Legal limit rs spare ms)
  exactly (Ok a) e = (λ h. legal_if (sym e), λ l. refl)
  exactly (Err f) e = (λ h. legal_if (sym e ∙ nothing_none (Some f) h), λ l. ap nothing_wrong (e ∙ none_if l))
