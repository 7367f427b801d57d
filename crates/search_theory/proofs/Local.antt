-- The rule of buffers at one index: its row is sound and complete for the choices that fit there.
use Rattle.std.proofs.Common.{◌≡◌, ℕ, suc, ◌<◌, ◌≤◌, Bool, true, false, cond, ◌&&◌, eqb, leb, List, Some, None, Option, sym, refl, ap, ◌∙◌, subst, arith}
use Rattle.std.proofs.lemmas.Bool.Decides.{nat_tests}
use Rattle.search_theory.specs.Costs.{Kind, Lawful, below, total}
use Rattle.search_theory.specs.Entries.{Priced, cheaper, cheapest, Row, Each}
use Rattle.search_theory.specs.Joining.{Branch, Choice, Table, charged, table, plain, trunked, finish}
use Rattle.search_theory.proofs.Best.{each_map, cheaper_each, cheapest_each, cheaper_left, cheaper_right, cheapest_least}
use Rattle.search_theory.proofs.Costs.{no_test, adds, no_more_trans, no_more_add}
use Rattle.search_theory.proofs.Induction.{Rule}
use Rattle.search_theory.proofs.Infinite.{add, NoMore, worth, rows_at, enterings, heads, loose_length, Driven}
use Rattle.search_theory.proofs.Joined.{worth_charged, worth_chosen, each_charged, each_chosen, bill, table_best, Made, table_made}

-- the buffer-rule that stand at the index
abbrev pub standing : Choice → ℕ
standing x = cond x.trunk (suc (heads x.branches)) (heads x.branches)

pub record Fits (limit : ℕ) (free : Bool) (spare : ℕ) (x : Choice) (e : ℕ) : Type 0 where
  pub room : standing x ≤ spare
  pub reach : loose_length x.branches ≤ limit
  pub driven : Driven limit x.branches
  pub allowed : x.trunk ≡ true → free ≡ true
  pub enters : e ≡ cond x.trunk 0 (loose_length x.branches)

module _ {C : Type 0} {o : Kind C} (l : Lawful o) (limit : ℕ) (free : Bool) (spare : ℕ) (p : ℕ → C) where
  finish_plain : (t : Table C) (h e : ℕ) → h ≤ spare → e ≤ limit → NoMore o (worth (finish o limit free spare p t e)) (worth (t h e))
  finish_plain t h e m k =
      let q : leb e limit ≡ true = grind (arith, nat_tests) in
      subst (λ b. NoMore o (worth (cond b all None)) (worth (t h e))) (sym q)
      (no_more_trans l (worth all) (worth (plain o spare t e)) (worth (t h e)) (cheaper_left l (plain o spare t e) other)
      (subst (λ x. NoMore o x (worth (t h e))) (sym (worth_chosen o false (cheapest o (suc spare) (λ h. t h e)))) (cheapest_least l (suc spare) (λ h. t h e) h (omega arith))))
    where
      other : Option (Priced C Choice)
      other = cond (free && eqb e 0) (trunked o limit spare p t) None

      all : Option (Priced C Choice)
      all = cheaper o (plain o spare t e) other

  finish_trunked : (t : Table C) (h j : ℕ) → free ≡ true → h < spare → j ≤ limit → NoMore o (worth (finish o limit free spare p t 0)) (add o (worth (t h j)) (Some (p h)))
  finish_trunked t h j f m k =
      let q : leb 0 limit ≡ true = grind (arith, nat_tests) in
      subst (λ b. NoMore o (worth (cond b (cheaper o (plain o spare t 0) (cond (free && eqb 0 0) (trunked o limit spare p t) None)) None)) goal) (sym q)
      (subst (λ b. NoMore o (worth (cheaper o (plain o spare t 0) (cond (b && eqb 0 0) (trunked o limit spare p t) None))) goal) (sym f)
      (no_more_trans l (worth (cheaper o (plain o spare t 0) (trunked o limit spare p t))) (worth (trunked o limit spare p t)) goal (cheaper_right l (plain o spare t 0) (trunked o limit spare p t))
      (subst (λ x. NoMore o x goal) (sym (worth_chosen o true (cheapest o spare each)))
      (no_more_trans l (worth (cheapest o spare each)) (worth (each h)) goal (cheapest_least l spare each h m)
      (subst (λ x. NoMore o x goal) (sym (worth_charged o (p h) (cheapest o (suc limit) (t h))))
      (no_more_add l (worth (cheapest o (suc limit) (t h))) (worth (t h j)) (Some (p h)) (cheapest_least l (suc limit) (t h) j (omega arith))))))))
    where
      goal : Option C
      goal = add o (worth (t h j)) (Some (p h))

      each : ℕ → Option (Priced C (List Branch))
      each = λ h. charged o (p h) (cheapest o (suc limit) (λ j. t h j))

  pub local_best : (rows : List (Row C Choice)) (e : ℕ) (x : Choice) → Fits limit free spare x e
      → NoMore o (worth (finish o limit free spare p (table o limit p rows) e)) (add o (Some (total o p (below (standing x)))) (rows_at o rows (enterings x.branches)))
  local_best rows e x ok = go x.trunk ok.room ok.allowed ok.enters
    where
      bs : List Branch
      bs = x.branches

      T : Table C
      T = table o limit p rows

      go : (b : Bool) → cond b (suc (heads bs)) (heads bs) ≤ spare → (b ≡ true → free ≡ true) → e ≡ cond b 0 (loose_length bs)
          → NoMore o (worth (finish o limit free spare p T e)) (add o (Some (total o p (below (cond b (suc (heads bs)) (heads bs))))) (rows_at o rows (enterings bs)))
      go true m a q =
          subst (λ e. NoMore o (worth (finish o limit free spare p T e)) (add o (Some (total o p (below (suc (heads bs))))) (rows_at o rows (enterings bs)))) (sym q)
          (no_more_trans l (worth (finish o limit free spare p T 0)) (add o (worth (T (heads bs) (loose_length bs))) (Some (p (heads bs)))) (add o (Some (total o p (below (suc (heads bs))))) (rows_at o rows (enterings bs)))
          (finish_trunked T (heads bs) (loose_length bs) (a refl) m ok.reach)
          (subst (NoMore o (add o (worth (T (heads bs) (loose_length bs))) (Some (p (heads bs)))))
          ((adds l).comm (bill l limit p rows bs) (Some (p (heads bs))) ∙ sym ((adds l).assoc (Some (p (heads bs))) (Some (total o p (below (heads bs)))) (rows_at o rows (enterings bs))))
          (no_more_add l (worth (T (heads bs) (loose_length bs))) (bill l limit p rows bs) (Some (p (heads bs))) (table_best l limit p rows bs ok.driven))))
      go false m a q =
          subst (λ e. NoMore o (worth (finish o limit free spare p T e)) (bill l limit p rows bs)) (sym q)
          (no_more_trans l (worth (finish o limit free spare p T (loose_length bs))) (worth (T (heads bs) (loose_length bs))) (bill l limit p rows bs)
          (finish_plain T (heads bs) (loose_length bs) m ok.reach) (table_best l limit p rows bs ok.driven))

  -- what stands in a row
  abbrev pub Kept : List (Row C Choice) → ℕ → Priced C Choice → Type 0
  Kept rows e a = Fits limit free spare a.what e × (Some a.cost ≡ add o (Some (total o p (below (standing a.what)))) (rows_at o rows (enterings a.what.branches)))

  pub local_made : (rows : List (Row C Choice)) (e : ℕ) → Each (Kept rows e) (finish o limit free spare p (table o limit p rows) e)
  local_made rows e = in_reach (leb e limit) refl
    where
      T : Table C
      T = table o limit p rows

      without : e ≤ limit → Each (Kept rows e) (plain o spare T e)
      without m =
          each_chosen o (λ a. (heads a.what ≤ spare) × Made l limit p rows (heads a.what) e a) (Kept rows e) false (cheapest o (suc spare) (λ h. T h e))
          (λ a q. (record { room = q.0; reach = omega (arith, q.1.loose_is); driven = q.1.driven; allowed = λ z. absurd (no_test z); enters = sym q.1.loose_is }, q.1.costs))
          (cheapest_each o (λ a. (heads a.what ≤ spare) × Made l limit p rows (heads a.what) e a) (suc spare) (λ h. T h e)
          (λ h k. each_map (T h e) (λ a q. (omega (arith, q.heads_are), subst (λ i. Made l limit p rows i e a) (sym q.heads_are) q)) (table_made l limit p rows h e)))

      -- with the trunk buffer as the last that stands here
      Last : Priced C (List Branch) → Type 0
      Last a = (heads a.what < spare) × (loose_length a.what ≤ limit) × Driven limit a.what × (Some a.cost ≡ add o (Some (total o p (below (suc (heads a.what))))) (rows_at o rows (enterings a.what)))

      paid : (h : ℕ) → h < spare → (a : Priced C (List Branch)) → (loose_length a.what ≤ limit) × Made l limit p rows h (loose_length a.what) a → Last (record { cost = o.plus a.cost (p h); what = a.what })
      paid h k a q = (
        omega (arith, q.1.heads_are),
        q.0,
        q.1.driven,
        subst (λ i. Some (o.plus a.cost (p h)) ≡ add o (Some (total o p (below (suc i)))) A) (sym q.1.heads_are)
            (ap (λ x. add o x (Some (p h))) q.1.costs ∙ (adds l).comm (add o (Some (total o p (below h))) A) (Some (p h)) ∙ sym ((adds l).assoc (Some (p h)) (Some (total o p (below h))) A)),
      )
        where
          A : Option C
          A = rows_at o rows (enterings a.what)

      with : free ≡ true → e ≡ 0 → Each (Kept rows e) (trunked o limit spare p T)
      with f z =
          each_chosen o Last (Kept rows e) true (cheapest o spare (λ h. charged o (p h) (cheapest o (suc limit) (λ j. T h j))))
          (λ a q. (record { room = q.0; reach = q.1; driven = q.2; allowed = λ _. f; enters = z }, q.3))
          (cheapest_each o Last spare (λ h. charged o (p h) (cheapest o (suc limit) (λ j. T h j)))
          (λ h k. each_charged o (λ a. (loose_length a.what ≤ limit) × Made l limit p rows h (loose_length a.what) a) Last (p h) (cheapest o (suc limit) (λ j. T h j)) (paid h k)
          (cheapest_each o (λ a. (loose_length a.what ≤ limit) × Made l limit p rows h (loose_length a.what) a) (suc limit) (λ j. T h j)
          (λ j m. each_map (T h j) (λ a q. (omega (arith, q.loose_is), subst (λ i. Made l limit p rows h i a) (sym q.loose_is) q)) (table_made l limit p rows h j)))))

      second : e ≤ limit → (b : Bool) → (free && eqb e 0) ≡ b → Each (Kept rows e) (cond b (trunked o limit spare p T) None)
      second m true q = with (grind (arith, nat_tests)) (grind (arith, nat_tests))
      second m false q = tt

      in_reach : (b : Bool) → leb e limit ≡ b → Each (Kept rows e) (cond b (cheaper o (plain o spare T e) (cond (free && eqb e 0) (trunked o limit spare p T) None)) None)
      in_reach true q =
          let m : e ≤ limit = grind (arith, nat_tests) in
          cheaper_each o (Kept rows e) (plain o spare T e) (cond (free && eqb e 0) (trunked o limit spare p T) None) (without m) (second m (free && eqb e 0) refl)
      in_reach false q = tt

-- over the whole tree: the price of a site may depend on its tile and on how many stand there before it
abbrev pub buffer_rule : {C : Type 0} {o : Kind C} → Lawful o → (limit : ℕ) (free : ℕ → Bool) (spare : ℕ → ℕ) (price : ℕ → ℕ → C) → Rule o Choice
buffer_rule {o = o} l limit free spare price = record {
  enterings = λ x. enterings x.branches;
  Fits = λ i. Fits limit (free i) (spare i);
  here = λ i x. total o (price i) (below (standing x));
  fork = λ i rows. finish o limit (free i) (spare i) (price i) (table o limit (price i) rows);
  sound = λ i. local_made l limit (free i) (spare i) (price i);
  complete = λ i. local_best l limit (free i) (spare i) (price i);
}
