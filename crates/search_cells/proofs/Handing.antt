-- What the rows in cells hand down to each index.
use Rattle.std.proofs.Common.{◌≡◌, ℕ, suc, ◌+◌, ◌*◌, ◌<◌, ◌≤◌, Bool, true, false, cond, ◌&&◌, eqb, ltb, leb, List, [], ◌∷◌, map, length, get_or, Some, None, Option, sym, refl, ap, ◌∙◌, subst, inl, inr, add-one, arith}
use Rattle.std.proofs.lemmas.Bool.Decides.{nat_tests, leb_tells}
use Rattle.search_cells.specs.Cells.{no_leg, branch_of, listed, as_chosen, row_in, rows_of, rows_within}
use Rattle.search_cells.specs.Lists.{last_first}
use Rattle.search_cells.specs.declared.Chosen.{Chosen}
use Rattle.search_cells.specs.declared.few.Few.{Few}
use Rattle.search_cells.specs.declared.Priced.{Priced as Kept}
use Rattle.search_cells.specs.declared.Leg.{Leg}
use Rattle.search_theory.specs.Costs.{Kind, below}
use Rattle.search_theory.specs.Entries.{Priced, cheaper, cheapest, Row, given, what_or, Each}
use Rattle.search_theory.specs.Joining.{Branch, Choice, Table, tagged, charged, best_entry, table, chosen, plain, trunked, finish}
use Rattle.search_theory.specs.Layouts.{Problem, Rooted, kids}
use Rattle.search_theory.specs.Search.{row, no_branch, no_choice, choice_for}
use Rattle.search_theory.specs.Tree.{keep, child}
use Rattle.search_cells.proofs.Filling.{table_long, given_rank}
use Rattle.search_cells.proofs.Pushing.{length_last_first}
use Rattle.search_cells.proofs.Turns.{cheapest_same}
use Rattle.search_theory.proofs.Answer.{row_filled}
use Rattle.search_theory.proofs.Arrays.{fork_short}
use Rattle.search_theory.proofs.Best.{cheaper_each, cheapest_each}
use Rattle.search_theory.proofs.Rebuild.{length_map}

given_nil : {A : Type 0} (d : A) (k : ℕ) (ks : List ℕ) → given d k ks [] ≡ d
given_nil d k [] = refl
given_nil d k (j ∷ ks) = refl

module _ {C : Type 0} (N : Problem C) (r : ℕ → Row C Choice) (k e : ℕ) where
  pub choice_none : None ≡ r (N.parent k) e → no_branch ≡ choice_for N r k e
  choice_none q = sym (given_nil no_branch k (kids N (N.parent k))) ∙ ap (λ x. given no_branch k (kids N (N.parent k)) (what_or no_choice x).branches) q

  pub choice_some : (cost : C) (trunk : Bool) (legs : Few Leg) → Some (record { cost = cost; what = record { trunk = trunk; branches = listed legs } }) ≡ r (N.parent k) e
      → Each (λ a. length a.what.branches ≡ length (kids N (N.parent k))) (r (N.parent k) e) → 0 < k → k < N.count
      → branch_of (get_or legs.items (length (keep (child N.parent (N.parent k)) (below k))) no_leg) ≡ choice_for N r k e
  choice_some cost trunk legs q long pos l =
      let its : child N.parent (N.parent k) k ≡ true = grind (arith, nat_tests) in
      let many : length (listed legs) ≡ length (kids N (N.parent k)) = subst (Each (λ a. length a.what.branches ≡ length (kids N (N.parent k)))) (sym q) long in
      let all : length (kids N (N.parent k)) ≡ legs.count = sym many ∙ length_last_first branch_of no_leg legs.items legs.count in
      sym (given_rank (child N.parent (N.parent k)) legs.items N.count k l its)
      ∙ ap (λ n. given no_branch k (kids N (N.parent k)) (last_first branch_of no_leg legs.items n)) all
      ∙ ap (λ x. given no_branch k (kids N (N.parent k)) (what_or no_choice x).branches) q

-- every choice of a row has a branch-of for each child
module _ {C : Type 0} (o : Kind C) (n : ℕ) where
  chosen_long : (f : Bool) (x : Option (Priced C (List Branch))) → Each (λ a. length a.what ≡ n) x → Each (λ a. length a.what.branches ≡ n) (chosen f x)
  chosen_long f None h = tt
  chosen_long f (Some a) h = h

  charged_long : (c : C) (x : Option (Priced C (List Branch))) → Each (λ a. length a.what ≡ n) x → Each (λ a. length a.what ≡ n) (charged o c x)
  charged_long c None h = tt
  charged_long c (Some a) h = h

  tested : (b : Bool) (x : Option (Priced C Choice)) → Each (λ a. length a.what.branches ≡ n) x → Each (λ a. length a.what.branches ≡ n) (cond b x None)
  tested true x h = h
  tested false x h = tt

  finish_long : (limit : ℕ) (free : Bool) (spare : ℕ) (p : ℕ → C) (t : Table C) → ((h j : ℕ) → Each (λ a. length a.what ≡ n) (t h j)) → (e : ℕ) → Each (λ a. length a.what.branches ≡ n) (finish o limit free spare p t e)
  finish_long limit free spare p t long e =
      tested (leb e limit) (cheaper o (plain o spare t e) (cond (free && eqb e 0) (trunked o limit spare p t) None))
      (cheaper_each o (λ a. length a.what.branches ≡ n) (plain o spare t e) (cond (free && eqb e 0) (trunked o limit spare p t) None)
      (chosen_long false (cheapest o (suc spare) (λ h. t h e)) (cheapest_each o (λ a. length a.what ≡ n) (suc spare) (λ h. t h e) (λ h l. long h e)))
      (tested (free && eqb e 0) (trunked o limit spare p t)
      (chosen_long true (cheapest o spare (λ h. charged o (p h) (cheapest o (suc limit) (λ j. t h j))))
      (cheapest_each o (λ a. length a.what ≡ n) spare (λ h. charged o (p h) (cheapest o (suc limit) (λ j. t h j)))
      (λ h l. charged_long (p h) (cheapest o (suc limit) (λ j. t h j)) (cheapest_each o (λ a. length a.what ≡ n) (suc limit) (λ j. t h j) (λ j m. long h j)))))))

module _ {C : Type 0} (o : Kind C) (N : Problem C) (root : Rooted N) where
  row_long : (i e : ℕ) → i < N.count → Each (λ a. length a.what.branches ≡ length (kids N i)) (row o N i e)
  row_long i e l =
      subst (Each (λ a. length a.what.branches ≡ length (kids N i))) (sym (row_filled o N root i l e))
      (finish_long o (length (kids N i)) N.limit (ltb 0 i) (N.spare i) (N.price i) (table o N.limit (N.price i) (map (row o N) (kids N i)))
      (λ h j. subst (λ n. Each (λ a. length a.what ≡ n) (table o N.limit (N.price i) (map (row o N) (kids N i)) h j)) (length_map (row o N) (kids N i)) (table_long o N.limit (N.price i) (map (row o N) (kids N i)) h j)) e)

  -- rows in an array, none past the limit
  module _ {V : Type 0} (held : V → C) (xs : List (Option (Kept V Chosen))) (rows : (i e : ℕ) → i < N.count → e ≤ N.limit → rows_of held xs (N.limit + 1) i e ≡ row o N i e) where
    pub rows_within_row : (i : ℕ) → i < N.count → (e : ℕ) → rows_within held xs N.limit i e ≡ row o N i e
    rows_within_row i l e = elim (leb_tells e N.limit) [
      | inl z ↦ ap (λ b. cond b (rows_of held xs (N.limit + 1) i e) None) z.0 ∙ rows i e l z.1
      | inr z ↦ ap (λ b. cond b (rows_of held xs (N.limit + 1) i e) None) z.0 ∙ sym (row_filled o N root i l e ∙ fork_short o N i (map (row o N) (kids N i)) e z.1)
    ]

    -- the cheapest of the first
    pub first_entry : (firsts : List (Option (Kept V Chosen))) → ((e : ℕ) → e ≤ N.limit → get_or firsts e None ≡ get_or xs (0 * (N.limit + 1) + e) None)
        → best_entry o (N.limit + 1) (row_in held firsts) ≡ best_entry o (suc N.limit) (row o N 0)
    first_entry firsts same =
        ap (λ n. best_entry o n (row_in held firsts)) (add-one N.limit)
        ∙ cheapest_same o (suc N.limit) (λ e. tagged e (row_in held firsts e)) (λ e. tagged e (row o N 0 e))
        (λ e l. ap (λ x. tagged e (as_chosen held x)) (same e (omega arith)) ∙ ap (tagged e) (rows 0 e root.some (omega arith)))

    pub rows_within_long : (i e : ℕ) → i < N.count → Each (λ a. length a.what.branches ≡ length (kids N i)) (rows_within held xs N.limit i e)
    rows_within_long i e l = subst (Each (λ a. length a.what.branches ≡ length (kids N i))) (sym (rows_within_row i l e)) (row_long i e l)
