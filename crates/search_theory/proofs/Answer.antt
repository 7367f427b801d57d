-- The search is right.
use Rattle.std.proofs.Common.{◌≡◌, ℕ, zero, suc, ◌+◌, ◌<◌, ◌≤◌, Bool, true, false, cond, eqb, ltb, List, [], ◌∷◌, map, length, Some, None, Option, sym, refl, ap, ◌∙◌, subst, inl, inr, arith}
use mathlib.Core.Path.{fun_ext}
use Rattle.std.proofs.lemmas.Bool.Decides.{nat_tests, eqb_tells}
use Rattle.search_theory.specs.Costs.{Kind, Lawful, below, total}
use Rattle.search_theory.specs.Entries.{Priced, Row, given, what_or, Each}
use Rattle.search_theory.specs.Joining.{Branch, Choice, best_entry}
use Rattle.search_theory.specs.Layouts.{Problem, Rooted, kids, Layout, over, needs, Legal, layout_cost}
use Rattle.search_theory.specs.Search.{fork, row, no_branch, no_choice, choice_for, handed_down, layout_of, answered, found, Right}
use Rattle.search_theory.specs.Tree.{keep, child}
use Rattle.search_theory.proofs.Branches.{branch, stands_needed, loose_branches, rival}
use Rattle.search_theory.proofs.Climb.{map_keep, climb_filled, climb_one}
use Rattle.search_theory.proofs.Costs.{no_test, costs, sum_same, no_more_trans}
use Rattle.search_theory.proofs.Gather.{child_later, child_parent}
use Rattle.search_theory.proofs.Handed.{handed_first, handed_next}
use Rattle.search_theory.proofs.Induction.{Rule, tree_fits, tree_cost}
use Rattle.search_theory.proofs.Infinite.{NoMore, worth, Has, cost_or, enterings, loose_length, Driven}
use Rattle.search_theory.proofs.Joined.{best_entry_least, best_entry_stands, Entry}
use Rattle.search_theory.proofs.Local.{standing, Fits, buffer_rule}
use Rattle.search_theory.proofs.Rebuild.{given_map, length_map, has_worth, has_taken, tied, all_has}

given_entering : (k : ℕ) (ks : List ℕ) (bs : List Branch) → (given no_branch k ks bs).entering ≡ given 0 k ks (enterings bs)
given_entering k [] bs = refl
given_entering k (j ∷ ks) [] = refl
given_entering k (j ∷ ks) (b ∷ bs) = go (eqb k j) (given_entering k ks bs)
  where
    go : (t : Bool) → (given no_branch k ks bs).entering ≡ given 0 k ks (enterings bs) → (cond t b (given no_branch k ks bs)).entering ≡ cond t b.entering (given 0 k ks (enterings bs))
    go true e = refl
    go false e = e

length_enterings : (bs : List Branch) → length (enterings bs) ≡ length bs
length_enterings [] = refl
length_enterings (b ∷ bs) = ap suc (length_enterings bs)

driven_one : (m : Layout) (en : ℕ → ℕ) (limit : ℕ) (q : ℕ → Bool) (n : ℕ) → Driven limit (map (branch m en) (keep q (below n))) → (k : ℕ) → k < n → q k ≡ true → (m k).head ≡ true → en k < limit
driven_one m en limit q zero d k h t g = absurd (omega arith)
driven_one m en limit q (suc n) d k h t g = go (q n) refl d (λ d h. driven_one m en limit q n d k h t g)
  where
    ks : List ℕ
    ks = keep q (below n)

    go : (b : Bool) → q n ≡ b → Driven limit (map (branch m en) (cond b (n ∷ ks) ks)) → (Driven limit (map (branch m en) ks) → k < n → en k < limit) → en k < limit
    go true e d ih = elim (eqb_tells k n) [ inl z ↦ subst (λ i. en i < limit) (sym z.1) (d.0 (subst (λ i. (m i).head ≡ true) z.1 g)) | inr z ↦ ih d.1 (omega arith) ]
    go false e d ih = ih d (grind (arith, nat_tests))

module _ {C : Type 0} {o : Kind C} (l : Lawful o) (N : Problem C) (root : Rooted N) (r : ℕ → Row C Choice)
    (filled : (i : ℕ) → i < N.count → (e : ℕ) → r i e ≡ fork o N i (map r (kids N i)) e) where
  module _ (e : ℕ) where
    abbrev len : ℕ → ℕ
    len k = handed_down N r e N.count k

    len_first : len 0 ≡ e
    len_first = handed_first N root r e

    len_next : (k : ℕ) → 0 < k → k < N.count → len k ≡ (choice_for N r k (len (N.parent k))).entering
    len_next = handed_next N root r e

    𝓑 : Rule o Choice
    𝓑 = buffer_rule l N.limit (λ i. ltb 0 i) N.spare N.price

    handed : (k : ℕ) → 0 < k → k < N.count → len k ≡ given 0 k (kids N (N.parent k)) (enterings (what_or no_choice (r (N.parent k) (len (N.parent k)))).branches)
    handed k pos h = len_next k pos h ∙ given_entering k (kids N (N.parent k)) (what_or no_choice (r (N.parent k) (len (N.parent k)))).branches

    abbrev pick : ℕ → Choice
    pick i = what_or no_choice (r i (len i))

    abbrev m : Layout
    m = layout_of N r len

    module _ (start : Has (r 0 e)) where
      has : (i : ℕ) → i < N.count → Has (r i (len i))
      unfolding 𝓑
      has = all_has 𝓑 N.parent N.count root.before r filled no_choice len handed (subst (λ x. Has (r 0 x)) (sym len_first) start)

      ties : (i : ℕ) → i < N.count → enterings (pick i).branches ≡ map len (kids N i)
      unfolding 𝓑
      ties i h = tied 𝓑 N.parent N.count root.before r filled no_choice len handed i h (has i h)

      -- the layout_of say what the choices say
      said : (i : ℕ) → i < N.count → map (branch m len) (kids N i) ≡ (pick i).branches
      said i h =
          map_keep (child N.parent i) (branch m len) (λ k. given no_branch k (kids N i) (pick i).branches) N.count each
          ∙ given_map (child N.parent i) no_branch N.count (pick i).branches (sym (length_enterings (pick i).branches) ∙ ap length (ties i h) ∙ length_map len (kids N i))
        where
          each : (k : ℕ) → k < N.count → child N.parent i k ≡ true → branch m len k ≡ given no_branch k (kids N i) (pick i).branches
          each k s t =
              let pos : i < k = child_later N.parent N.count root.before i k s t in
              let z : eqb k 0 ≡ false = grind (arith, nat_tests) in
              subst (λ j. branch m len k ≡ given no_branch k (kids N j) (pick j).branches) (child_parent N.parent N.count root.before i k t)
              (ap (λ x. record { head = (m k).head; entering = x }) (len_next k (omega arith) s)
              ∙ ap (λ b. record { head = cond b false (choice_for N r k (len (N.parent k))).head; entering = (choice_for N r k (len (N.parent k))).entering }) z)

      fit : (i : ℕ) → i < N.count → Fits N.limit (ltb 0 i) (N.spare i) (pick i) (len i)
      unfolding 𝓑
      fit = tree_fits l 𝓑 N.parent N.count root.some root.before r filled pick len ties (λ i. cost_or o.nothing (r i (len i))) (λ i h. has_taken o.nothing no_choice (r i (len i)) (has i h))

      hung : (i : ℕ) → i < N.count → loose_length (pick i).branches ≡ over N i (λ k. cond (m k).head 0 (1 + len k))
      hung i h = ap loose_length (sym (said i h)) ∙ loose_branches m len (kids N i)

      found_legal : Legal N m
      found_legal = record {
        unmarked_head = refl;
        unmarked_trunk = bare (m 0).trunk (fit 0 root.some).allowed;
        lengths = record {
          hanging = λ i. over N i (λ k. cond (m k).head 0 (1 + len k));
          entering = len;
          hangs = λ i h. refl;
          enters = λ i h. (fit i h).enters ∙ ap (cond (m i).trunk 0) (hung i h);
        };
        driver = subst (λ x. x ≤ N.limit) (hung 0 root.some) (fit 0 root.some).reach;
        trunks = λ i h t. subst (λ x. x ≤ N.limit) (hung i h) (fit i h).reach;
        heads = driven;
        sites = λ i h. room i h (fit i h).room;
      }
        where
          bare : (b : Bool) → (b ≡ true → ltb 0 0 ≡ true) → b ≡ false
          bare true f = sym (f refl)
          bare false f = refl

          driven : (k : ℕ) → k < N.count → (m k).head ≡ true → 1 + len k ≤ N.limit
          driven zero h t = absurd (no_test t)
          driven (suc k) h t =
              let up : N.parent (suc k) < suc k = root.before (suc k) (omega arith) h in
              let its : child N.parent (N.parent (suc k)) (suc k) ≡ true = grind (arith, nat_tests) in
              omega (
                arith,
                driven_one m len N.limit (child N.parent (N.parent (suc k))) N.count
                    (subst (Driven N.limit) (sym (said (N.parent (suc k)) (omega arith))) (fit (N.parent (suc k)) (omega arith)).driven) (suc k) h its t,
              )

          room : (i : ℕ) → i < N.count → standing (pick i) ≤ N.spare i → needs N m i ≤ N.spare i
          room i h = subst (λ s. s ≤ N.spare i) (stands_needed N m len (pick i) i refl (said i h))

      found_cost : worth (r 0 e) ≡ Some (layout_cost o N m)
      unfolding 𝓑
      found_cost =
          ap (λ x. worth (r 0 x)) (sym len_first)
          ∙ tree_cost l 𝓑 N.parent N.count root.some root.before r filled pick len ties (λ i. cost_or o.nothing (r i (len i))) (λ i h. has_taken o.nothing no_choice (r i (len i)) (has i h))
          ∙ ap Some (sum_same (costs l) (λ i. total o (N.price i) (below (standing (pick i)))) (λ i. total o (N.price i) (below (needs N m i))) N.count
          (λ i h. ap (λ s. total o (N.price i) (below s)) (stands_needed N m len (pick i) i refl (said i h))))

  -- no legal plan is cheaper than the cheapest entry of the first row
  none_less : (p : Layout) → Legal N p → NoMore o (worth (best_entry o (suc N.limit) (r 0))) (Some (layout_cost o N p))
  none_less p legal =
      no_more_trans l (worth (best_entry o (suc N.limit) (r 0))) (worth (r 0 e)) (Some (layout_cost o N p))
      (best_entry_least l (suc N.limit) (λ _. o.nothing) (r 0) e small) (rival N root p legal l r filled)
    where
      e : ℕ
      e = legal.lengths.entering 0

      small : e < suc N.limit
      small = omega (arith, legal.lengths.enters 0 root.some ∙ ap (λ b. cond b 0 (legal.lengths.hanging 0)) legal.unmarked_trunk, legal.driver)

  pub right : Right o N (answered N r (best_entry o (suc N.limit) (r 0)))
  right = go (best_entry o (suc N.limit) (r 0)) (best_entry_stands l (suc N.limit) (λ _. o.nothing) (r 0)) none_less
    where
      go : (b : Option (Priced C ℕ)) → Each (Entry l (suc N.limit) (λ _. o.nothing) (suc N.limit) (r 0)) b → ((p : Layout) → Legal N p → NoMore o (worth b) (Some (layout_cost o N p))) → Right o N (answered N r b)
      go None s f = f
      go (Some b) s f =
          record { legal = found_legal b.what start; cost = unwrap b.cost (layout_cost o N (m b.what)) (s.1 ∙ found_cost b.what start); least = f }
        where
          start : Has (r 0 b.what)
          start = has_worth (r 0 b.what) (subst Has s.1 tt)

          unwrap : (x y : C) → Some x ≡ Some y → x ≡ y
          unwrap x y e = cc

pub row_filled : {C : Type 0} (o : Kind C) (N : Problem C) → Rooted N → (i : ℕ) → i < N.count → (e : ℕ) → row o N i e ≡ fork o N i (map (row o N) (kids N i)) e
row_filled o N root i h e = ap (λ x. x e) (climb_filled (λ e. None) (fork o N) N.parent N.count root.before i h)

-- and any others that are filled by the same rule are these
pub filled_row : {C : Type 0} (o : Kind C) (N : Problem C) → Rooted N → (r : ℕ → Row C Choice) → ((i : ℕ) → i < N.count → (e : ℕ) → r i e ≡ fork o N i (map r (kids N i)) e) → (i : ℕ) → i < N.count → r i ≡ row o N i
filled_row o N root r filled = climb_one (fork o N) N.parent N.count root.before r (row o N) (λ i h. fun_ext (filled i h)) (λ i h. fun_ext (row_filled o N root i h))

pub found_right : {C : Type 0} {o : Kind C} → Lawful o → (N : Problem C) → Rooted N → Right o N (found o N)
found_right {o = o} l N root = right l N root (row o N) (row_filled o N root)
