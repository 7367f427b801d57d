-- A table of families, filled index by index.
use Rattle.std.proofs.Common.{◌≡◌, ℕ, zero, suc, ◌+◌, ◌<◌, ◌≤◌, Bool, true, false, cond, ◌≢◌, List, [], ◌∷◌, length, get_or, set, sym, ap, ◌∙◌, subst, inl, inr, arith, get_or-set_other, get_or-set_same}
use Rattle.std.proofs.lemmas.Bool.Decides.{nat_tests, eqb_tells}
use Rattle.net.specs.declared.records.record.Record.{Record}
use Rattle.net.specs.Routes.{parent_of}
use Rattle.search_theory.specs.Costs.{below}
use Rattle.search_theory.specs.Tree.{keep, child, children}
use Rattle.search_theory.proofs.Rebuild.{length_map}
use Rattle.search_cells.specs.Cells.{Searchable}
use Rattle.search_cells.specs.Families.{no_family, members, members_at, children_before, rank_of}
use Rattle.search_cells.specs.Lists.{last_first}
use Rattle.search_cells.specs.declared.few.Few.{Few}
use Rattle.search_cells.proofs.Filling.{keep_more, keep_below}
use Rattle.search_cells.proofs.Pushing.{length_last_first}

pub count_members : (f : Few ℕ) → length (members f) ≡ f.count
count_members f = length_last_first (λ k. k) 0 f.items f.count

module _ (rs : List Record) (tree : Searchable rs) (k : ℕ) (pos : 0 < k) (inside : k < length rs) where
  -- an index has fewer than four siblings before it
  pub rank_below : rank_of rs k < 4
  rank_below =
      let parent = parent_of rs k in
      let earlier : parent < k = tree.earlier k pos inside in
      let its_own : child (parent_of rs) parent k ≡ true = grind (arith, nat_tests) in
      let id : ℕ → ℕ = λ x. x in
      omega (arith, keep_below id (child (parent_of rs) parent) k (length rs) inside its_own, length_map id (children_before rs k parent), tree.narrow parent (omega arith))

module _ (rs : List Record) (tree : Searchable rs) (fs : List (Few ℕ)) (k : ℕ) (pos : 0 < k) (inside : k < length rs)
    (so_far : (i : ℕ) → i < length rs → members_at fs i ≡ children_before rs k i) where
  abbrev parent : ℕ
  parent = parent_of rs k

  earlier : parent < k
  earlier = tree.earlier k pos inside

  its_own : child (parent_of rs) parent k ≡ true
  its_own = grind (arith, nat_tests)

  -- so many siblings are linked already, and there is room for one more
  pub rank_is : (get_or fs parent no_family).count ≡ rank_of rs k
  rank_is = sym (count_members (get_or fs parent no_family)) ∙ ap length (so_far parent (let l : parent < k = earlier in omega arith))

  pub few_siblings : (get_or fs parent no_family).count < 4
  few_siblings = omega (arith, rank_is, rank_below rs tree k pos inside)

  pub linked_more : (f : Few ℕ) → parent < length fs → members f ≡ k ∷ members_at fs parent → (i : ℕ) → i < length rs → members_at (set fs parent f) i ≡ children_before rs (k + 1) i
  linked_more f within joined i l = elim (eqb_tells i parent) [
    | inl z ↦
        subst (λ i. members_at (set fs parent f) i ≡ children_before rs (k + 1) i) (sym z.1)
        (ap members (get_or-set_same fs parent f no_family within) ∙ joined ∙ ap (λ ks. k ∷ ks) (so_far parent (let l : parent < k = earlier in omega arith)) ∙ sym (keep_more (child (parent_of rs) parent) k true its_own))
    | inr z ↦
        let ne : i ≢ parent = z.1 in
        let other : child (parent_of rs) i k ≡ false = grind (arith, nat_tests) in
        ap members (get_or-set_other fs parent i f no_family ne) ∙ so_far i l ∙ sym (keep_more (child (parent_of rs) i) k false other)
  ]

-- all entries lie below n
abbrev Under : ℕ → List ℕ → Type 0
Under n [] = Unit {0}
Under n (k ∷ ks) = (k < n) × Under n ks

under_more : (n : ℕ) (ks : List ℕ) → Under n ks → Under (suc n) ks
under_more n [] h = tt
under_more n (k ∷ ks) h = (let l : k < n = h.0 in omega arith, under_more n ks h.1)

keep_under : (q : ℕ → Bool) (n : ℕ) → Under n (keep q (below n))
keep_under q zero = tt
keep_under q (suc n) = go (q n) (under_more n (keep q (below n)) (keep_under q n))
  where
    go : (b : Bool) → Under (suc n) (keep q (below n)) → Under (suc n) (cond b (n ∷ keep q (below n)) (keep q (below n)))
    go true h = (omega arith, h)
    go false h = h

under_at : (n : ℕ) (ks : List ℕ) (m : ℕ) → Under n (last_first (λ k. k) 0 ks m) → (c : ℕ) → c < m → get_or ks c 0 < n
under_at n ks zero h c l = absurd (omega arith)
under_at n ks (suc m) h c l = elim (eqb_tells c m) [
  | inl z ↦ subst (λ c. get_or ks c 0 < n) (sym z.1) h.0
  | inr z ↦ let ne : c ≢ m = z.1 in under_at n ks m h.1 c (omega arith)
]

module _ (rs : List Record) (f : Few ℕ) (i : ℕ) (its : members f ≡ children (parent_of rs) (length rs) i) where
  -- every child that is told is one of the records
  pub member_inside : (c : ℕ) → c < f.count → get_or f.items c 0 < length rs
  member_inside = under_at (length rs) f.items f.count (subst (Under (length rs)) (sym its) (keep_under (child (parent_of rs) i) (length rs)))

  pub few_members : length (children (parent_of rs) (length rs) i) ≤ 4 → f.count ≤ 4
  few_members h = omega (arith, count_members f, ap length its)
