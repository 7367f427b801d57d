-- From what is best at one index to what is best in the whole tree, whatever the rule at one index is.
use Rattle.std.proofs.Common.{◌≡◌, ℕ, ◌<◌, List, [], ◌∷◌, map, Some, sym, refl, ap, ◌∙◌, subst}
use Rattle.search_theory.specs.Costs.{Kind, Lawful, below, sum, total}
use Rattle.search_theory.specs.Entries.{Row, Each}
use Rattle.search_theory.specs.Tree.{children}
use Rattle.search_theory.proofs.Costs.{adds, no_more_trans, no_more_add}
use Rattle.search_theory.proofs.Gather.{gathered}
use Rattle.search_theory.proofs.Infinite.{add, NoMore, worth, rows_at}

-- What may be chosen at one index, and what is best there given the rows of its children.
pub record Rule {C : Type 0} (o : Kind C) (X : Type 0) : Type 1 where
  -- the lengths that a choice takes from the children, in their order
  pub enterings : X → List ℕ
  -- at index i the choice may be made, and it hands on this length
  pub Fits : ℕ → X → ℕ → Type 0
  -- what the choice itself costs
  pub here : ℕ → X → C
  pub fork : ℕ → List (Row C X) → Row C X
  pub sound : (i : ℕ) (rows : List (Row C X)) (e : ℕ) →
      Each (λ a. Fits i a.what e × (Some a.cost ≡ add o (Some (here i a.what)) (rows_at o rows (enterings a.what)))) (fork i rows e)
  pub complete : (i : ℕ) (rows : List (Row C X)) (e : ℕ) (x : X) → Fits i x e → NoMore o (worth (fork i rows e)) (add o (Some (here i x)) (rows_at o rows (enterings x)))

module _ {C : Type 0} (o : Kind C) where
  pub at_map : {X : Type 0} (row : ℕ → Row C X) (len : ℕ → ℕ) (ks : List ℕ) → rows_at o (map row ks) (map len ks) ≡ sum (Some o.nothing) (add o) (λ k. worth (row k (len k))) ks
  at_map row len [] = refl
  at_map row len (k ∷ ks) = ap (add o (worth (row k (len k)))) (at_map row len ks)

  sum_Some : (f : ℕ → C) (ks : List ℕ) → sum (Some o.nothing) (add o) (λ k. Some (f k)) ks ≡ Some (total o f ks)
  sum_Some f [] = refl
  sum_Some f (k ∷ ks) = ap (add o (Some (f k))) (sum_Some f ks)

module _ {C X : Type 0} {o : Kind C} (l : Lawful o) (𝓡 : Rule o X) (parent : ℕ → ℕ) (n : ℕ) (pos : 0 < n)
    (ok : (k : ℕ) → 0 < k → k < n → parent k < k)
    (row : ℕ → Row C X)
    (rows : (i : ℕ) → i < n → (e : ℕ) → row i e ≡ 𝓡.fork i (map row (children parent n i)) e)
    (pick : ℕ → X) (len : ℕ → ℕ)
    (tied : (i : ℕ) → i < n → 𝓡.enterings (pick i) ≡ map len (children parent n i))
  where
    -- no choice over the whole tree costs less than the first row says
    pub tree_best : ((i : ℕ) → i < n → 𝓡.Fits i (pick i) (len i)) → NoMore o (worth (row 0 (len 0))) (Some (total o (λ i. 𝓡.here i (pick i)) (below n)))
    tree_best fits =
        subst (NoMore o (worth (row 0 (len 0)))) (sum_Some o (λ i. 𝓡.here i (pick i)) (below n))
        (gathered (adds l) (NoMore o) (no_more_trans l) (no_more_add l) parent n pos ok (λ i. Some (𝓡.here i (pick i))) (λ i. worth (row i (len i))) H)
      where
        H : (i : ℕ) → i < n → NoMore o (worth (row i (len i))) (add o (Some (𝓡.here i (pick i))) (sum (Some o.nothing) (add o) (λ k. worth (row k (len k))) (children parent n i)))
        H i h =
            subst (λ x. NoMore o (worth (row i (len i))) (add o (Some (𝓡.here i (pick i))) x)) (ap (rows_at o (map row (children parent n i))) (tied i h) ∙ at_map o row len (children parent n i))
            (subst (λ r. NoMore o (worth r) (add o (Some (𝓡.here i (pick i))) (rows_at o (map row (children parent n i)) (𝓡.enterings (pick i))))) (sym (rows i h (len i)))
            (𝓡.complete i (map row (children parent n i)) (len i) (pick i) (fits i h)))

    -- choices taken from the rows may be made, and cost what the first row says
    module _ (x : ℕ → C) (taken : (i : ℕ) → i < n → row i (len i) ≡ Some (record { cost = x i; what = pick i })) where
      got : (i : ℕ) → i < n → 𝓡.Fits i (pick i) (len i) × (Some (x i) ≡ add o (Some (𝓡.here i (pick i))) (rows_at o (map row (children parent n i)) (𝓡.enterings (pick i))))
      got i h =
          subst (Each (λ a. 𝓡.Fits i a.what (len i) × (Some a.cost ≡ add o (Some (𝓡.here i a.what)) (rows_at o (map row (children parent n i)) (𝓡.enterings a.what)))))
          (sym (rows i h (len i)) ∙ taken i h) (𝓡.sound i (map row (children parent n i)) (len i))

      pub tree_fits : (i : ℕ) → i < n → 𝓡.Fits i (pick i) (len i)
      tree_fits i h = (got i h).0

      pub tree_cost : worth (row 0 (len 0)) ≡ Some (total o (λ i. 𝓡.here i (pick i)) (below n))
      tree_cost =
          gathered (adds l) (λ x y. x ≡ y) (λ x y w e f. e ∙ f) (λ x y w e. ap (λ v. add o v w) e) parent n pos ok
          (λ i. Some (𝓡.here i (pick i))) (λ i. worth (row i (len i))) H
          ∙ sum_Some o (λ i. 𝓡.here i (pick i)) (below n)
        where
          H : (i : ℕ) → i < n → worth (row i (len i)) ≡ add o (Some (𝓡.here i (pick i))) (sum (Some o.nothing) (add o) (λ k. worth (row k (len k))) (children parent n i))
          H i h =
              ap worth (taken i h) ∙ (got i h).1
              ∙ ap (add o (Some (𝓡.here i (pick i)))) (ap (rows_at o (map row (children parent n i))) (tied i h) ∙ at_map o row len (children parent n i))
