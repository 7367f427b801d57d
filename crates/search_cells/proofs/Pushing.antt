-- Lists that are kept from the start of an array.
use Rattle.std.proofs.Common.{◌≡◌, ℕ, zero, suc, ◌+◌, ◌<◌, ◌≤◌, ◌≢◌, List, ◌∷◌, length, get_or, set, refl, ap, ◌∙◌, add-one, arith, get_or-set_other, get_or-set_same}
use Rattle.search_cells.specs.Lists.{last_first}
use Rattle.search_cells.specs.declared.few.Few.{Few}

module _ {X Y : Type 0} (f : X → Y) (d : X) where
  -- what stands before a write stays
  before_write : (xs : List X) (k : ℕ) (x : X) (n : ℕ) → n ≤ k → last_first f d (set xs k x) n ≡ last_first f d xs n
  before_write xs k x zero h = refl
  before_write xs k x (suc n) h =
      let ne : n ≢ k = omega arith in
      ap (λ y. f y ∷ last_first f d (set xs k x) n) (get_or-set_other xs k n x d ne) ∙ ap (λ ys. f (get_or xs n d) ∷ ys) (before_write xs k x n (omega arith))

  pub last_first_push : (xs : List X) (k : ℕ) (x : X) → k < length xs → last_first f d (set xs k x) (k + 1) ≡ f x ∷ last_first f d xs k
  last_first_push xs k x h =
      ap (last_first f d (set xs k x)) (add-one k) ∙ ap (λ y. f y ∷ last_first f d (set xs k x) k) (get_or-set_same xs k x d h) ∙ ap (λ ys. f x ∷ ys) (before_write xs k x k (omega arith))

  -- one more is pushed
  pub pushed : (xs : Few X) (ys : Few X) (x : X) → xs.count < length xs.items → ys.count ≡ xs.count + 1 → ys.items ≡ set xs.items xs.count x
      → last_first f d ys.items ys.count ≡ f x ∷ last_first f d xs.items xs.count
  pushed xs ys x h c i = ap (λ n. last_first f d ys.items n) c ∙ ap (λ zs. last_first f d zs (xs.count + 1)) i ∙ last_first_push xs.items xs.count x h

  pub length_last_first : (xs : List X) (n : ℕ) → length (last_first f d xs n) ≡ n
  length_last_first xs zero = refl
  length_last_first xs (suc n) = ap suc (length_last_first xs n)
