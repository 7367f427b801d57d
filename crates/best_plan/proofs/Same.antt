-- The lists and sums of the length rule are those of the search.
use Rattle.std.proofs.Common.{◌≡◌, ℕ, zero, suc, ◌+◌, Bool, cond, List, [], ◌∷◌, length, refl, ap, ◌∙◌}
use Rattle.net.specs.declared.records.record.Record.{Record}
use Rattle.net.specs.Routes.{parent_of, is_child}
use Rattle.length_rule.specs.Children.{indices, kept, children, sum_over}
use Rattle.search_theory.specs.Costs.{sum, below}
use Rattle.search_theory.specs.Tree.{keep, children as tree_children}

pub indices_below : (n : ℕ) → indices n ≡ below n
indices_below zero = refl
indices_below (suc n) = ap (λ ks. n ∷ ks) (indices_below n)

pub kept_keep : (q : ℕ → Bool) (ks : List ℕ) → kept q ks ≡ keep q ks
kept_keep q [] = refl
kept_keep q (k ∷ ks) = ap (λ js. cond (q k) (k ∷ js) js) (kept_keep q ks)

pub children_same : (rs : List Record) (i : ℕ) → children rs i ≡ tree_children (parent_of rs) (length rs) i
children_same rs i = ap (kept (is_child rs i)) (indices_below (length rs)) ∙ kept_keep (is_child rs i) (below (length rs))

pub sum_over_sum : (f : ℕ → ℕ) (ks : List ℕ) → sum_over ks f ≡ sum 0 ◌+◌ f ks
sum_over_sum f [] = refl
sum_over_sum f (k ∷ ks) = ap (λ s. f k + s) (sum_over_sum f ks)

-- a sum over the children
pub over_same : (rs : List Record) (i : ℕ) (f : ℕ → ℕ) → sum_over (children rs i) f ≡ sum 0 ◌+◌ f (tree_children (parent_of rs) (length rs) i)
over_same rs i f = ap (λ ks. sum_over ks f) (children_same rs i) ∙ sum_over_sum f (tree_children (parent_of rs) (length rs) i)

-- a sum over all indices
pub all_same : (n : ℕ) (f : ℕ → ℕ) → sum_over (indices n) f ≡ sum 0 ◌+◌ f (below n)
all_same n f = ap (λ ks. sum_over ks f) (indices_below n) ∙ sum_over_sum f (below n)
