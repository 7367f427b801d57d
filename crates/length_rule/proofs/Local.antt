-- A tile needs its own trunk buffer and the head buffers of its children, and an index past the route nothing.
use Rattle.std.proofs.Common.{◌≡◌, ℕ, zero, suc, ◌+◌, ◌<◌, Bool, true, false, cond, ◌&&◌, eqb, List, ◌++◌, length, sym, refl, ap, ◌∙◌, arith}
use Rattle.std.proofs.lemmas.Bool.{lt-ltb, eq-eqb, ne_eqb}
use Rattle.net.specs.declared.records.record.Record.{Record}
use Rattle.net.specs.Routes.{parent_of, is_child}
use Rattle.length_rule.specs.Children.{indices, sum_over}
use Rattle.length_rule.specs.Gates.{gate, put_if, buffers, buffers_at, standing_at}
use Rattle.length_rule.specs.Lengths.{hanging, entering}
use Rattle.length_rule.specs.Local.{NeedsAreLocal}
use Rattle.length_rule.specs.Marks.{has_head, has_trunk, mark_at, head_at, trunk_at}
use Rattle.length_rule.proofs.Sums.{sum_kept, sum_same, sum_two, sum_one}

-- one buffer of a mark in the tile of index i: the head's, then the trunk's
pub standing_parts : (i mark parent k h e : ℕ) → standing_at i (buffers mark parent k h e) ≡ cond (has_head mark) (cond (eqb parent i) 1 0) 0 + cond (has_trunk mark) (cond (eqb k i) 1 0) 0
standing_parts i mark parent k h e = go (has_head mark) (has_trunk mark)
  where
    go : (a b : Bool) → standing_at i (put_if a (gate (1 + e) parent) ++ put_if b (gate h k)) ≡ cond a (cond (eqb parent i) 1 0) 0 + cond b (cond (eqb k i) 1 0) 0
    go true true = omega arith
    go true false = refl
    go false true = omega arith
    go false false = refl

module _ (rs : List Record) (ms : List ℕ) (driver : mark_at ms 0 ≡ 0) where
  -- a head buffer stands where a child is; the driver has none
  head_child : (i k : ℕ) → ◌≡◌ {A = ℕ} (cond (head_at ms k) (cond (eqb (parent_of rs k) i) 1 0) 0) (cond (is_child rs i k) (cond (head_at ms k) 1 0) 0)
  head_child i zero = ap (λ (m : ℕ). cond (has_head m) (cond (eqb (parent_of rs 0) i) 1 0) 0) driver
  head_child i (suc k) =
      swap (head_at ms (suc k)) (eqb (parent_of rs (suc k)) i)
      ∙ ap (λ (b : Bool). cond (b && eqb (parent_of rs (suc k)) i) (cond (head_at ms (suc k)) 1 0) 0) (sym (lt-ltb 0 (suc k) (omega arith)))
    where
      swap : (a b : Bool) → ◌≡◌ {A = ℕ} (cond a (cond b 1 0) 0) (cond (true && b) (cond a 1 0) 0)
      swap true true = refl
      swap true false = refl
      swap false true = refl
      swap false false = refl

  trunk_one : (i : ℕ) → i < length rs → sum_over (indices (length rs)) (λ k. cond (trunk_at ms k) (cond (eqb k i) 1 0) 0) ≡ cond (trunk_at ms i) 1 0
  trunk_one i l =
      sum_one (λ k. cond (trunk_at ms k) (cond (eqb k i) 1 0) 0) (length rs) i l (λ k h d. ap (λ (b : Bool). cond (trunk_at ms k) (cond b 1 0) 0) (ne_eqb k i d) ∙ none (trunk_at ms k))
      ∙ ap (λ (b : Bool). cond (trunk_at ms i) (cond b 1 0) 0) (eq-eqb i i refl)
    where
      none : (b : Bool) → ◌≡◌ {A = ℕ} (cond b 0 0) 0
      none true = refl
      none false = refl

  pub needs_local : NeedsAreLocal rs ms
  needs_local i l =
      sum_same (λ k. standing_at i (buffers_at rs ms k)) (λ k. cond (is_child rs i k) (cond (head_at ms k) 1 0) 0 + cond (trunk_at ms k) (cond (eqb k i) 1 0) 0) (length rs)
      (λ k h. standing_parts i (mark_at ms k) (parent_of rs k) k (hanging rs ms k) (entering rs ms k) ∙ ap (λ (x : ℕ). x + cond (trunk_at ms k) (cond (eqb k i) 1 0) 0) (head_child i k))
      ∙ (sum_two (λ k. cond (is_child rs i k) (cond (head_at ms k) 1 0) 0) (λ k. cond (trunk_at ms k) (cond (eqb k i) 1 0) 0) (length rs)
      ∙ omega (arith, trunk_one i l, sum_kept (is_child rs i) (λ k. cond (head_at ms k) 1 0) (indices (length rs))))
