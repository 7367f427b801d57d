-- The lengths keep the rule on every route, and nothing else does.
use Rattle.std.proofs.Common.{◌≡◌, ℕ, zero, suc, ◌+◌, ◌<◌, ◌≤◌, true, cond, eqb, ltb, List, length, refl, ap, ◌∙◌, arith}
use Rattle.std.proofs.lemmas.Bool.{and_parts, ltb-true, eqb-true}
use Rattle.net.specs.declared.records.record.Record.{Record}
use Rattle.net.specs.Routes.{parent_of, is_child}
use Rattle.length_rule.specs.Children.{children, sum_over}
use Rattle.length_rule.specs.Lengths.{own_length, KeepsRule, hanging_in, hanging, entering, LengthsAreTheRule}
use Rattle.length_rule.specs.Marks.{head_at, trunk_at}
use Rattle.length_rule.proofs.Sums.{kept_same}

-- each other index has its parent before it
abbrev pub Earlier : List Record → Type 0
Earlier rs = (i : ℕ) → 0 < i → i < length rs → parent_of rs i < i

module _ (rs : List Record) (ok : Earlier rs) where
  pub child_later : (i k : ℕ) → k < length rs → is_child rs i k ≡ true → i < k
  child_later i k l e =
      let both = and_parts (ltb 0 k) (eqb (parent_of rs k) i) e in
      omega (arith, ok k (ltb-true 0 k both.0) l, eqb-true (parent_of rs k) i both.1)

  module _ (ms : List ℕ) where
    abbrev term : (ℕ → ℕ) → ℕ → ℕ
    term h k = cond (head_at ms k) 0 (1 + cond (trunk_at ms k) 0 (h k))

    term_same : (h g : ℕ → ℕ) (k : ℕ) → h k ≡ g k → term h k ≡ term g k
    term_same h g k e = ap (λ (x : ℕ). cond (head_at ms k) 0 (1 + cond (trunk_at ms k) 0 x)) e

    -- deep enough is deep enough
    stable : (d e i : ℕ) → i < length rs → length rs ≤ d + i → length rs ≤ e + i → hanging_in d rs ms i ≡ hanging_in e rs ms i
    stable zero e i l a b = absurd (omega arith)
    stable (suc d) zero i l a b = absurd (omega arith)
    stable (suc d) (suc e) i l a b =
        ap (λ (x : ℕ). own_length rs i + x)
        (kept_same (is_child rs i) (term (hanging_in d rs ms)) (term (hanging_in e rs ms)) (length rs)
        (λ k m c. let later = child_later i k m c in term_same (hanging_in d rs ms) (hanging_in e rs ms) k (stable d e k m (omega arith) (omega arith))))

    hangs_in : (n i : ℕ) → i < length rs → length rs ≤ n → hanging_in n rs ms i ≡ own_length rs i + sum_over (children rs i) (term (hanging_in n rs ms))
    hangs_in zero i l a = absurd (omega arith)
    hangs_in (suc m) i l a =
        ap (λ (x : ℕ). own_length rs i + x)
        (kept_same (is_child rs i) (term (hanging_in m rs ms)) (term (hanging_in (suc m) rs ms)) (length rs)
        (λ k b c. let later = child_later i k b c in term_same (hanging_in m rs ms) (hanging_in (suc m) rs ms) k (stable m (suc m) k b (omega arith) (omega arith))))

    pub keeps : KeepsRule rs ms (hanging rs ms) (entering rs ms)
    keeps = record { hangs = λ i l. hangs_in (length rs) i l (omega arith); enters = λ i l. refl }

    follows : (h e : ℕ → ℕ) → KeepsRule rs ms h e → (d i : ℕ) → i < length rs → length rs ≤ d + i → h i ≡ hanging_in d rs ms i
    follows h e r zero i l a = absurd (omega arith)
    follows h e r (suc d) i l a =
        r.hangs i l
        ∙ ap (λ (x : ℕ). own_length rs i + x)
        (kept_same (is_child rs i) (λ k. cond (head_at ms k) 0 (1 + e k)) (term (hanging_in d rs ms)) (length rs)
        (λ k m c. let later = child_later i k m c in ap (λ (x : ℕ). cond (head_at ms k) 0 (1 + x)) (r.enters k m ∙ ap (λ (x : ℕ). cond (trunk_at ms k) 0 x) (follows h e r d k m (omega arith)))))

    pub the_rule : LengthsAreTheRule rs ms
    the_rule = record {
      keeps = keeps;
      only = λ h e r i l.
          let same = follows h e r (length rs) i l (omega arith) in
          (same, r.enters i l ∙ ap (λ (x : ℕ). cond (trunk_at ms i) 0 x) same);
    }
