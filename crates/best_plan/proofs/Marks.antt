-- Marks as lists, and as layouts by index.
use Rattle.std.proofs.Common.{◌≡◌, ℕ, zero, suc, ◌<◌, ◌≤◌, Bool, true, false, cond, List, [], ◌∷◌, length, sym, refl, ap, ◌∙◌, subst, ⊎_elim, arith, lit≤}
use Rattle.std.proofs.lemmas.List.{length_push, get_or_push, get_or_append_left}
use Rattle.std.proofs.lemmas.Bool.{cases_lt}
use Rattle.length_rule.specs.Marks.{has_head, has_trunk, head_at, trunk_at, mark_at}
use Rattle.search_theory.specs.Layouts.{Buffers, Layout}
use Rattle.best_plan.specs.Chosen.{mark_of, marks_of}

-- the buffers that marks set
abbrev pub laid_out : List ℕ → Layout
laid_out ms k = record { head = head_at ms k; trunk = trunk_at ms k }

pub mark_head : (b : Buffers) → has_head (mark_of b) ≡ b.head
mark_head b = go b.head b.trunk
  where
    go : (h t : Bool) → has_head (cond h (cond t 3 1) (cond t 2 0)) ≡ h
    go true true = refl
    go true false = refl
    go false true = refl
    go false false = refl

pub mark_trunk : (b : Buffers) → has_trunk (mark_of b) ≡ b.trunk
mark_trunk b = go b.head b.trunk
  where
    go : (h t : Bool) → has_trunk (cond h (cond t 3 1) (cond t 2 0)) ≡ t
    go true true = refl
    go true false = refl
    go false true = refl
    go false false = refl

pub mark_small : (b : Buffers) → mark_of b ≤ 3
mark_small b = go b.head b.trunk
  where
    go : (h t : Bool) → cond h (cond t 3 1) (cond t 2 0) ≤ 3
    go true true = lit≤ tt
    go true false = lit≤ tt
    go false true = lit≤ tt
    go false false = lit≤ tt

pub mark_none : (b : Buffers) → b.head ≡ false → b.trunk ≡ false → mark_of b ≡ 0
mark_none b h t = ap (λ x. cond x (cond b.trunk 3 1) (cond b.trunk 2 0)) h ∙ ap (λ x. cond x 2 0) t

pub marks_length : (m : Layout) (n : ℕ) → length (marks_of m n) ≡ n
marks_length m zero = refl
marks_length m (suc n) = length_push (marks_of m n) (mark_of (m n)) ∙ omega (arith, marks_length m n)

pub marks_at : (m : Layout) (n i : ℕ) → i < n → mark_at (marks_of m n) i ≡ mark_of (m i)
marks_at m zero i l = absurd (omega arith)
marks_at m (suc n) i l =
    ⊎_elim
    (λ (e : i < n). get_or_append_left (marks_of m n) (mark_of (m n) ∷ []) 0 i (omega (arith, marks_length m n)) ∙ marks_at m n i e)
    (λ (e : n ≤ i). let d : i ≡ n = omega arith in subst (λ (j : ℕ). mark_at (marks_of m (suc n)) j ≡ mark_of (m j)) (sym d) (get_or_push (marks_of m n) (mark_of (m n)) 0 n (marks_length m n)))
    (cases_lt i n)

-- the marks of a layout set the layout again
pub marks_laid_out : (m : Layout) (n i : ℕ) → i < n → m i ≡ laid_out (marks_of m n) i
marks_laid_out m n i l =
    ap (λ h. record { head = h; trunk = (m i).trunk }) (sym (ap has_head (marks_at m n i l) ∙ mark_head (m i)))
    ∙ ap (λ t. record { head = head_at (marks_of m n) i; trunk = t }) (sym (ap has_trunk (marks_at m n i l) ∙ mark_trunk (m i)))
