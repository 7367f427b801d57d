-- Sums over indices and over children.
use Rattle.std.proofs.Common.{◌≡◌, ℕ, zero, suc, ◌+◌, ◌<◌, ◌≤◌, Bool, true, false, cond, List, [], ◌∷◌, sym, refl, ap, ◌∙◌, ⊎_elim, arith}
use Rattle.std.proofs.lemmas.Bool.{cases_eq}
use Rattle.length_rule.specs.Children.{indices, kept, sum_over}

-- a sum over those that pass a test, as a sum over all
pub sum_kept : (q : ℕ → Bool) (f : ℕ → ℕ) (ks : List ℕ) → sum_over (kept q ks) f ≡ sum_over ks (λ k. cond (q k) (f k) 0)
sum_kept q f [] = refl
sum_kept q f (k ∷ ks) = go (q k) (sum_kept q f ks)
  where
    go : (b : Bool) → sum_over (kept q ks) f ≡ sum_over ks (λ j. cond (q j) (f j) 0) → sum_over (cond b (k ∷ kept q ks) (kept q ks)) f ≡ cond b (f k) 0 + sum_over ks (λ j. cond (q j) (f j) 0)
    go true e = ap (λ (n : ℕ). f k + n) e
    go false e = omega (arith, e)

pub sum_same : (f g : ℕ → ℕ) (n : ℕ) → ((k : ℕ) → k < n → f k ≡ g k) → sum_over (indices n) f ≡ sum_over (indices n) g
sum_same f g zero h = refl
sum_same f g (suc n) h = omega (arith, h n (omega arith), sum_same f g n (λ k l. h k (omega arith)))

pub kept_same : (q : ℕ → Bool) (f g : ℕ → ℕ) (n : ℕ) → ((k : ℕ) → k < n → q k ≡ true → f k ≡ g k) → sum_over (kept q (indices n)) f ≡ sum_over (kept q (indices n)) g
kept_same q f g n h =
    sum_kept q f (indices n)
    ∙ (sum_same (λ k. cond (q k) (f k) 0) (λ k. cond (q k) (g k) 0) n (λ k l. go k (q k) refl l) ∙ sym (sum_kept q g (indices n)))
  where
    go : (k : ℕ) (b : Bool) → q k ≡ b → k < n → cond b (f k) 0 ≡ cond b (g k) 0
    go k true e l = h k l e
    go k false e l = refl

pub sum_two : (f g : ℕ → ℕ) (n : ℕ) → sum_over (indices n) (λ k. f k + g k) ≡ sum_over (indices n) f + sum_over (indices n) g
sum_two f g zero = refl
sum_two f g (suc n) = omega (arith, sum_two f g n)

pub sum_none : (f : ℕ → ℕ) (n : ℕ) → ((k : ℕ) → k < n → f k ≡ 0) → sum_over (indices n) f ≡ 0
sum_none f zero h = refl
sum_none f (suc n) h = omega (arith, sum_none f n (λ k l. h k (omega arith)), h n (omega arith))

-- all but one are 0
pub sum_one : (f : ℕ → ℕ) (n i : ℕ) → i < n → ((k : ℕ) → k < n → (k ≡ i → ⊥) → f k ≡ 0) → sum_over (indices n) f ≡ f i
sum_one f zero i l h = absurd (omega arith)
sum_one f (suc n) i l h =
    ⊎_elim
    (λ (e : i ≡ n). omega (arith, sum_none f n (λ k q. h k (omega arith) (λ d. omega arith)), ap f e))
    (λ (e : i ≡ n → ⊥). omega (arith, sum_one f n i (lower e) (λ k q d. h k (omega arith) d), h n (omega arith) (λ d. e (sym d))))
    (cases_eq i n)
  where
    lower : (i ≡ n → ⊥) → i < n
    lower e = grind (arith, e)

-- the sum of c terms from s on, the first first
abbrev pub sum_from : ℕ → ℕ → (ℕ → ℕ) → ℕ
sum_from zero s f = 0
sum_from (suc c) s f = f s + sum_from c (suc s) f

from_last : (c s : ℕ) (f : ℕ → ℕ) → sum_from (suc c) s f ≡ sum_from c s f + f (s + c)
from_last zero s f = let e : s + 0 ≡ s = omega arith in omega (arith, ap f e)
from_last (suc c) s f = let e : suc s + c ≡ s + suc c = omega arith in omega (arith, from_last c (suc s) f, ap f e)

pub from_first : (n : ℕ) (f : ℕ → ℕ) → sum_from n 0 f ≡ sum_over (indices n) f
from_first zero f = refl
from_first (suc n) f = let e : 0 + n ≡ n = omega arith in omega (arith, from_last n 0 f, from_first n f, ap f e)

pub from_none : (c s : ℕ) (f : ℕ → ℕ) → ((k : ℕ) → s ≤ k → f k ≡ 0) → sum_from c s f ≡ 0
from_none zero s f h = refl
from_none (suc c) s f h = omega (arith, h s (omega arith), from_none c (suc s) f (λ k l. h k (omega arith)))

-- what comes before s adds nothing
pub from_later : (c s : ℕ) (f : ℕ → ℕ) → ((k : ℕ) → k < s → f k ≡ 0) → sum_from c s f ≡ sum_from (s + c) 0 f
from_later c zero f h = let e : 0 + c ≡ c = omega arith in ap (λ (n : ℕ). sum_from n 0 f) (sym e)
from_later c (suc s) f h =
    let e : s + suc c ≡ suc s + c = omega arith in
    let here : f s ≡ 0 = h s (omega arith) in
    let more : sum_from (suc c) s f ≡ sum_from (suc s + c) 0 f = from_later (suc c) s f (λ k l. h k (omega arith)) ∙ ap (λ (n : ℕ). sum_from n 0 f) e in
    omega (arith, here, more)
