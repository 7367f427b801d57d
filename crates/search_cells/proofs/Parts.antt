-- Rows that lie one behind the other, and a row that is lent out of the cells and written.
use Rattle.std.proofs.Common.{◌≡◌, ℕ, suc, ◌+◌, ◌-◌, ◌*◌, ◌<◌, ◌≤◌, List, ◌++◌, length, get_or, take, drop, sym, refl, ap, ◌∙◌, mul-le-mul_right, suc-mul, arith}
use Rattle.std.proofs.lemmas.List.{get_or_append_left, get_or-append-add, get_or-append_right, get_or-drop, get_or-take, get_or_past}

-- the rows of a table lie one behind the other
pub rows_apart : (a b w : ℕ) → a < b → a * w + w ≤ b * w
rows_apart a b w h = let m : suc a ≤ b = omega arith in omega (arith, mul-le-mul_right {m = suc a} {n = b} w m, suc-mul a w)

module _ {X : Type 0} (d : X) (below own rest : List X) (w : ℕ) (wide : length own ≡ w) where
  abbrev pub written : List X
  written = below ++ (own ++ drop w rest)

  pub within_row : (j : ℕ) → j < w → get_or written (length below + j) d ≡ get_or own j d
  within_row j l = get_or-append-add below (own ++ drop w rest) j d ∙ get_or_append_left own (drop w rest) d j (omega arith)

  pub before_row : (k : ℕ) → k < length below → get_or written k d ≡ get_or (below ++ rest) k d
  before_row k l = get_or_append_left below (own ++ drop w rest) d k l ∙ sym (get_or_append_left below rest d k l)

  pub after_row : (k : ℕ) → length below + w ≤ k → get_or written k d ≡ get_or (below ++ rest) k d
  after_row k l =
      let back : w + (k - length below - w) ≡ k - length below = omega arith in
      get_or-append_right below (own ++ drop w rest) (length below) k d refl (omega arith)
      ∙ get_or-append_right own (drop w rest) w (k - length below) d wide (omega arith)
      ∙ get_or-drop w rest (k - length below - w) d ∙ ap (λ i. get_or rest i d) back
      ∙ sym (get_or-append_right below rest (length below) k d refl (omega arith))

-- where h rows lie below, what is read of the next row and of the last one below
module _ {X : Type 0} (d : X) (below rest old : List X) (w h : ℕ) (lies : length below ≡ h * w) (same : (k : ℕ) → k < h * w + w → get_or (below ++ rest) k d ≡ get_or old k d) where
  pub next_row : (k : ℕ) → k < w → get_or (take w rest) k d ≡ get_or old (h * w + k) d
  next_row k l =
      get_or-take w rest k d l ∙ sym (get_or-append-add below rest k d) ∙ ap (λ n. get_or (below ++ rest) (n + k) d) lies ∙ same (h * w + k) (omega arith)

  pub last_row : 0 < h → (k : ℕ) → k < w → get_or (drop (length below - w) below) k d ≡ get_or old ((h - 1) * w + k) d
  last_row some k l =
      let is : suc (h - 1) ≡ h = omega arith in
      let down : h * w ≡ (h - 1) * w + w = ap (λ n. n * w) (sym is) ∙ suc-mul (h - 1) w in
      let back : length below - w + k ≡ (h - 1) * w + k = omega arith in
      get_or-drop (length below - w) below k d ∙ ap (λ i. get_or below i d) back ∙ sym (get_or_append_left below rest d ((h - 1) * w + k) (omega arith)) ∙ same ((h - 1) * w + k) (omega arith)

  pub no_last_row : h ≡ 0 → (k : ℕ) → get_or (drop (length below - w) below) k d ≡ d
  no_last_row none k =
      let z : 0 * w ≡ 0 = omega arith in
      let y : h * w ≡ 0 = ap (λ n. n * w) none ∙ z in
      get_or-drop (length below - w) below k d ∙ get_or_past below (length below - w + k) d (omega arith)
