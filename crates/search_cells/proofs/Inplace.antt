-- One child more, joined in place: what is written does not touch what is still to be read.
use Rattle.std.proofs.Common.{◌≡◌, ℕ, zero, suc, true, false, ◌+◌, ◌-◌, ◌*◌, ◌<◌, ◌≤◌, ◌≢◌, ◌⊎◌, List, ◌++◌, length, get_or, set, take, drop, None, Option, sym, ap, ◌∙◌, subst, inl, inr, refl, zero-le, eq-or-lt_of_le, length-take-le, arith, get_or-set_other, get_or-set_same}
use Rattle.std.proofs.lemmas.List.{get_or-take}
use Rattle.search_cells.specs.Cells.{as_joined, as_chosen, row_in, line_in, table_of, HasRoom, joined_row}
use Rattle.search_cells.specs.declared.Chosen.{Chosen}
use Rattle.search_cells.specs.declared.Priced.{Priced as Kept}
use Rattle.search_theory.specs.Costs.{Kind}
use Rattle.search_theory.specs.Entries.{Priced, Row, cheaper, cheapest}
use Rattle.search_theory.specs.Joining.{Branch, Choice, tagged, join, charged, best_entry, step, Table}
use Rattle.search_cells.proofs.Parts.{next_row, last_row, no_last_row}
use Rattle.search_cells.proofs.Turns.{cheapest_same}

module _ {C X : Type 0} (o : Kind C) (own own' : ℕ → Option (Priced C (List Branch))) (r r' : Row C X) where
  pub hung_same : (j : ℕ) → ((k : ℕ) → k < j → own k ≡ own' k) → ((k : ℕ) → k < j → r k ≡ r' k)
      → cheapest o j (λ e. join o false (own (j - suc e)) (tagged e (r e))) ≡ cheapest o j (λ e. join o false (own' (j - suc e)) (tagged e (r' e)))
  hung_same j a b =
      cheapest_same o j (λ e. join o false (own (j - suc e)) (tagged e (r e))) (λ e. join o false (own' (j - suc e)) (tagged e (r' e)))
      (λ e l. ap (λ x. join o false x (tagged e (r e))) (a (j - suc e) (omega arith)) ∙ ap (λ x. join o false (own' (j - suc e)) (tagged e x)) (b e l))

module _ {C X : Type 0} (o : Kind C) (price : C) (own own' : ℕ → Option (Priced C (List Branch))) (r r' : Row C X) (low low' : ℕ → Option (Priced C (List Branch))) (first : Option (Priced C ℕ)) where
  -- a cell that is joined reads nothing that is written after it
  pub joined_row_same : (j : ℕ) → ((k : ℕ) → k < j → own k ≡ own' k) → ((k : ℕ) → k < j → r k ≡ r' k) → low j ≡ low' j → joined_row o price own r low first j ≡ joined_row o price own' r' low' first j
  joined_row_same j a b c =
      ap (λ x. cheaper o x (charged o price (join o true (low j) first))) (hung_same o own own' r r' j a b)
      ∙ ap (λ x. joined_row o price own' r' (λ _. x) first j) c

-- what holds of the first holds of each below 1
pub first_only : (P : ℕ → Type 0) → P 0 → (k : ℕ) → k < 1 → P k
first_only P h zero l = h
first_only P h (suc k) l = absurd (omega arith)

module _ {X : Type 0} (d : X) where
  -- a write at i leaves what lies before, and after
  pub kept_before : (cur old : List X) (i : ℕ) (v : X) (n : ℕ) → n ≤ i → ((k : ℕ) → k < n → get_or cur k d ≡ get_or old k d) → (k : ℕ) → k < n → get_or (set cur i v) k d ≡ get_or old k d
  kept_before cur old i v n m h k l = let ne : k ≢ i = omega arith in get_or-set_other cur i k v d ne ∙ h k l

  pub kept_after : (cur old : List X) (i : ℕ) (v : X) (n : ℕ) → i ≤ n → ((k : ℕ) → n < k → get_or cur k d ≡ get_or old k d) → (k : ℕ) → n < k → get_or (set cur i v) k d ≡ get_or old k d
  kept_after cur old i v n m h k l = let ne : k ≢ i = omega arith in get_or-set_other cur i k v d ne ∙ h k l

  -- a row that is written from its start
  pub forth_more : {Y : Type 0} (f : X → Y) (want : ℕ → Y) (cur : List X) (j : ℕ) (v : X) → j < length cur → f v ≡ want j → ((k : ℕ) → k < j → f (get_or cur k d) ≡ want k) → (k : ℕ) → k < j + 1 → f (get_or (set cur j v) k d) ≡ want k
  forth_more f want cur j v within is h k a = go (eq-or-lt_of_le b)
    where
      b : k ≤ j
      b = omega arith

      go : (k ≡ j) ⊎ (k < j) → f (get_or (set cur j v) k d) ≡ want k
      go (inl e) = subst (λ k. f (get_or (set cur j v) k d) ≡ want k) (sym e) (ap f (get_or-set_same cur j v d within) ∙ is)
      go (inr l) = let ne : k ≢ j = omega arith in ap f (get_or-set_other cur j k v d ne) ∙ h k l

  -- a row that is written from its start, where it begins at `at`
  pub forth_more_at : {Y : Type 0} (f : X → Y) (want : ℕ → Y) (cur : List X) (at j : ℕ) (v : X) → at + j < length cur → f v ≡ want j
      → ((k : ℕ) → k < j → f (get_or cur (at + k) d) ≡ want k) → (k : ℕ) → k < j + 1 → f (get_or (set cur (at + j) v) (at + k) d) ≡ want k
  forth_more_at f want cur at j v within is h k a = go (eq-or-lt_of_le b)
    where
      b : k ≤ j
      b = omega arith

      go : (k ≡ j) ⊎ (k < j) → f (get_or (set cur (at + j) v) (at + k) d) ≡ want k
      go (inl e) = subst (λ k. f (get_or (set cur (at + j) v) (at + k) d) ≡ want k) (sym e) (ap f (get_or-set_same cur (at + j) v d within) ∙ is)
      go (inr l) = let ne : at + k ≢ at + j = omega arith in ap f (get_or-set_other cur (at + j) (at + k) v d ne) ∙ h k l

  -- a list that is written from its start
  pub set_more : (want : ℕ → X) (cur : List X) (j : ℕ) (v : X) → j < length cur → v ≡ want j → ((k : ℕ) → k < j → get_or cur k d ≡ want k) → (k : ℕ) → k < j + 1 → get_or (set cur j v) k d ≡ want k
  set_more = forth_more (λ x. x)

  -- a row that is written from its end
  pub back_more : {Y : Type 0} (f : X → Y) (want : ℕ → Y) (cur : List X) (j n : ℕ) (v : X) → j < length cur → f v ≡ want j
      → ((k : ℕ) → suc j ≤ k → k < n → f (get_or cur k d) ≡ want k) → (k : ℕ) → j ≤ k → k < n → f (get_or (set cur j v) k d) ≡ want k
  back_more f want cur j n v within is h k a b = go (eq-or-lt_of_le a)
    where
      go : (j ≡ k) ⊎ (j < k) → f (get_or (set cur j v) k d) ≡ want k
      go (inl e) = subst (λ k. f (get_or (set cur j v) k d) ≡ want k) e (ap f (get_or-set_same cur j v d within) ∙ is)
      go (inr l) = let ne : k ≢ j = omega arith in ap f (get_or-set_other cur j k v d ne) ∙ h k (omega arith) b

  -- a row that is written from its end, where it begins at `at`
  pub back_more_at : {Y : Type 0} (f : X → Y) (want : ℕ → Y) (cur : List X) (at j n : ℕ) (v : X) → at + j < length cur → f v ≡ want j
      → ((k : ℕ) → suc j ≤ k → k ≤ n → f (get_or cur (at + k) d) ≡ want k) → (k : ℕ) → j ≤ k → k ≤ n → f (get_or (set cur (at + j) v) (at + k) d) ≡ want k
  back_more_at f want cur at j n v within is h k a b = go (eq-or-lt_of_le a)
    where
      go : (j ≡ k) ⊎ (j < k) → f (get_or (set cur (at + j) v) (at + k) d) ≡ want k
      go (inl e) = subst (λ k. f (get_or (set cur (at + j) v) (at + k) d) ≡ want k) e (ap f (get_or-set_same cur (at + j) v d within) ∙ is)
      go (inr l) = let ne : at + k ≢ at + j = omega arith in ap f (get_or-set_other cur (at + j) (at + k) v d ne) ∙ h k (omega arith) b

-- the row with one head buffer less is the one before, and there is none before the first
module _ {C : Type 0} (o : Kind C) (limit : ℕ) (price : C) (p : ℕ → C) (t : Table C) (r : Row C Choice) (low : ℕ → Option (Priced C (List Branch))) where
  pub joined_step : (h j : ℕ) → price ≡ p (h - 1) → (h ≡ 0 → low j ≡ None) → (0 < h → low j ≡ t (h - 1) j) → joined_row o price (t h) r low (best_entry o limit r) j ≡ step o limit p t r h j
  joined_step zero j fee none some = ap (λ x. joined_row o price (t 0) r (λ _. x) (best_entry o limit r) j) (none refl)
  joined_step (suc h) j fee none some =
      let one_less : suc h - 1 ≡ h = omega arith in
      ap (λ x. joined_row o price (t (suc h)) r (λ _. x) (best_entry o limit r) j) (some (omega arith) ∙ ap (λ i. t i j) one_less)
      ∙ ap (λ c. joined_row o c (t (suc h)) r (t h) (best_entry o limit r) j) (fee ∙ ap p one_less)

-- the first cells of a row are its first entries
pub front_entry : {C V : Type 0} (o : Kind C) (held : V → C) (xs : List (Option (Kept V Chosen))) (n : ℕ) → n ≤ length xs → best_entry o (length (take n xs)) (row_in held (take n xs)) ≡ best_entry o n (row_in held xs)
front_entry o held xs n h =
    ap (λ m. best_entry o m (row_in held (take n xs))) (length-take-le n xs h)
    ∙ cheapest_same o n (λ e. tagged e (row_in held (take n xs) e)) (λ e. tagged e (row_in held xs e)) (λ e l. ap (λ x. tagged e (as_chosen held x)) (get_or-take n xs e None l))

-- A table's row, written with one child more, where h rows lie below it.
module _ {C V : Type 0} (o : Kind C) (held : V → C) (limit w : ℕ) (wide : w ≡ limit + 1) (p : ℕ → C) (below rest old child : List (Option (Kept V Chosen))) (h : ℕ) (lies : length below ≡ h * w)
    (same : (k : ℕ) → k < h * w + w → get_or (below ++ rest) k None ≡ get_or old k None) where
  abbrev low : List (Option (Kept V Chosen))
  low = drop (length below - w) below

  pub merged_row : (price : C) → price ≡ p (h - 1) → (j : ℕ) → j ≤ limit
      → joined_row o price (line_in held (take w rest)) (row_in held child) (line_in held low) (best_entry o limit (row_in held child)) j ≡ step o limit p (table_of held old w) (row_in held child) h j
  merged_row price fee j l =
      joined_row_same o price (line_in held (take w rest)) (table_of held old w h) (row_in held child) (row_in held child) (line_in held low) (line_in held low) (best_entry o limit (row_in held child)) j
      (λ k a. ap (as_joined held) (next_row None below rest old w h lies same k (omega arith))) (λ k a. refl) refl
      ∙ joined_step o limit price p (table_of held old w) (row_in held child) (line_in held low) h j fee
      (λ z. ap (as_joined held) (no_last_row None below rest old w h lies same z j)) (λ s. ap (as_joined held) (last_row None below rest old w h lies same s j (omega arith)))

  -- there is room in the row and in the one before it
  pub row_room : ((k : ℕ) → k ≤ limit → HasRoom (get_or old (h * w + k) None)) → (k : ℕ) → k < w → HasRoom (get_or (take w rest) k None)
  row_room room k l = subst HasRoom (sym (next_row None below rest old w h lies same k l)) (room k (omega arith))

  pub low_room : (0 < h → (k : ℕ) → k ≤ limit → HasRoom (get_or old ((h - 1) * w + k) None)) → (k : ℕ) → k < w → HasRoom (get_or low k None)
  low_room room k l = elim (eq-or-lt_of_le (zero-le {n = h})) [
    | inl z ↦ subst HasRoom (sym (no_last_row None below rest old w h lies same (sym z) k)) tt
    | inr s ↦ subst HasRoom (sym (last_row None below rest old w h lies same s k l)) (room s k (omega arith))
  ]
