-- The joined table is right: what it holds can be had, and nothing that can be had is cheaper.
use Rattle.std.proofs.Common.{◌≡◌, ℕ, zero, suc, ◌+◌, ◌-◌, ◌<◌, Bool, true, false, cond, ◌&&◌, eqb, List, [], ◌∷◌, Some, None, Option, sym, refl, ap, ◌∙◌, subst, arith}
use Rattle.std.proofs.lemmas.Bool.Decides.{nat_tests}
use Rattle.search_theory.specs.Costs.{Kind, Lawful, below, total}
use Rattle.search_theory.specs.Entries.{Priced, cheapest, Row, Each}
use Rattle.search_theory.specs.Joining.{Branch, Choice, Table, tagged, join, charged, best_entry, headed, step, table, chosen}
use Rattle.search_theory.proofs.Best.{each_map, cheaper_each, cheapest_each, cheaper_left, cheaper_right, cheapest_least}
use Rattle.search_theory.proofs.Costs.{no_test, adds, no_more_refl, no_more_trans, no_more_add, both_add, regroup, neutral_right}
use Rattle.search_theory.proofs.Infinite.{add, NoMore, worth, rows_at, enterings, heads, loose_length, Driven}

module _ {C : Type 0} (o : Kind C) where
  pub worth_join : (f : Bool) (t : Option (Priced C (List Branch))) (r : Option (Priced C ℕ)) → worth (join o f t r) ≡ add o (worth t) (worth r)
  worth_join f None r = refl
  worth_join f (Some t) None = refl
  worth_join f (Some t) (Some r) = refl

  pub worth_charged : {X : Type 0} (c : C) (a : Option (Priced C X)) → worth (charged o c a) ≡ add o (worth a) (Some c)
  worth_charged c None = refl
  worth_charged c (Some a) = refl

  worth_tagged : {X : Type 0} (e : ℕ) (a : Option (Priced C X)) → worth (tagged e a) ≡ worth a
  worth_tagged e None = refl
  worth_tagged e (Some a) = refl

  pub worth_chosen : (f : Bool) (a : Option (Priced C (List Branch))) → worth (chosen f a) ≡ worth a
  worth_chosen f None = refl
  worth_chosen f (Some a) = refl

  each_join : (P : Priced C (List Branch) → Type 0) (Q : Priced C ℕ → Type 0) (Z : Priced C (List Branch) → Type 0) (f : Bool) (t : Option (Priced C (List Branch))) (r : Option (Priced C ℕ))
      → ((a : Priced C (List Branch)) (b : Priced C ℕ) → P a → Q b → Z (record { cost = o.plus a.cost b.cost; what = record { head = f; entering = b.what } ∷ a.what }))
      → Each P t → Each Q r → Each Z (join o f t r)
  each_join P Q Z f None r g h k = tt
  each_join P Q Z f (Some t) None g h k = tt
  each_join P Q Z f (Some t) (Some r) g h k = g t r h k

  pub each_charged : {X : Type 0} (P Z : Priced C X → Type 0) (c : C) (a : Option (Priced C X)) → ((x : Priced C X) → P x → Z (record { cost = o.plus x.cost c; what = x.what })) → Each P a → Each Z (charged o c a)
  each_charged P Z c None g h = tt
  each_charged P Z c (Some a) g h = g a h

  pub each_chosen : (P : Priced C (List Branch) → Type 0) (Z : Priced C Choice → Type 0) (f : Bool) (a : Option (Priced C (List Branch))) → ((x : Priced C (List Branch)) → P x → Z (record { cost = x.cost; what = record { trunk = f; branches = x.what } })) → Each P a → Each Z (chosen f a)
  each_chosen P Z f None g h = tt
  each_chosen P Z f (Some a) g h = g a h

module _ {C X : Type 0} {o : Kind C} (l : Lawful o) (limit : ℕ) (p : ℕ → C) where
  pub best_entry_least : (r : Row C X) (e : ℕ) → e < limit → NoMore o (worth (best_entry o limit r)) (worth (r e))
  best_entry_least r e h = subst (NoMore o (worth (best_entry o limit r))) (worth_tagged o e (r e)) (cheapest_least l limit (λ e. tagged e (r e)) e h)

  -- a child with no head buffer
  step_loose : (t : Table C) (r : Row C X) (h j e : ℕ) (y : Option C) → NoMore o (worth (t h j)) y → NoMore o (worth (step o limit p t r h (suc (e + j)))) (add o y (worth (r e)))
  step_loose t r h j e y k =
      no_more_trans l (worth (step o limit p t r h (suc (e + j)))) (worth (cand e)) (add o y (worth (r e)))
      (no_more_trans l (worth (step o limit p t r h (suc (e + j)))) (worth (cheapest o (suc (e + j)) cand)) (worth (cand e))
      (cheaper_left l (cheapest o (suc (e + j)) cand) (headed o p t (best_entry o limit r) h (suc (e + j))))
      (cheapest_least l (suc (e + j)) cand e (omega arith)))
      (subst (λ x. NoMore o x (add o y (worth (r e)))) (sym same) (no_more_add l (worth (t h j)) y (worth (r e)) k))
    where
      cand : ℕ → Option (Priced C (List Branch))
      cand = λ i. join o false (t h (suc (e + j) - suc i)) (tagged i (r i))

      less : suc (e + j) - suc e ≡ j
      less = omega arith

      same : worth (cand e) ≡ add o (worth (t h j)) (worth (r e))
      same = worth_join o false (t h (suc (e + j) - suc e)) (tagged e (r e)) ∙ ap (λ i. add o (worth (t h i)) (worth (tagged e (r e)))) less ∙ ap (add o (worth (t h j))) (worth_tagged o e (r e))

  -- a child with a head buffer
  step_headed : (t : Table C) (r : Row C X) (h j e : ℕ) (y : Option C) → e < limit → NoMore o (worth (t h j)) y → NoMore o (worth (step o limit p t r (suc h) j)) (add o (add o y (worth (r e))) (Some (p h)))
  step_headed t r h j e y m k =
      no_more_trans l (worth (step o limit p t r (suc h) j)) (worth (charged o (p h) (join o true (t h j) (best_entry o limit r)))) (add o (add o y (worth (r e))) (Some (p h)))
      (cheaper_right l (cheapest o j (λ e. join o false (t (suc h) (j - suc e)) (tagged e (r e)))) (headed o p t (best_entry o limit r) (suc h) j))
      (subst (λ x. NoMore o x (add o (add o y (worth (r e))) (Some (p h)))) (sym same)
      (no_more_add l (add o (worth (t h j)) (worth (best_entry o limit r))) (add o y (worth (r e))) (Some (p h)) (both_add l (worth (t h j)) y (worth (best_entry o limit r)) (worth (r e)) k (best_entry_least r e m))))
    where
      same : worth (charged o (p h) (join o true (t h j) (best_entry o limit r))) ≡ add o (add o (worth (t h j)) (worth (best_entry o limit r))) (Some (p h))
      same = worth_charged o (p h) (join o true (t h j) (best_entry o limit r)) ∙ ap (λ x. add o x (Some (p h))) (worth_join o true (t h j) (best_entry o limit r))

  -- what the head buffer-rule of some branches pay, and the rows at their lengths
  abbrev pub bill : List (Row C X) → List Branch → Option C
  bill rs bs = add o (Some (total o p (below (heads bs)))) (rows_at o rs (enterings bs))

  pub table_best : (rs : List (Row C X)) (bs : List Branch) → Driven limit bs → NoMore o (worth (table o limit p rs (heads bs) (loose_length bs))) (bill rs bs)
  table_best [] [] d = subst (λ x. o.at_most o.nothing x ≡ true) (sym (neutral_right l o.nothing)) (no_more_refl l (Some o.nothing))
  table_best [] (b ∷ bs) d = tt
  table_best (r ∷ rs) [] d = tt
  table_best (r ∷ rs) (b ∷ bs) d = go b.head d.0 (table_best rs bs d.1)
    where
      e : ℕ
      e = b.entering

      F : Option C
      F = Some (total o p (below (heads bs)))

      A : Option C
      A = rows_at o rs (enterings bs)

      go : (f : Bool) → (f ≡ true → e < limit) → NoMore o (worth (table o limit p rs (heads bs) (loose_length bs))) (add o F A)
          → NoMore o (worth (step o limit p (table o limit p rs) r (cond f (suc (heads bs)) (heads bs)) (cond f (loose_length bs) (suc (e + loose_length bs)))))
          (add o (Some (total o p (below (cond f (suc (heads bs)) (heads bs))))) (add o (worth (r e)) A))
      go true m ih =
          subst (NoMore o (worth (step o limit p (table o limit p rs) r (suc (heads bs)) (loose_length bs))))
          ((adds l).comm (add o (add o F A) (worth (r e))) (Some (p (heads bs))) ∙ ap (add o (Some (p (heads bs)))) ((adds l).assoc F A (worth (r e)) ∙ ap (add o F) ((adds l).comm A (worth (r e)))) ∙ sym ((adds l).assoc (Some (p (heads bs))) F (add o (worth (r e)) A)))
          (step_headed (table o limit p rs) r (heads bs) (loose_length bs) e (add o F A) (m refl) ih)
      go false m ih =
          subst (NoMore o (worth (step o limit p (table o limit p rs) r (heads bs) (suc (e + loose_length bs)))))
          ((adds l).assoc F A (worth (r e)) ∙ ap (add o F) ((adds l).comm A (worth (r e))))
          (step_loose (table o limit p rs) r (heads bs) (loose_length bs) e (add o F A) ih)

  -- what stands in the table: so many heads, such a length hanging, and what they cost
  pub record Made (rs : List (Row C X)) (h j : ℕ) (a : Priced C (List Branch)) : Type 0 where
    pub heads_are : heads a.what ≡ h
    pub loose_is : loose_length a.what ≡ j
    pub driven : Driven limit a.what
    pub costs : Some a.cost ≡ add o (Some (total o p (below h))) (rows_at o rs (enterings a.what))

  -- an entry of a row, with its length
  abbrev pub Entry : ℕ → Row C X → Priced C ℕ → Type 0
  Entry n r b = (b.what < n) × (Some b.cost ≡ worth (r b.what))

  tagged_entry : (n : ℕ) (r : Row C X) (e : ℕ) → e < n → Each (λ b. Entry n r b × (b.what ≡ e)) (tagged e (r e))
  tagged_entry n r e h = go (r e) refl
    where
      go : (a : Option (Priced C X)) → r e ≡ a → Each (λ b. Entry n r b × (b.what ≡ e)) (tagged e a)
      go None q = tt
      go (Some a) q = ((h, sym (ap worth q)), refl)

  pub best_entry_stands : (r : Row C X) → Each (Entry limit r) (best_entry o limit r)
  best_entry_stands r = cheapest_each o (Entry limit r) limit (λ e. tagged e (r e)) (λ e h. each_map (tagged e (r e)) (λ b q. q.0) (tagged_entry limit r e h))

  step_made : (rs : List (Row C X)) (t : Table C) (r : Row C X) → ((h j : ℕ) → Each (Made rs h j) (t h j)) → (h j : ℕ) → Each (Made (r ∷ rs) h j) (step o limit p t r h j)
  step_made rs t r ih h j =
      cheaper_each o (Made (r ∷ rs) h j) (cheapest o j (λ e. join o false (t h (j - suc e)) (tagged e (r e)))) (headed o p t (best_entry o limit r) h j)
      (cheapest_each o (Made (r ∷ rs) h j) j (λ e. join o false (t h (j - suc e)) (tagged e (r e))) one)
      (with_head h)
    where
      one : (e : ℕ) → e < j → Each (Made (r ∷ rs) h j) (join o false (t h (j - suc e)) (tagged e (r e)))
      one e m =
          each_join o (Made rs h (j - suc e)) (λ b. Entry j r b × (b.what ≡ e)) (Made (r ∷ rs) h j) false (t h (j - suc e)) (tagged e (r e))
          (λ a b q s. record {
            heads_are = q.heads_are;
            loose_is = omega (arith, q.loose_is, s.1);
            driven = (λ z. absurd (no_test z), q.driven);
            costs = ap (λ x. add o x (Some b.cost)) q.costs ∙ ap (add o (add o (Some (total o p (below h))) (rows_at o rs (enterings a.what)))) s.0.1 ∙ regroup l (Some (total o p (below h))) (rows_at o rs (enterings a.what)) (worth (r b.what));
          })
          (ih h (j - suc e)) (tagged_entry j r e m)

      with_head : (h : ℕ) → Each (Made (r ∷ rs) h j) (headed o p t (best_entry o limit r) h j)
      with_head zero = tt
      with_head (suc h) =
          each_charged o (λ a. Headed a) (Made (r ∷ rs) (suc h) j) (p h) (join o true (t h j) (best_entry o limit r))
          (λ a q. record {
            heads_are = q.0;
            loose_is = q.1;
            driven = q.2;
            costs = ap (λ x. add o x (Some (p h))) q.3 ∙ (adds l).comm (add o F (rows_at o (r ∷ rs) (enterings a.what))) (Some (p h)) ∙ sym ((adds l).assoc (Some (p h)) F (rows_at o (r ∷ rs) (enterings a.what)));
          })
          (each_join o (Made rs h j) (Entry limit r) Headed true (t h j) (best_entry o limit r)
          (λ a b q s. (
            ap suc q.heads_are,
            q.loose_is,
            (λ z. s.0, q.driven),
            ap (λ x. add o x (Some b.cost)) q.costs ∙ ap (add o (add o F (rows_at o rs (enterings a.what)))) s.1 ∙ regroup l F (rows_at o rs (enterings a.what)) (worth (r b.what)),
          ))
          (ih h j) (best_entry_stands r))
        where
          F : Option C
          F = Some (total o p (below h))

          -- made, but for the price of the last head
          Headed : Priced C (List Branch) → Type 0
          Headed a = (heads a.what ≡ suc h) × (loose_length a.what ≡ j) × Driven limit a.what × (Some a.cost ≡ add o F (rows_at o (r ∷ rs) (enterings a.what)))

  pub table_made : (rs : List (Row C X)) (h j : ℕ) → Each (Made rs h j) (table o limit p rs h j)
  table_made [] h j = go (eqb h 0 && eqb j 0) refl
    where
      go : (b : Bool) → (eqb h 0 && eqb j 0) ≡ b → Each (Made [] h j) (cond b (Some (record { cost = o.nothing; what = [] })) None)
      go false e = tt
      go true e =
          let h0 : 0 ≡ h = grind (arith, nat_tests) in
          let j0 : 0 ≡ j = grind (arith, nat_tests) in
          record {
            heads_are = h0;
            loose_is = j0;
            driven = tt;
            costs = sym ((adds l).neutral (Some o.nothing)) ∙ ap (λ k. add o (Some (total o p (below k))) (Some o.nothing)) h0;
          }
  table_made (r ∷ rs) h j = step_made rs (table o limit p rs) r (table_made rs) h j
