-- Choices read from the rows, from the driver on: each index hands its children the lengths that its own choice takes.
use Rattle.std.proofs.Common.{◌≡◌, ℕ, zero, suc, ◌<◌, ◌≤◌, Bool, true, false, cond, eqb, List, [], ◌∷◌, map, length, Some, None, Option, sym, refl, ap, ◌∙◌, subst, inl, inr, arith}
use Rattle.std.proofs.lemmas.Bool.Decides.{nat_tests, eqb_tells}
use Rattle.search_theory.specs.Costs.{Kind, below, sum}
use Rattle.search_theory.specs.Entries.{Priced, Row, given, what_or, Each}
use Rattle.search_theory.specs.Tree.{keep, child, children}
use Rattle.search_theory.proofs.Climb.{map_keep}
use Rattle.search_theory.proofs.Gather.{child_later, child_parent}
use Rattle.search_theory.proofs.Induction.{Rule, at_map}
use Rattle.search_theory.proofs.Infinite.{add, worth, rows_at, Has, cost_or}

module _ {A : Type 0} (q : ℕ → Bool) where
  -- what is given to each, read for each
  pub given_map : (d : A) (n : ℕ) (xs : List A) → length xs ≡ length (keep q (below n)) → map (λ k. given d k (keep q (below n)) xs) (keep q (below n)) ≡ xs
  given_map d zero [] e = refl
  given_map d zero (x ∷ xs) e = absurd (omega arith)
  given_map d (suc n) xs e = go (q n) xs e (given_map d n)
    where
      ks : List ℕ
      ks = keep q (below n)

      go : (b : Bool) (xs : List A) → length xs ≡ length (cond b (n ∷ ks) ks) → ((xs : List A) → length xs ≡ length ks → map (λ k. given d k ks xs) ks ≡ xs)
          → map (λ k. given d k (cond b (n ∷ ks) ks) xs) (cond b (n ∷ ks) ks) ≡ xs
      go false xs e ih = ih xs e
      go true [] e ih = absurd (omega arith)
      go true (x ∷ xs) e ih =
          ap (λ b. cond b x (given d n ks xs) ∷ map (λ k. given d k (n ∷ ks) (x ∷ xs)) ks) same
          ∙ ap (λ ys. x ∷ ys) (map_keep q (λ k. given d k (n ∷ ks) (x ∷ xs)) (λ k. given d k ks xs) n other ∙ ih xs (omega arith))
        where
          same : eqb n n ≡ true
          same = grind (arith, nat_tests)

          other : (k : ℕ) → k < n → q k ≡ true → given d k (n ∷ ks) (x ∷ xs) ≡ given d k ks xs
          other k l t = let z : eqb k n ≡ false = grind (arith, nat_tests) in ap (λ b. cond b x (given d k ks xs)) z

pub length_map : {A B : Type 0} (f : A → B) (xs : List A) → length (map f xs) ≡ length xs
length_map f [] = refl
length_map f (x ∷ xs) = ap suc (length_map f xs)

pub has_worth : {C X : Type 0} (a : Option (Priced C X)) → Has (worth a) → Has a
has_worth None h = h
has_worth (Some a) h = tt

pub has_taken : {C X : Type 0} (c : C) (d : X) (a : Option (Priced C X)) → Has a → a ≡ Some (record { cost = cost_or c a; what = what_or d a })
has_taken c d None h = absurd h
has_taken c d (Some a) h = refl

module _ {C : Type 0} (o : Kind C) where
  has_left : (x y : Option C) → Has (add o x y) → Has x
  has_left None y h = h
  has_left (Some x) y h = tt

  has_right : (x y : Option C) → Has (add o x y) → Has y
  has_right None y h = absurd h
  has_right (Some x) None h = h
  has_right (Some x) (Some y) h = tt

  has_keep : (y : ℕ → Option C) (q : ℕ → Bool) (n : ℕ) → Has (sum (Some o.nothing) (add o) y (keep q (below n))) → (k : ℕ) → k < n → q k ≡ true → Has (y k)
  has_keep y q zero h k l t = absurd (omega arith)
  has_keep y q (suc n) h k l t = go (q n) refl h (λ h l. has_keep y q n h k l t)
    where
      ks : List ℕ
      ks = keep q (below n)

      S : List ℕ → Option C
      S = λ ks. sum (Some o.nothing) (add o) y ks

      go : (b : Bool) → q n ≡ b → Has (S (cond b (n ∷ ks) ks)) → (Has (S ks) → k < n → Has (y k)) → Has (y k)
      go true e h ih = elim (eqb_tells k n) [ inl z ↦ subst (λ i. Has (y i)) (sym z.1) (has_left (y n) (S ks) h) | inr z ↦ ih (has_right (y n) (S ks) h) (omega arith) ]
      go false e h ih = ih h (grind (arith, nat_tests))

  at_length : {X : Type 0} (rs : List (Row C X)) (es : List ℕ) → Has (rows_at o rs es) → length es ≡ length rs
  at_length [] [] h = refl
  at_length [] (e ∷ es) h = absurd h
  at_length (r ∷ rs) [] h = absurd h
  at_length (r ∷ rs) (e ∷ es) h = ap suc (at_length rs es (has_right (worth (r e)) (rows_at o rs es) h))

module _ {C X : Type 0} {o : Kind C} (𝓡 : Rule o X) (parent : ℕ → ℕ) (n : ℕ)
    (ok : (k : ℕ) → 0 < k → k < n → parent k < k)
    (row : ℕ → Row C X)
    (rows : (i : ℕ) → i < n → (e : ℕ) → row i e ≡ 𝓡.fork i (map row (children parent n i)) e)
    (d : X) (len : ℕ → ℕ)
    (handed : (k : ℕ) → 0 < k → k < n → len k ≡ given 0 k (children parent n (parent k)) (𝓡.enterings (what_or d (row (parent k) (len (parent k))))))
  where
    abbrev pub picked : ℕ → X
    picked i = what_or d (row i (len i))

    -- where the row has an entry, so have those of the children, at the lengths handed to them
    down : (i : ℕ) → i < n → Has (row i (len i)) → Has (rows_at o (map row (children parent n i)) (𝓡.enterings (picked i)))
    down i h has = go (row i (len i)) refl has
      where
        go : (a : Option (Priced C X)) → row i (len i) ≡ a → Has a → Has (rows_at o (map row (children parent n i)) (𝓡.enterings (what_or d a)))
        go None e k = absurd k
        go (Some a) e k =
            has_right o (Some (𝓡.here i a.what)) (rows_at o (map row (children parent n i)) (𝓡.enterings a.what))
            (subst Has (subst (Each (λ a. 𝓡.Fits i a.what (len i) × (Some a.cost ≡ add o (Some (𝓡.here i a.what)) (rows_at o (map row (children parent n i)) (𝓡.enterings a.what)))))
            (sym (rows i h (len i)) ∙ e) (𝓡.sound i (map row (children parent n i)) (len i))).1 tt)

    pub tied : (i : ℕ) → i < n → Has (row i (len i)) → 𝓡.enterings (picked i) ≡ map len (children parent n i)
    tied i h has =
        sym (map_keep (child parent i) len (λ k. given 0 k (children parent n i) (𝓡.enterings (picked i))) n each
        ∙ given_map (child parent i) 0 n (𝓡.enterings (picked i)) (at_length o (map row (children parent n i)) (𝓡.enterings (picked i)) (down i h has) ∙ length_map row (children parent n i)))
      where
        each : (k : ℕ) → k < n → child parent i k ≡ true → len k ≡ given 0 k (children parent n i) (𝓡.enterings (picked i))
        each k l t =
            subst (λ j. len k ≡ given 0 k (children parent n j) (𝓡.enterings (picked j))) (child_parent parent n ok i k t)
            (handed k (grind (arith, nat_tests, child_later parent n ok i k l t)) l)

    pub all_has : Has (row 0 (len 0)) → (i : ℕ) → i < n → Has (row i (len i))
    all_has start i h = go i i (omega arith) h
      where
        go : (f i : ℕ) → i ≤ f → i < n → Has (row i (len i))
        go f zero m h = start
        go zero (suc i) m h = absurd (omega arith)
        go (suc f) (suc i) m h =
            let up : parent (suc i) < suc i = ok (suc i) (omega arith) h in
            let its : child parent (parent (suc i)) (suc i) ≡ true = grind (arith, nat_tests) in
            let has : Has (row (parent (suc i)) (len (parent (suc i)))) = go f (parent (suc i)) (omega arith) (omega arith) in
            has_worth (row (suc i) (len (suc i)))
            (has_keep o (λ k. worth (row k (len k))) (child parent (parent (suc i))) n
            (subst Has (ap (rows_at o (map row (children parent n (parent (suc i))))) (tied (parent (suc i)) (omega arith) has) ∙ at_map o row len (children parent n (parent (suc i)))) (down (parent (suc i)) (omega arith) has))
            (suc i) h its)
