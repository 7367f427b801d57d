-- The lengths handed down: the driver has its own, and each other index what its parent's choice hands it.
use Rattle.std.proofs.Common.{◌≡◌, ℕ, zero, suc, ◌<◌, ◌≤◌, Bool, true, false, cond, eqb, sym, refl, ap, ◌∙◌, inl, inr, arith}
use Rattle.std.proofs.lemmas.Bool.Decides.{nat_tests, eqb_tells}
use Rattle.search_theory.specs.Entries.{Row, given, what_or}
use Rattle.search_theory.specs.Joining.{Branch, Choice}
use Rattle.search_theory.specs.Layouts.{Problem, Rooted, kids}
use Rattle.search_theory.specs.Search.{no_branch, no_choice, choice_for, handed_down, layout_of}

module _ {C : Type 0} (N : Problem C) (root : Rooted N) (r : ℕ → Row C Choice) (e : ℕ) where
  -- whatever the fuel, if it is enough
  enough : (f g k : ℕ) → k ≤ f → k ≤ g → k < N.count → handed_down N r e f k ≡ handed_down N r e g k
  enough zero zero k a b h = refl
  enough zero (suc g) k a b h = let z : eqb k 0 ≡ true = grind (arith, nat_tests) in sym (ap (λ t. cond t e (choice_for N r k (handed_down N r e g (N.parent k))).entering) z)
  enough (suc f) zero k a b h = let z : eqb k 0 ≡ true = grind (arith, nat_tests) in ap (λ t. cond t e (choice_for N r k (handed_down N r e f (N.parent k))).entering) z
  enough (suc f) (suc g) k a b h = elim (eqb_tells k 0) [
    | inl z ↦ ap (λ t. cond t e (choice_for N r k (handed_down N r e f (N.parent k))).entering) z.0 ∙ sym (ap (λ t. cond t e (choice_for N r k (handed_down N r e g (N.parent k))).entering) z.0)
    | inr z ↦
        let up : N.parent k < k = root.before k (omega arith) h in
        ap (λ x. cond (eqb k 0) e (choice_for N r k x).entering) (enough f g (N.parent k) (omega arith) (omega arith) (omega arith))
  ]

  pub handed_first : handed_down N r e N.count 0 ≡ e
  handed_first = go N.count root.some
    where
      go : (n : ℕ) → 0 < n → handed_down N r e n 0 ≡ e
      go zero h = absurd (omega arith)
      go (suc n) h = refl

  pub handed_next : (k : ℕ) → 0 < k → k < N.count → handed_down N r e N.count k ≡ (choice_for N r k (handed_down N r e N.count (N.parent k))).entering
  handed_next k pos h =
      let up : N.parent k < k = root.before k pos h in
      let z : eqb k 0 ≡ false = grind (arith, nat_tests) in
      enough N.count (suc N.count) k (omega arith) (omega arith) h ∙ ap (λ t. cond t e (choice_for N r k (handed_down N r e N.count (N.parent k))).entering) z

  -- what is laid out at the driver, and at an index for which its parent chose this branch
  pub layout_first : layout_of N r (handed_down N r e N.count) 0 ≡ record { head = false; trunk = (what_or no_choice (r 0 e)).trunk }
  layout_first = ap (λ x. record { head = false; trunk = (what_or no_choice (r 0 x)).trunk }) handed_first

  pub layout_next : (k : ℕ) → 0 < k → k < N.count → (b : Branch) → b ≡ choice_for N r k (handed_down N r e N.count (N.parent k))
      → layout_of N r (handed_down N r e N.count) k ≡ record { head = b.head; trunk = (what_or no_choice (r k b.entering)).trunk }
  layout_next k pos h b is =
      let z : eqb k 0 ≡ false = grind (arith, nat_tests) in
      ap (λ t. record { head = cond t false (choice_for N r k (handed_down N r e N.count (N.parent k))).head; trunk = (what_or no_choice (r k (handed_down N r e N.count k))).trunk }) z
      ∙ ap (λ x. record { head = (choice_for N r k (handed_down N r e N.count (N.parent k))).head; trunk = (what_or no_choice (r k x)).trunk }) (handed_next k pos h)
      ∙ ap (λ x. record { head = x.head; trunk = (what_or no_choice (r k x.entering)).trunk }) (sym is)

-- rows that agree along the net hand down the same lengths, and lay out the same buffers
module _ {C : Type 0} (N : Problem C) (root : Rooted N) (r u : ℕ → Row C Choice) (same : (i : ℕ) → i < N.count → (e : ℕ) → r i e ≡ u i e) (e : ℕ) where
  choice_same : (k : ℕ) → 0 < k → k < N.count → (e : ℕ) → choice_for N r k e ≡ choice_for N u k e
  choice_same k pos l e =
      let before : N.parent k < k = root.before k pos l in
      ap (λ x. given no_branch k (kids N (N.parent k)) (what_or no_choice x).branches) (same (N.parent k) (omega arith) e)

  handed_same : (f k : ℕ) → k < N.count → handed_down N r e f k ≡ handed_down N u e f k
  handed_same zero k l = refl
  handed_same (suc f) k l = elim (eqb_tells k 0) [
    | inl z ↦ ap (λ t. cond t e (choice_for N r k (handed_down N r e f (N.parent k))).entering) z.0 ∙ sym (ap (λ t. cond t e (choice_for N u k (handed_down N u e f (N.parent k))).entering) z.0)
    | inr z ↦
        let up : N.parent k < k = root.before k (omega arith) l in
        ap (λ b. cond (eqb k 0) e b.entering) (choice_same k (omega arith) l (handed_down N r e f (N.parent k)))
        ∙ ap (λ x. cond (eqb k 0) e (choice_for N u k x).entering) (handed_same f (N.parent k) (omega arith))
  ]

  pub layout_same : (k : ℕ) → k < N.count → layout_of N r (handed_down N r e N.count) k ≡ layout_of N u (handed_down N u e N.count) k
  layout_same k l =
      ap (λ h. record { head = h; trunk = (what_or no_choice (r k (handed_down N r e N.count k))).trunk }) heads
      ∙ ap (λ x. record { head = h'; trunk = (what_or no_choice (r k x)).trunk }) (handed_same N.count k l)
      ∙ ap (λ x. record { head = h'; trunk = (what_or no_choice x).trunk }) (same k l (handed_down N u e N.count k))
    where
      h' : Bool
      h' = (layout_of N u (handed_down N u e N.count) k).head

      heads : (layout_of N r (handed_down N r e N.count) k).head ≡ (layout_of N u (handed_down N u e N.count) k).head
      heads = elim (eqb_tells k 0) [
        | inl z ↦ ap (λ t. cond t false (choice_for N r k (handed_down N r e N.count (N.parent k))).head) z.0 ∙ sym (ap (λ t. cond t false (choice_for N u k (handed_down N u e N.count (N.parent k))).head) z.0)
        | inr z ↦
            let up : N.parent k < k = root.before k (omega arith) l in
            ap (λ b. cond (eqb k 0) false b.head) (choice_same k (omega arith) l (handed_down N r e N.count (N.parent k)))
            ∙ ap (λ x. cond (eqb k 0) false (choice_for N u k x).head) (handed_same N.count (N.parent k) (omega arith))
      ]
