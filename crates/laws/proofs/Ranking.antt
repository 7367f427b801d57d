-- A strict kind first and any kind second keep the laws of a cost kind, as a pair.
use mathlib.Core.Path.{◌≡◌, refl, ◌∙◌}
use mathlib.Core.Bool.{Bool, true, false}
use mathlib.Core.Logic.{◌⊎◌, inl, inr, ⊎_elim}
use borrow.Author.Tests.{both_ways, clash}
use Rattle.laws.specs.Laws.{CostLaws, StrictLaws}
use Rattle.laws.specs.Ranked.{ranks, ranked}

never : {A : Type 0} → ⊥ → A
never x = elim x [ ]

told : (b : Bool) → (b ≡ true) ⊎ (b ≡ false)
told true = inl refl
told false = inr refl

-- what the test says: the first is at most the other, and where they tie, they are at the ceiling or the second decides
record Ranks (forth back full rest : Bool) : Type 0 where
  forth_so : forth ≡ true
  else_so : back ≡ true → (full ≡ true) ⊎ (rest ≡ true)

ranks_so : (f b u r : Bool) → (f ≡ true) ⊎ (b ≡ true) → ranks f b u r ≡ true → Ranks f b u r
ranks_so true true true r t p = record { forth_so = refl; else_so = λ _. inl refl }
ranks_so true true false r t p = record { forth_so = refl; else_so = λ _. inr p }
ranks_so true false u r t p = record { forth_so = refl; else_so = λ e. never (clash e) }
ranks_so false true u r t p = never (clash p)
ranks_so false false u r t p = never (⊎_elim clash clash t)

so_ranks : (f b u r : Bool) → Ranks f b u r → ranks f b u r ≡ true
so_ranks true true true r k = refl
so_ranks true true false r k = ⊎_elim (λ e. never (clash e)) (λ e. e) (k.else_so refl)
so_ranks true false u r k = refl
so_ranks false b u r k = never (clash k.forth_so)

module _ {X Y : Type 0} {n : X} {f : X → X → X} {l : X → X → Bool} {top : X} (a : CostLaws n f l) (u : StrictLaws f l top) {m : Y} {s : Y → Y → Y} {k : Y → Y → Bool} (b : CostLaws m s k) where
  abbrev lower : X → Y → X → Y → Bool
  lower = ranked l top k

  abbrev Told : X → Y → X → Y → Type 0
  Told x c y d = Ranks (l x y) (l y x) (l top x) (k c d)

  tell : (x : X) (c : Y) (y : X) (d : Y) → lower x c y d ≡ true → Told x c y d
  tell x c y d = ranks_so _ _ _ _ (a.total x y)

  show : (x : X) (c : Y) (y : X) (d : Y) → Told x c y d → lower x c y d ≡ true
  show x c y d = so_ranks _ _ _ _

  one_way : (x y : X) → l y x ≡ false → l x y ≡ true
  one_way x y e = ⊎_elim (λ h. h) (λ h. never (both_ways _ e h)) (a.total x y)

  less : (x : X) (c : Y) (y : X) (d : Y) → l y x ≡ false → lower x c y d ≡ true
  less x c y d e = show x c y d (record { forth_so = one_way _ _ e; else_so = λ h. never (both_ways _ e h) })

  tied : (x : X) (c : Y) (y : X) (d : Y) → l x y ≡ true → l y x ≡ true → (lower x c y d ≡ true) ⊎ (lower y d x c ≡ true)
  tied x c y d h g =
      ⊎_elim
      (λ r. inl (show x c y d (record { forth_so = h; else_so = λ _. inr r })))
      (λ r. inr (show y d x c (record { forth_so = g; else_so = λ _. inr r })))
      (b.total c d)

  pub ranked_total : (x : X) (c : Y) (y : X) (d : Y) → (lower x c y d ≡ true) ⊎ (lower y d x c ≡ true)
  ranked_total x c y d =
      ⊎_elim
      (λ g. ⊎_elim (λ h. tied x c y d h g) (λ h. inr (less y d x c h)) (told (l x y)))
      (λ g. inl (less x c y d g))
      (told (l y x))

  pub ranked_transitive : (x : X) (c : Y) (y : X) (d : Y) (z : X) (e : Y) → lower x c y d ≡ true → lower y d z e ≡ true → lower x c z e ≡ true
  ranked_transitive x c y d z e i j =
      let t = tell x c y d i in
      let v = tell y d z e j in
      let go = a.transitive in
      show x c z e (record {
        forth_so = go _ _ _ t.forth_so v.forth_so;
        else_so = λ h.
            ⊎_elim
            inl
            (λ p.
            ⊎_elim
            (λ q. inl (go _ _ _ q (go _ _ _ v.forth_so h)))
            (λ q. inr (b.transitive _ _ _ p q))
            (v.else_so (go _ _ _ h t.forth_so)))
            (t.else_so (go _ _ _ v.forth_so h));
      })

  pub ranked_monotone : (x : X) (c : Y) (y : X) (d : Y) (z : X) (e : Y) → lower x c y d ≡ true → lower (f x z) (s c e) (f y z) (s d e) ≡ true
  ranked_monotone x c y d z e i =
      let t = tell x c y d i in
      show (f x z) (s c e) (f y z) (s d e) (record {
        forth_so = a.monotone _ _ _ t.forth_so;
        else_so = λ h.
            ⊎_elim
            (λ g. ⊎_elim (λ p. inl (u.full _ _ p)) (λ p. inr (b.monotone _ _ _ p)) (t.else_so g))
            (λ g. ⊎_elim (λ p. never (both_ways _ p h)) (λ p. inl (a.transitive _ _ _ p h)) (u.strict x y z g))
            (told (l y x));
      })

  -- the same of a type of pairs, told by its two parts
  pub pair_laws : {P : Type 0} (first : P → X) (second : P → Y) (pair : X → Y → P) → ((x : X) (y : Y) → first (pair x y) ≡ x) → ((x : X) (y : Y) → second (pair x y) ≡ y) → ((p : P) → pair (first p) (second p) ≡ p) → CostLaws (pair n m) (λ p q. pair (f (first p) (first q)) (s (second p) (second q))) (λ p q. lower (first p) (second p) (first q) (second q))
  pair_laws first second pair first_is second_is whole = record {
    total = λ p q. ranked_total (first p) (second p) (first q) (second q);
    transitive = λ p q r. ranked_transitive (first p) (second p) (first q) (second q) (first r) (second r);
    associative = λ p q r. simp (first_is, second_is) (λ i. pair (a.associative (first p) (first q) (first r) i) (b.associative (second p) (second q) (second r) i));
    commutative = λ p q. λ i. pair (a.commutative (first p) (first q) i) (b.commutative (second p) (second q) i);
    neutral = λ p. simp (first_is, second_is) ((λ i. pair (a.neutral (first p) i) (b.neutral (second p) i)) ∙ whole p);
    monotone = λ p q r i. simp (first_is, second_is) (ranked_monotone (first p) (second p) (first q) (second q) (first r) (second r) i);
  }
