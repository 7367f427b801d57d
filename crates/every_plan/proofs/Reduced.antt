-- What `reduce` makes of a chain that yields a list, where its closure computes h.
use Rattle.std.proofs.Common.{◌≡◌, List, [], ◌∷◌, Option, Some, None, ap, subst}
use Rattle.std.specs.Fn.{Called}
use Rattle.std.specs.Iterator.{FoldTurn, ReducesItems}
use Rattle.std.specs.List.{FoldsTo, reduce}
use Rattle.std.proofs.lemmas.Iterator.{YieldsList}
use Rattle.std.proofs.lemmas.Iterator.Consumers.{reduce_from_yields_List}
use denote.Param.Members.{Mut}

module _ {A F : Type 0} (g : Mut F (A × (A × Unit {0})) A) (h : A → A → A) (f : F) (calls : (a x b : A) (q : F) → Called g f (a, (x, tt)) b q → (q ≡ f) × (b ≡ h a x)) where
  plain_turns : (xs : List A) (a : A) (q : F × A) → FoldsTo {P = F × A} (FoldTurn g) (f, a) xs q → FoldsTo (λ p z c. c ≡ h p z) a xs q.1
  plain_turns [] a q c = ap (λ (v : F × A). v.1) c
  plain_turns (x ∷ xs) a q c =
      let m : (c.0.0 ≡ f) × (c.0.1 ≡ h a x) = calls a x c.0.1 c.0.0 c.1 in (
        c.0.1,
        m.1,
        plain_turns xs c.0.1 q (subst (λ (v : F). FoldsTo {P = F × A} (FoldTurn g) (v, c.0.1) xs q) m.0 c.2),
      )

  module _ {S : Type 0} (steps : S → Option A → S → Type 0) (s : S) (all : List A) where
    pub reduced : (r : Option A) → ReducesItems steps g s f r → YieldsList steps (λ x. x) s all → r ≡ reduce h all
    reduced None d yields = reduce_from_yields_List h s None d yields
    reduced (Some y) d yields = reduce_from_yields_List h s (Some y) (d.0, d.1, d.3, plain_turns d.1 d.0 (d.2, y) d.4) yields
