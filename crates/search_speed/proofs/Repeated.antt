-- A search that is made again answers the same and leaves the marks as they are.
use Rattle.std.proofs.Common.{◌≡◌, ℕ, Bool, true, false, cond, eqb, ltb, List, length, Some, None, Option, Result, sym, refl, ap, ◌∙◌}
use Rattle.search_theory.specs.Entries.{Priced}
use Rattle.search.specs.Answers.{cells_needed, marks_of_chosen, marks_after, search_answer}
use Rattle.search.specs.declared.fault.SearchFault.{SearchFault}

module _ {C : Type 0} where
  marks_by : Bool → Bool → List ℕ → Option (Priced C (List ℕ)) → List ℕ
  marks_by few fits before plan = cond few before (cond fits (marks_of_chosen before plan) before)

  marks_stay : (few fits : Bool) (before : List ℕ) (plan : Option (Priced C (List ℕ))) → marks_by few fits (marks_by few fits before plan) plan ≡ marks_by few fits before plan
  unfolding marks_by
  marks_stay true fits before plan = refl
  marks_stay false true before None = refl
  marks_stay false true before (Some a) = refl
  marks_stay false false before plan = refl

  same_marks : (limit records cells cells' : ℕ) (before marks : List ℕ) (plan : Option (Priced C (List ℕ))) → cells' ≡ cells → length marks ≡ length before → marks ≡ marks_after limit records cells before plan → marks_after limit records cells' marks plan ≡ marks
  unfolding marks_by
  same_marks limit records cells cells' before marks plan e f g =
      let few = ltb cells (cells_needed limit records) in
      let fits = eqb (length before) records in
      let lengths : marks_after limit records cells' marks plan ≡ marks_by few fits marks plan =
      ap (λ (k : ℕ). marks_after limit records k marks plan) e ∙ ap (λ (n : ℕ). marks_by few (eqb n records) marks plan) f in
      lengths ∙ (ap (λ (ms : List ℕ). marks_by few fits ms plan) g ∙ (marks_stay few fits before plan ∙ sym g))

  -- the first search and one after it, which is lent as many cells and the marks that the first left
  pub same_again : (limit records cells cells' : ℕ) (before first lent after : List ℕ) (plan : Option (Priced C (List ℕ))) (r r' : Result (Option C) SearchFault) → cells' ≡ cells → length first ≡ length before → lent ≡ first → r ≡ search_answer limit records cells (length before) plan → first ≡ marks_after limit records cells before plan → r' ≡ search_answer limit records cells' (length lent) plan → after ≡ marks_after limit records cells' lent plan → (r' ≡ r) × (after ≡ first)
  same_again limit records cells cells' before first lent after plan r r' e f g answer marks answer' marks' =
      let lengths : length lent ≡ length before = ap length g ∙ f in (
        answer' ∙ (ap (λ (k : ℕ). search_answer limit records k (length lent) plan) e ∙ (ap (λ (n : ℕ). search_answer limit records cells n plan) lengths ∙ sym answer)),
        marks' ∙ (ap (λ (ms : List ℕ). marks_after limit records cells' ms plan) g ∙ same_marks limit records cells cells' before first plan e f marks),
      )
