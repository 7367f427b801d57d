-- What the rows and the handed marks come to: the plan that is chosen.
use Rattle.std.proofs.Common.{◌≡◌, ℕ, suc, ◌+◌, ◌*◌, ◌<◌, ◌≤◌, true, false, cond, eqb, ltb, List, [], ◌∷◌, length, get_or, is_ok, Some, None, Ok, Err, Option, Result, sym, refl, ap, ◌∙◌, subst, arith}
use Rattle.std.proofs.lemmas.List.{ext_get_or}
use Rattle.std.proofs.lemmas.Bool.Decides.{nat_tests}
use Rattle.refusal.specs.Told.{told_by}
use Rattle.net.specs.declared.records.record.Record.{Record}
use Rattle.best_plan.specs.Chosen.{problem, mark_of, marks_of, marked, chosen}
use Rattle.best_plan.specs.Cheapest.{AnswersBest, HangsTogether}
use Rattle.best_plan.proofs.Alone.{chosen_alone}
use Rattle.best_plan.proofs.Marks.{marks_length, marks_at}
use Rattle.search_cells.specs.declared.Chosen.{Chosen}
use Rattle.search_cells.specs.declared.Priced.{Priced as Kept}
use Rattle.search_cells.specs.Cells.{as_reached, row_in, rows_of, rows_within, Searchable}
use Rattle.search_cells.proofs.Handing.{rows_within_row, first_entry, rows_within_long}
use Rattle.search_theory.specs.Costs.{Kind}
use Rattle.search_theory.specs.Entries.{Priced}
use Rattle.search_theory.specs.Joining.{best_entry}
use Rattle.search_theory.specs.Layouts.{Problem, Rooted}
use Rattle.search_theory.specs.Search.{row, answered, layout_of, handed_down}
use Rattle.search_theory.proofs.Costs.{no_test}
use Rattle.search_theory.proofs.Handed.{layout_same}
use Rattle.search.specs.declared.fault.SearchFault.{SearchFault}
use Rattle.search.specs.declared.fault.SearchFault.TheVariants.{Cells, Marks}
use Rattle.search.specs.Answers.{cells_needed, told, search_refusal, cost_of, search_answer, marks_of_chosen, marks_after, TellsBest, RestsOnNet}
use Rattle.search.specs.Rows.{handed_mark, BranchForEachChild}

module _ {C V : Type 0} (o : Kind C) (held : V → C) (limit : ℕ) (rs : List Record) (spare : List ℕ) (prices : List (Option C)) (tree : Searchable rs) (xs : List (Option (Kept V Chosen)))
    (rows : (i e : ℕ) → i < length rs → e ≤ limit → rows_of held xs (limit + 1) i e ≡ row o (problem o limit rs spare prices) i e) where
  abbrev N : Problem C
  N = problem o limit rs spare prices

  root : Rooted N
  root = record { some = tree.some; before = tree.earlier }

  pub whole_choices : BranchForEachChild rs (rows_within held xs limit)
  whole_choices = rows_within_long o N root held xs rows

  -- where these cells are the first row's
  module _ (firsts : List (Option (Kept V Chosen))) (lie : (e : ℕ) → e ≤ limit → get_or firsts e None ≡ get_or xs (0 * (limit + 1) + e) None) where
    first_is : (a : Option (Kept V ℕ)) → as_reached held a ≡ best_entry o (limit + 1) (row_in held firsts) → as_reached held a ≡ best_entry o (suc limit) (row o N 0)
    first_is a e = e ∙ first_entry o N root held xs rows firsts lie

    pub none_chosen : as_reached held None ≡ best_entry o (limit + 1) (row_in held firsts) → None ≡ chosen o limit rs spare prices
    none_chosen e = ap (λ b. marked (length rs) (answered N (row o N) b)) (first_is None e)

    pub some_chosen : (x : Kept V ℕ) (ms : List ℕ) → as_reached held (Some x) ≡ best_entry o (limit + 1) (row_in held firsts) → length ms ≡ length rs
        → ((k : ℕ) → k < length rs → get_or ms k 0 ≡ handed_mark N (rows_within held xs limit) x.what k)
        → Some (record { cost = held x.cost; what = ms }) ≡ chosen o limit rs spare prices
    some_chosen x ms e long marks =
        ap (λ w. Some (record { cost = held x.cost; what = w })) same
        ∙ ap (λ b. marked (length rs) (answered N (row o N) b)) (first_is (Some x) e)
      where
        same : ms ≡ marks_of (layout_of N (row o N) (handed_down N (row o N) x.what (length rs))) (length rs)
        same = ext_get_or 0 ms (marks_of (layout_of N (row o N) (handed_down N (row o N) x.what (length rs))) (length rs))
            (long ∙ sym (marks_length (layout_of N (row o N) (handed_down N (row o N) x.what (length rs))) (length rs)))
            (λ k h. let inside : k < length rs = omega arith in
            marks k inside
            ∙ ap mark_of (layout_same N root (rows_within held xs limit) (row o N) (rows_within_row o N root held xs rows) x.what k inside)
            ∙ sym (marks_at (layout_of N (row o N) (handed_down N (row o N) x.what (length rs))) (length rs) k inside))

-- what the clauses of a search say, of these work cells and marks that were lent
pub record Searched {C V : Type 0} (o : Kind C) (limit : ℕ) (rs : List Record) (spare : List ℕ) (prices : List (Option C)) (cells cells_after : List V) (before after : List ℕ) (r : Result (Option C) SearchFault) : Type 0 where
  pub answer : r ≡ search_answer limit (length rs) (length cells) (length before) (chosen o limit rs spare prices)
  pub marks : after ≡ marks_after limit (length rs) (length cells) before (chosen o limit rs spare prices)
  pub alone : RestsOnNet o limit rs spare prices
  pub refused : told_by told r ≡ search_refusal limit (length rs) (length cells) (length before)
  pub kept : is_ok r ≡ false → cells_after ≡ cells
  pub best : TellsBest o limit rs spare prices r after

-- what a search comes to: refused for its work cells, refused for its marks, or made
module _ {C V : Type 0} (o : Kind C) (limit : ℕ) (rs : List Record) (spare : List ℕ) (prices : List (Option C)) (cells : List V) (before : List ℕ) (tree : HangsTogether rs) where
  abbrev needed : ℕ
  needed = cells_needed limit (length rs)

  abbrev a : Option (Priced C (List ℕ))
  a = chosen o limit rs spare prices

  pub short : length cells < needed → Searched o limit rs spare prices cells cells before before (Err (Cells needed))
  short few =
      let p : ltb (length cells) needed ≡ true = grind (arith, nat_tests) in
      record {
        answer = sym (ap (λ b. cond b (Err (Cells needed)) (cond (eqb (length before) (length rs)) (Ok (cost_of a)) (Err (Marks (length rs))))) p);
        marks = sym (ap (λ b. cond b before (cond (eqb (length before) (length rs)) (marks_of_chosen before a) before)) p);
        alone = λ spare' prices'. chosen_alone o limit rs spare spare' prices prices' tree;
        refused = sym (ap (λ b. cond b (17 ∷ needed ∷ []) (cond (eqb (length before) (length rs)) [] (19 ∷ length rs ∷ []))) p);
        kept = λ _. refl;
        best = tt;
      }

  module _ (enough : needed ≤ length cells) where
    p : ltb (length cells) needed ≡ false
    p = grind (arith, nat_tests)

    pub uneven : (length before ≡ length rs → ⊥) → Searched o limit rs spare prices cells cells before before (Err (Marks (length rs)))
    uneven other =
        let q : eqb (length before) (length rs) ≡ false = grind (arith, nat_tests) in
        record {
          answer = sym (ap (λ b. cond b (Err (Cells needed)) (cond (eqb (length before) (length rs)) (Ok (cost_of a)) (Err (Marks (length rs))))) p ∙ ap (λ b. cond b (Ok (cost_of a)) (Err (Marks (length rs)))) q);
          marks = sym (ap (λ b. cond b before (cond (eqb (length before) (length rs)) (marks_of_chosen before a) before)) p ∙ ap (λ b. cond b (marks_of_chosen before a) before) q);
          alone = λ spare' prices'. chosen_alone o limit rs spare spare' prices prices' tree;
          refused = sym (ap (λ b. cond b (17 ∷ needed ∷ []) (cond (eqb (length before) (length rs)) [] (19 ∷ length rs ∷ []))) p ∙ ap (λ b. cond b [] (19 ∷ length rs ∷ [])) q);
          kept = λ _. refl;
          best = tt;
        }

    pub made : (cells_after : List V) (cost : Option C) (after : List ℕ) → length before ≡ length rs → cost ≡ cost_of a → after ≡ marks_of_chosen before a → AnswersBest o limit rs spare prices a
        → Searched o limit rs spare prices cells cells_after before after (Ok cost)
    made cells_after cost after each its_cost its-marks best =
        let q : eqb (length before) (length rs) ≡ true = grind (arith, nat_tests) in
        record {
          answer = ap Ok its_cost ∙ sym (ap (λ b. cond b (Err (Cells needed)) (cond (eqb (length before) (length rs)) (Ok (cost_of a)) (Err (Marks (length rs))))) p ∙ ap (λ b. cond b (Ok (cost_of a)) (Err (Marks (length rs)))) q);
          marks = its-marks ∙ sym (ap (λ b. cond b before (cond (eqb (length before) (length rs)) (marks_of_chosen before a) before)) p ∙ ap (λ b. cond b (marks_of_chosen before a) before) q);
          alone = λ spare' prices'. chosen_alone o limit rs spare spare' prices prices' tree;
          refused = sym (ap (λ b. cond b (17 ∷ needed ∷ []) (cond (eqb (length before) (length rs)) [] (19 ∷ length rs ∷ []))) p ∙ ap (λ b. cond b [] (19 ∷ length rs ∷ [])) q);
          kept = λ e. absurd (no_test (sym e));
          best = subst (λ c. TellsBest o limit rs spare prices (Ok c) after) (sym its_cost) (subst (TellsBest o limit rs spare prices (Ok (cost_of a))) (sym its-marks) (its_best a best));
        }
      where
        its_best : (x : Option (Priced C (List ℕ))) → AnswersBest o limit rs spare prices x → TellsBest o limit rs spare prices (Ok (cost_of x)) (marks_of_chosen before x)
        its_best None h = h
        its_best (Some x) h = h
