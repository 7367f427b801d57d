-- Each relation decides its answer, and what a call does at a cost type it does by whatever pricing.
use Rattle.std.proofs.Common.{◌≡◌, ℕ, ◌≤◌, true, List, Some, None, Ok, Err, Option, Result, sym, refl, ap, ◌∙◌, subst, inl, inr}
use mathlib.Core.HLevel.{is_prop→PathP}
use native.Mathlib.Bridge.{le_prop}
use Rattle.grid.specs.declared.shape.Grid.{Grid}
use Rattle.grid.specs.declared.shape.GridFault.{GridFault}
use Rattle.grid.specs.Making.{made}
use Rattle.stock.specs.Meaning.{Meaning}
use Rattle.net.specs.Checked.{refused_or}
use Rattle.net.specs.Lowest.{fault_of}
use Rattle.floor_types.specs.declared.places.NetPlace.{NetPlace}
use Rattle.floor_types.specs.declared.places.RecordPlace.{RecordPlace}
use Rattle.floor_types.specs.declared.faults.OpeningFault.{OpeningFault}
use Rattle.floor_types.specs.declared.faults.OpeningFault.TheVariants as Opening
use Rattle.floor_types.specs.declared.faults.PlanningFault.{PlanningFault}
use Rattle.runs.specs.Worlds.{World, with_net, with_plan, without_plan, marks_of}
use Rattle.runs.specs.Plans.{Prices, Choice, chosen_for, cost_for, LegalFor}
use Rattle.runs.specs.Refusals.{opening_fault, planning_fault, filing_fault}
use Rattle.runs.specs.Calls.{left_by, opened_world, Opens, PlanRefused, Plans, PlansBy, copied}
use Rattle.runs.specs.Facts.{AnswersDecided, CostsDecided}

some_none : {X : Type 0} (o : Option X) (x : X) → o ≡ None → o ≡ Some x → ⊥
some_none o x p q = cc

same_some : {X : Type 0} (o : Option X) (x y : X) → o ≡ Some x → o ≡ Some y → x ≡ y
same_some o x y p q = cc

ok_err : {X E : Type 0} (r : Result X E) (x : X) (e : E) → r ≡ Ok x → r ≡ Err e → ⊥
ok_err r x e p q = cc

-- a grid is nothing but its sides
same_grid : (g g' : Grid) → g.rows ≡ g'.rows → g.columns ≡ g'.columns → g ≡ g'
same_grid g g' r c = λ i. record {
  rows = r i;
  columns = c i;
  some_rows = is_prop→PathP (λ k. 1 ≤ r k) (λ k. le_prop) g.some_rows g'.some_rows i;
  rows_fit = is_prop→PathP (λ k. r k ≤ 64) (λ k. le_prop) g.rows_fit g'.rows_fit i;
  some_columns = is_prop→PathP (λ k. 1 ≤ c k) (λ k. le_prop) g.some_columns g'.some_columns i;
  columns_fit = is_prop→PathP (λ k. c k ≤ 64) (λ k. le_prop) g.columns_fit g'.columns_fit i;
}

same_sides : (r : Result (ℕ × ℕ) GridFault) (g g' : Grid) → r ≡ Ok (g.rows, g.columns) → r ≡ Ok (g'.rows, g'.columns) → g ≡ g'
same_sides r g g' p q =
    let e : (g.rows, g.columns) ≡ (g'.rows, g'.columns) = cc in
    same_grid g g' (ap (λ (x : ℕ × ℕ). x.0) e) (ap (λ (x : ℕ × ℕ). x.1) e)

module _ (rows columns : ℕ) (sites wires : Meaning) (nets : List NetPlace) (records : List RecordPlace) where
  abbrev answer_on : Grid → Result World OpeningFault
  answer_on g = refused_or (opened_world g sites wires nets records) (opening_fault g sites wires nets records)

  opening_one : (r r' : Result World OpeningFault) → Opens rows columns sites wires nets records r → Opens rows columns sites wires nets records r' → r ≡ r'
  opening_one r r' (inl a) (inl b) =
      let e : a.0 ≡ b.0 = same_err (made rows columns) a.0 b.0 a.1 b.1 in
      a.2 ∙ (ap (λ (f : GridFault). Err (Opening.Grid f)) e ∙ sym b.2)
    where
      same_err : (m : Result (ℕ × ℕ) GridFault) (f f' : GridFault) → m ≡ Err f → m ≡ Err f' → f ≡ f'
      same_err m f f' p q = cc
  opening_one r r' (inl a) (inr b) = absurd (ok_err (made rows columns) (b.0.rows, b.0.columns) a.0 b.1 a.1)
  opening_one r r' (inr a) (inl b) = absurd (ok_err (made rows columns) (a.0.rows, a.0.columns) b.0 a.1 b.1)
  opening_one r r' (inr a) (inr b) = a.2 ∙ (ap answer_on (same_sides (made rows columns) a.0 b.0 a.1 b.1) ∙ sym b.2)

refused_one : (w : World) (k cells : ℕ) (f f' : PlanningFault) → PlanRefused w k cells f → PlanRefused w k cells f' → f ≡ f'
refused_one w k cells f f' (inl a) (inl b) = same_some (planning_fault w k cells) f f' a b
refused_one w k cells f f' (inl a) (inr b) = absurd (some_none (planning_fault w k cells) f b.0 a)
refused_one w k cells f f' (inr a) (inl b) = absurd (some_none (planning_fault w k cells) f' a.0 b)
refused_one w k cells f f' (inr a) (inr b) = a.1 ∙ sym b.1

-- no refusal where a legal plan could be kept
not_both : (w : World) (k cells : ℕ) (f : PlanningFault) (ms : List ℕ) → planning_fault w k cells ≡ None → LegalFor w k ms → PlanRefused w k cells f → ⊥
not_both w k cells f ms e l (inl a) = some_none (planning_fault w k cells) f e a
not_both w k cells f ms e l (inr a) = a.2 ms l

pub planning_one : (w : World) (k cells : ℕ) (f f' : Option PlanningFault) (u u' : World) → Plans w k cells f u → Plans w k cells f' u' → f ≡ f'
planning_one w k cells None None u u' p q = refl
planning_one w k cells None (Some f) u u' p q = absurd (not_both w k cells f p.1.0 p.0 p.1.1 q.0)
planning_one w k cells (Some f) None u u' p q = absurd (not_both w k cells f q.1.0 q.0 q.1.1 p.0)
planning_one w k cells (Some f) (Some f') u u' p q = ap Some (refused_one w k cells f f' p.0 q.0)

-- what an answer decides is decided with it
carry : {A : Type 0} {B : Type 0} (a a' : A) (b b' : B) (g : A → B) → a ≡ a' → b ≡ g a → b' ≡ g a' → (a ≡ a') × (b ≡ b')
carry a a' b b' g e p q = (e, p ∙ (ap g e ∙ sym q))

pub answers_decided : AnswersDecided
answers_decided = record {
  opening = opening_one;
  entering = λ w limit rs r r' u u' p q. carry r r' u u' (λ x. left_by (fault_of x) w (with_net w limit rs)) (p.answer ∙ sym q.answer) p.after q.after;
  sealing = λ w u u' p q. p ∙ sym q;
  filing = λ w k ms f f' u u' p q. carry f f' u u' (λ x. left_by x w (with_plan w k ms)) (p.answer ∙ sym q.answer) p.after q.after;
  withdrawing = λ w k r r' u u' p q. carry r r' u u' (λ x. left_by (fault_of x) w (without_plan w k)) (p.answer ∙ sym q.answer) p.after q.after;
  asking = λ w k list r r' l l' p q. carry r r' l l' (λ x. copied (fault_of x) list (marks_of w k)) (p.answer ∙ sym q.answer) p.after q.after;
}

refused_is : {A F : Type 0} (a : A) (o : Option F) → fault_of (refused_or a o) ≡ o
refused_is a None = refl
refused_is a (Some f) = refl

module _ {C : Type 0} (o : Prices C) where
  pub mixes : (choose : Choice C) (w : World) (k cells : ℕ) (r : Result C PlanningFault) (u : World) → PlansBy o choose w k cells r u → Plans w k cells (fault_of r) u
  mixes choose w k cells (Ok cost) u p = (p.0, (p.1.0, p.1.2.legal, p.1.3))
  mixes choose w k cells (Err f) u p = p

  one : (choose : Choice C) (w : World) (k cells : ℕ) (r r' : Result C PlanningFault) (u u' : World) → PlansBy o choose w k cells r u → PlansBy o choose w k cells r' u' → (r ≡ r') × (u ≡ u')
  one choose w k cells (Ok cost) (Ok cost') u u' p q =
      let e : p.1.0 ≡ q.1.0 = same_some (chosen_for choose o w k) p.1.0 q.1.0 p.1.1 q.1.1 in
      (ap Ok (p.1.2.its_cost ∙ (ap (λ (ms : List ℕ). cost_for o w k ms) e ∙ sym q.1.2.its_cost)), p.1.3 ∙ (ap (λ (ms : List ℕ). with_plan w k ms) e ∙ sym q.1.3))
  one choose w k cells (Ok cost) (Err f) u u' p q = absurd (not_both w k cells f p.1.0 p.0 p.1.2.legal q.0)
  one choose w k cells (Err f) (Ok cost) u u' p q = absurd (not_both w k cells f q.1.0 q.0 q.1.2.legal p.0)
  one choose w k cells (Err f) (Err f') u u' p q = (ap Err (refused_one w k cells f f' p.0 q.0), p.1 ∙ sym q.1)

  pub costs_decided : CostsDecided o
  costs_decided = record {
    ties = λ choose choose' w k cells cost cost' u u' p q. (
      subst (λ (x : C). o.kind.at_most cost x ≡ true) (sym q.1.2.its_cost) (p.1.2.least q.1.0 q.1.2.legal),
      subst (λ (x : C). o.kind.at_most cost' x ≡ true) (sym p.1.2.its_cost) (q.1.2.least p.1.0 p.1.2.legal),
    );
    planning = one;
    filing = λ w k ms r r' u u' p q. carry r r' u u' (λ x. left_by (fault_of x) w (with_plan w k ms)) (p.answer ∙ sym q.answer) p.after q.after;
    filing_mixes = λ w k ms r u p. record { answer = ap fault_of p.answer ∙ refused_is _ (filing_fault w k ms); after = p.after };
  }
