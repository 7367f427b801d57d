-- The marks that the search chooses are a cheapest legal plan, or no plan is legal.
use Rattle.std.proofs.Common.{◌≡◌, ℕ, zero, suc, ◌+◌, ◌<◌, ◌≤◌, Bool, true, false, cond, eqb, ltb, List, ◌++◌, length, Some, None, Option, sym, refl, ap, ◌∙◌, subst, arith}
use Rattle.std.specs.List.{AllByRecursion}
use Rattle.std.proofs.lemmas.Bool.Decides.{nat_tests}
use Rattle.net.specs.declared.records.record.Record.{Record}
use Rattle.net.specs.Routes.{parent_of}
use Rattle.length_rule.specs.Marks.{Plan, has_head, has_trunk, head_at, trunk_at, mark_at}
use Rattle.length_rule.specs.Lengths.{hanging, entering}
use Rattle.length_rule.proofs.Local.{needs_local}
use Rattle.length_rule.proofs.Unique.{keeps}
use Rattle.length_rule.specs.declared.Gate.{Gate}
use Rattle.length_rule.specs.Gates.{gate, put_if, need}
use Rattle.length_rule.specs.Legal.{spare_at, Legal}
use Rattle.length_rule.specs.Costs.{price_at, kth_price, tile_cost, cost_below, plan_cost}
use Rattle.search_theory.specs.Costs.{Kind, Lawful, total, below}
use Rattle.search_theory.specs.Entries.{Priced}
use Rattle.search_theory.specs.Layouts.{Problem, Rooted, Layout, over, Lengths, needs, Legal as LegalLayout, layout_cost}
use Rattle.search_theory.specs.Search.{found, Right}
use Rattle.search_theory.proofs.Answer.{found_right}
use Rattle.search_theory.proofs.Costs.{no_test}
use Rattle.search_theory.proofs.Lengths.{one_entering, one_hanging, legal_same, cost_same}
use Rattle.best_plan.specs.Chosen.{offered, problem, marks_of, marked}
use Rattle.best_plan.specs.Cheapest.{AnswersBest, HangsTogether, PlansStand}
use Rattle.best_plan.proofs.Marks.{laid_out, mark_small, mark_none, marks_length, marks_at, marks_laid_out}
use Rattle.best_plan.proofs.Same.{over_same}

-- of gates that stand if a test holds
all_if : (P : Gate → Type 0) (b : Bool) (a : Gate) (gs : List Gate) → (b ≡ true → P a) → AllByRecursion P gs → AllByRecursion P (put_if b a ++ gs)
all_if P true a gs h r = (h refl, r)
all_if P false a gs h r = r

all_last : (P : Gate → Type 0) (b : Bool) (a : Gate) → (b ≡ true → P a) → AllByRecursion P (put_if b a)
all_last P true a h = (h refl, tt)
all_last P false a h = tt

if_all : (P : Gate → Type 0) (b : Bool) (a : Gate) (gs : List Gate) → AllByRecursion P (put_if b a ++ gs) → (b ≡ true → P a) × AllByRecursion P gs
if_all P true a gs r = (λ _. r.0, r.1)
if_all P false a gs r = (λ e. absurd (no_test e), r)

last_all : (P : Gate → Type 0) (b : Bool) (a : Gate) → AllByRecursion P (put_if b a) → b ≡ true → P a
last_all P true a r e = r.0
last_all P false a r e = absurd (no_test e)

module _ {C : Type 0} {o : Kind C} (l : Lawful o) (limit : ℕ) (rs : List Record) (spare : List ℕ) (prices : List (Option C)) (tree : HangsTogether rs) where
  abbrev N : Problem C
  N = problem o limit rs spare prices

  abbrev Within : Gate → Type 0
  Within g = g.drives ≤ limit

  rooted : Rooted N
  rooted = record { some = tree.some; before = tree.earlier }

  hanging_is : (ms : List ℕ) (i : ℕ) → i < length rs → hanging rs ms i ≡ over N i (λ k. cond (head_at ms k) 0 (1 + entering rs ms k))
  hanging_is ms i h = omega (arith, (keeps rs tree.earlier ms).hangs i h, over_same rs i (λ k. cond (head_at ms k) 0 (1 + entering rs ms k)))

  need_is : (ms : List ℕ) → mark_at ms 0 ≡ 0 → (i : ℕ) → i < length rs → need rs ms i ≡ needs N (laid_out ms) i
  need_is ms driver i h = needs_local rs ms driver i h ∙ ap (λ s. cond (trunk_at ms i) 1 0 + s) (over_same rs i (λ k. cond (head_at ms k) 1 0))

  abbrev lengths : (ms : List ℕ) → Lengths N (laid_out ms)
  lengths ms = record { hanging = hanging rs ms; entering = entering rs ms; hangs = hanging_is ms; enters = λ i h. refl }

  -- a legal plan is a legal layout
  to_layout : (ms : List ℕ) → Legal limit rs spare ms → LegalLayout N (laid_out ms)
  to_layout ms x = record {
    unmarked_head = ap has_head x.plan.driver;
    unmarked_trunk = ap has_trunk x.plan.driver;
    lengths = lengths ms;
    driver = (if_all Within (eqb 0 0) (gate (hanging rs ms 0) 0) (buffers 0) (x.driven 0 tree.some)).0 refl;
    trunks = λ i h t. last_all Within (trunk_at ms i) (gate (hanging rs ms i) i) (parts i h).1 t;
    heads = λ k h t. (parts k h).0 t;
    sites = λ i h. subst (λ n. n ≤ spare_at spare i) (need_is ms x.plan.driver i h) (x.fits i h);
  }
    where
      buffers : ℕ → List Gate
      buffers = λ i. put_if (head_at ms i) (gate (1 + entering rs ms i) (parent_of rs i)) ++ put_if (trunk_at ms i) (gate (hanging rs ms i) i)

      parts : (i : ℕ) → i < length rs → (head_at ms i ≡ true → 1 + entering rs ms i ≤ limit) × AllByRecursion Within (put_if (trunk_at ms i) (gate (hanging rs ms i) i))
      parts i h =
          if_all Within (head_at ms i) (gate (1 + entering rs ms i) (parent_of rs i)) (put_if (trunk_at ms i) (gate (hanging rs ms i) i))
          (if_all Within (eqb i 0) (gate (hanging rs ms i) i) (buffers i) (x.driven i h)).1

  -- marks whose layout is legal are a legal plan
  from_layout : (ms : List ℕ) → Plan rs ms → LegalLayout N (laid_out ms) → Legal limit rs spare ms
  from_layout ms form x = record {
    plan = form;
    driven = λ i h.
        all_if Within (eqb i 0) (gate (hanging rs ms i) i) _ (λ e. driver i h e)
        (all_if Within (head_at ms i) (gate (1 + entering rs ms i) (parent_of rs i)) _ (λ e. subst (λ n. 1 + n ≤ limit) (entering_is i h) (x.heads i h e))
        (all_last Within (trunk_at ms i) (gate (hanging rs ms i) i) (λ e. subst (λ n. n ≤ limit) (hanging_same i h) (x.trunks i h e))));
    fits = λ i h. subst (λ n. n ≤ spare_at spare i) (sym (need_is ms form.driver i h)) (x.sites i h);
  }
    where
      entering_is : (i : ℕ) → i < length rs → x.lengths.entering i ≡ entering rs ms i
      entering_is = one_entering N rooted (laid_out ms) x.lengths (lengths ms)

      hanging_same : (i : ℕ) → i < length rs → x.lengths.hanging i ≡ hanging rs ms i
      hanging_same = one_hanging N rooted (laid_out ms) x.lengths (lengths ms)

      driver : (i : ℕ) → i < length rs → eqb i 0 ≡ true → hanging rs ms i ≤ limit
      driver i h e =
          let z : i ≡ 0 = grind (arith, nat_tests) in
          subst (λ j. hanging rs ms j ≤ limit) (sym z) (subst (λ n. n ≤ limit) (hanging_same 0 tree.some) x.driver)

  -- so many sites of one tile, with the prices that the search is offered
  tile_same : (price : Option C) (k : ℕ) → tile_cost o.nothing o.plus price k ≡ total o (kth_price o.nothing o.plus price) (below k)
  tile_same price zero = refl
  tile_same price (suc k) = ap (o.plus (kth_price o.nothing o.plus price k)) (tile_same price k)

  -- where no more is needed than is spare, what is offered is the price
  offered_same : (i n : ℕ) → n ≤ spare_at spare i → tile_cost o.nothing o.plus (price_at prices i) n ≡ tile_cost o.nothing o.plus (offered spare prices i) n
  offered_same i zero h = refl
  offered_same i (suc n) h =
      let z : ltb 0 (spare_at spare i) ≡ true = grind (arith, nat_tests) in
      ap (λ b. tile_cost o.nothing o.plus (cond b (price_at prices i) None) (suc n)) (sym z)

  -- a legal plan costs what its layout costs
  plan_layout : (ms : List ℕ) → Legal limit rs spare ms → plan_cost o.nothing o.plus rs prices ms ≡ layout_cost o N (laid_out ms)
  plan_layout ms x = go (length rs) (omega arith)
    where
      at_tile : (i : ℕ) → i < length rs → tile_cost o.nothing o.plus (price_at prices i) (need rs ms i) ≡ total o (N.price i) (below (needs N (laid_out ms) i))
      at_tile i h =
          offered_same i (need rs ms i) (x.fits i h)
          ∙ ap (tile_cost o.nothing o.plus (offered spare prices i)) (need_is ms x.plan.driver i h)
          ∙ tile_same (offered spare prices i) (needs N (laid_out ms) i)

      go : (n : ℕ) → n ≤ length rs → cost_below o.nothing o.plus rs prices ms n ≡ total o (λ i. total o (N.price i) (below (needs N (laid_out ms) i))) (below n)
      go zero h = refl
      go (suc n) h =
          ap (λ c. o.plus c (cost_below o.nothing o.plus rs prices ms n)) (at_tile n (omega arith))
          ∙ ap (o.plus (total o (N.price n) (below (needs N (laid_out ms) n)))) (go n (omega arith))

  module _ (m : Layout) (x : LegalLayout N m) where
    abbrev ms : List ℕ
    ms = marks_of m (length rs)

    form : Plan rs ms
    form = record {
      each = marks_length m (length rs);
      known = λ i h. subst (λ n. n ≤ 3) (sym (marks_at m (length rs) i h)) (mark_small (m i));
      driver = marks_at m (length rs) 0 tree.some ∙ mark_none (m 0) x.unmarked_head x.unmarked_trunk;
    }

    laid_legal : Legal limit rs spare ms
    laid_legal = from_layout ms form (legal_same N rooted m (laid_out ms) (marks_laid_out m (length rs)) x)

    laid_cost : layout_cost o N m ≡ plan_cost o.nothing o.plus rs prices ms
    laid_cost = cost_same N rooted m (laid_out ms) (marks_laid_out m (length rs)) l ∙ sym (plan_layout ms laid_legal)

  answered_best : (a : Option (Priced C Layout)) → Right o N a → AnswersBest o limit rs spare prices (marked (length rs) a)
  answered_best None h = λ ms legal. h (laid_out ms) (to_layout ms legal)
  answered_best (Some a) h = record {
    legal = laid_legal a.what h.legal;
    its_cost = h.cost ∙ laid_cost a.what h.legal;
    least = λ other legal. ap (o.at_most a.cost) (plan_layout other legal) ∙ h.least (laid_out other) (to_layout other legal);
  }

pub chosen_best : {C : Type 0} {o : Kind C} → Lawful o → PlansStand o
chosen_best {o = o} l limit rs spare prices tree =
    answered_best l limit rs spare prices tree (found o (problem o limit rs spare prices)) (found_right l (problem o limit rs spare prices) (record { some = tree.some; before = tree.earlier }))
