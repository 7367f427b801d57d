-- The sum from the first site on is that of the rule, which counts from the last.
use Rattle.std.proofs.Common.{◌≡◌, ℕ, zero, suc, ◌+◌, Option, fold, sym, ap, ◌∙◌, add-one, add-zero, zero-add, arith, rules}
use Rattle.std.specs.List.{range_with_len}
use Rattle.std.proofs.lemmas.Iterator.{YieldsList-from_range}
use Rattle.std.proofs.lemmas.Iterator.Consumers.{fold_from_yields_List}
use Rattle.length_rule.specs.Costs.{kth_price, tile_cost}
use Rattle.plan_cost.proofs.tile_cost.Goals as goal

module _ {C : Type 0} (nothing : C) (plus : C → C → C) (price : Option C) where
  folded : (a n : ℕ) → fold (λ sum k. plus (kth_price nothing plus price k) sum) (tile_cost nothing plus price a) (range_with_len a n) ≡ tile_cost nothing plus price (a + n)
  folded a zero = sym (ap (tile_cost nothing plus price) (add-zero a))
  folded a (suc n) =
      let next : suc a ≡ a + 1 = sym (add-one a) in
      let all : a + 1 + n ≡ a + suc n = omega arith in
      ap (λ b. fold (λ sum k. plus (kth_price nothing plus price k) sum) (tile_cost nothing plus price b) (range_with_len (a + 1) n)) next
      ∙ folded (a + 1) n ∙ ap (tile_cost nothing plus price) all

pub returns : goal.returns
returns g c =
    let m = g.P.Cost in
    let n = c.args.sites in
    let price = c.args.price in
    fold_from_yields_List _ (λ sum k. m.plus (kth_price m.nothing m.plus price k) sum) c.nothing.result c.fold.result c.fold.ensures.ran
    (YieldsList-from_range 0 n n (cc) (omega arith))
    (λ a x b q k. search rules)
    ∙ (ap (λ a. fold (λ sum k. m.plus (kth_price m.nothing m.plus price k) sum) a (range_with_len 0 n)) c.nothing.ensures
    ∙ folded m.nothing m.plus price 0 n ∙ ap (tile_cost m.nothing m.plus price) (zero-add n))
