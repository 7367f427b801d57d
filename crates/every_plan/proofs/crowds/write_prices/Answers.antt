use Rattle.std.proofs.Common.{◌≡◌, ℕ, ◌+◌, ◌<◌, ◌++◌, ◌∷◌, [], List, map, length, take, set, sym, ◌∙◌, arith}
use Rattle.std.proofs.lemmas.List.{take_more_set}
use Rattle.std.proofs.lemmas.List.FromFn.{map-range_with_len_more}
use Rattle.std.specs.List.{range_with_len}
use Rattle.every_plan.specs.Crowds.{price_at}
use Rattle.every_plan.proofs.crowds.write_prices.Goals as goal

one_written : {X : Type 0} (f : ℕ → X) (xs : List X) (k : ℕ) (x : X) → k < length xs → x ≡ f k → take k xs ≡ map f (range_with_len 0 k) → take (k + 1) (set xs k x) ≡ map f (range_with_len 0 (k + 1))
one_written f xs k x within is so =
    take_more_set xs k x (omega arith) ∙ ((λ i. so i ++ is i ∷ []) ∙ sym (map-range_with_len_more f 0 k k (omega arith)))

pub loop-index-preserved : goal.loop-index-preserved
loop-index-preserved g c =
    one_written (price_at g.P.Cost g.P.Pricing.priced c.args.crowd.now) c.loop-index.prices c.loop-index.index c.price_at.result (omega arith) c.price_at.ensures c.loop-index.invariant
