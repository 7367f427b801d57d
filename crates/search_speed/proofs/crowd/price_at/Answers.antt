use Rattle.std.proofs.Common.{◌≡◌, ℕ, eqb, Some, None, sym, ap, ◌∙◌, ne_eqb}
use Rattle.std.proofs.lemmas.Bool.{cond-false}
use Rattle.laws.proofs.Bounded.{amount_reads_back}
use Rattle.cost.specs.Pairs.{pair}
use Rattle.count.specs.Counts.{count, counts}
use Rattle.congestion.specs.Congestions.{congestion, congestions}
use Rattle.search_speed.specs.Crowd.{Costs, crowd_spare, crowd_capacity, crowd_used, site_price}
use Rattle.search_speed.proofs.crowd.price_at.Goals as goal

-- a cost is told by its two numbers
told : (p : Costs) (m n : ℕ) → p.first.value ≡ m → p.second.value ≡ n → p ≡ pair (count m) (congestion n)
told p m n e f =
    let whole : pair (count p.first.value) (congestion p.second.value) ≡ p =
    λ i. pair (amount_reads_back counts p.first i) (amount_reads_back congestions p.second i) in
    sym whole ∙ (ap (λ (k : ℕ). pair (count k) (congestion p.second.value)) e ∙ ap (λ (k : ℕ). pair (count m) (congestion k)) f)

pub returns : goal.returns
returns c =
    let k = c.args.k in
    let price = c.price.result in
    let numbers = c.price.ensures in
    let here : price ≡ site_price (crowd_capacity k) (crowd_used k) =
    told price _ _ (ap (λ (x : ℕ × ℕ). x.0) numbers) (ap (λ (x : ℕ × ℕ). x.1) numbers) in
    ap Some here ∙ sym (cond-false (eqb (crowd_spare k) 0) None (Some (site_price (crowd_capacity k) (crowd_used k))) (ne_eqb (crowd_spare k) 0 c.if-spare-eq0.false))
