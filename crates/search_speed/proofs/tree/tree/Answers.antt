use Rattle.std.proofs.Common.{◌≡◌, ℕ, List, ◌++◌, take, drop, replicate, lit≤, refl, ap, ◌∙◌, subst, add-one, arith, rules}
use Rattle.net.specs.declared.records.record.Record.{Record}
use Rattle.search_speed.specs.Tree.{next_dice, driver, standing_after, grown}
use Rattle.search_speed.proofs.Growing.{Grows, grows, written_over}
use Rattle.search_speed.proofs.tree.tree.Goals as goal

pub loop-throw-init : goal.loop-throw-init
unfolding grown
loop-throw-init c = (refl, record { same = search rules; few = lit≤ tt; all = search rules; behind = search rules })

pub loop-throw-preserved : goal.loop-throw-preserved
unfolding grown
loop-throw-preserved c =
    let g = c.args.grid in
    let t = grown g c.loop-throw._throw in
    let dice : c.next_dice-dice.result ≡ next_dice t.dice = c.next_dice-dice.ensures ∙ ap next_dice c.loop-throw.invariant.0 in
    let now = c.loop-throw.invariant.1 in
    let next = grows g t.records t.count (next_dice t.dice) now.few now.all now.behind in
    rw (add-one c.loop-throw._throw) (
      dice,
      record {
        same = c.grow.ensures ∙ (ap (λ (rs : List Record). standing_after g rs c.next_dice-dice.result) now.same ∙ (ap (λ (d : ℕ). standing_after g (take t.count t.records) d) dice ∙ next.same));
        few = next.few;
        all = next.all;
        behind = next.behind;
      },
    )

pub returns-clause-table : goal.returns-clause-table
returns-clause-table c =
    let g = c.args.grid in
    let all : c.loop-throw._throw ≡ 8192 = omega arith in
    let w : Grows (grown g 8192).records (grown g 8192).count c.loop-throw.records.items = subst (λ (n : ℕ). Grows (grown g n).records (grown g n).count c.loop-throw.records.items) all c.loop-throw.invariant.1 in
    (λ i. (c.copy_from_slice.ensures.after ∙ c.as_slice.ensures.value) i ++ drop (c.len.ensures.value i) (replicate 256 driver))
    ∙ written_over (grown g 8192).records (grown g 8192).count c.loop-throw.records.items w
