use Rattle.std.proofs.Common.{◌≡◌, length, ◌∙◌, arith}
use Rattle.net.specs.Checked.{records_of}
use Rattle.best_plan.specs.Chosen.{chosen}
use Rattle.search_speed.specs.Searches.{count_then_congestion}
use Rattle.search_speed.proofs.Repeated.{same_again}
use Rattle.search_speed.proofs.searches.over_and_over.Goals as goal

pub loop-preserved : goal.loop-preserved
loop-preserved c =
    let first = c.search-answer in
    let again = c.search-answer-in-loop in
    let cells : length c.loop.cells ≡ length c.args.cells.now = omega arith in
    let marks : length first.new.marks ≡ length c.args.marks.now = omega arith in
    same_again c.args.limit.value (length (records_of c.args.route.now)) (length c.args.cells.now) (length c.loop.cells) c.args.marks.now first.new.marks c.loop.marks again.new.marks
    (chosen count_then_congestion c.args.limit.value (records_of c.args.route.now) c.args.spare.now c.args.prices.now)
    first.result again.result cells marks c.loop.invariant.1 first.ensures.answer first.ensures.marks again.ensures.answer again.ensures.marks

pub returns : goal.returns
returns c = record {
  answer = c.loop.invariant.0 ∙ c.search-answer.ensures.answer;
  marks = c.loop.invariant.1 ∙ c.search-answer.ensures.marks;
}
