-- A route's records can be searched, the cells suffice, and what is chosen is best.
use Rattle.std.proofs.Common.{◌≡◌, ◌+◌, length, Err, sym, ap, subst, add-mul, arith}
use Rattle.net.specs.Checked.{records_of}
use Rattle.best_plan.proofs.Legals.{chosen_best}
use Rattle.search.specs.declared.fault.SearchFault.TheVariants.{Cells, Marks}
use Rattle.search.specs.Answers.{cells_needed}
use Rattle.search.proofs.Nets.{hangs}
use Rattle.search.proofs.Outcome.{Searched, short, uneven, made}
use Rattle.search.proofs.searching.search.Goals as goal
use Rattle.search_theory.specs.Costs.{kind_of}

pub returns-then-cells-needed : goal.returns-then-cells-needed
returns-then-cells-needed g c =
    let m = g.P.Cost in
    let o = kind_of m in
    let rs = records_of c.args.route.now in
    let limit = c.args.limit.value in
    let cells = c.args.cells.now in
    let ms = c.args.marks.now in
    let is : c.needed-needed.result ≡ cells_needed limit (length rs) = c.needed-needed.ensures in
    let s : Searched o limit rs c.args.spare.now c.args.prices.now cells cells ms ms (Err (Cells c.needed-needed.result)) =
    subst (λ n. Searched o limit rs c.args.spare.now c.args.prices.now cells cells ms ms (Err (Cells n))) (sym is)
    (short o limit rs c.args.spare.now c.args.prices.now cells ms (hangs c.args.route.now) (omega (arith, is))) in
    record { answer = s.answer; told = s.refused; marks = s.marks; alone = s.alone; kept = s.kept; best = s.best }

pub returns-then-marks-records : goal.returns-then-marks-records
returns-then-marks-records g c =
    let m = g.P.Cost in
    let o = kind_of m in
    let rs = records_of c.args.route.now in
    let limit = c.args.limit.value in
    let cells = c.args.cells.now in
    let ms = c.args.marks.now in
    let is : length c.records-records.result.now ≡ length rs = ap length c.records-records.ensures in
    let s : Searched o limit rs c.args.spare.now c.args.prices.now cells cells ms ms (Err (Marks (length c.records-records.result.now))) =
    subst (λ n. Searched o limit rs c.args.spare.now c.args.prices.now cells cells ms ms (Err (Marks n))) (sym is)
    (uneven o limit rs c.args.spare.now c.args.prices.now cells ms (hangs c.args.route.now) (omega (arith, c.needed-needed.ensures)) (λ e. omega (arith, is, e))) in
    record { answer = s.answer; told = s.refused; marks = s.marks; alone = s.alone; kept = s.kept; best = s.best }

pub planned-requires : goal.planned-requires
planned-requires g c =
    let n = length (records_of c.args.route.now) in
    record {
      own = omega (arith, c.needed-needed.ensures, add-mul n 10 (c.args.limit.value + 1));
      room = omega (arith, ap length c.records-records.ensures);
    }

pub returns : goal.returns
returns g c =
    let m = g.P.Cost in
    let o = kind_of m in
    let route = c.args.route.now in
    let rs = records_of route in
    let limit = c.args.limit.value in
    let spare = c.args.spare.now in
    let prices = c.args.prices.now in
    let ms = c.args.marks.now in
    let s =
    made o limit rs spare prices c.args.cells.now ms (hangs route) (omega (arith, c.needed-needed.ensures)) c.planned.new.cells c.planned.result c.planned.new.marks (omega (arith, ap length c.records-records.ensures))
    c.planned.ensures.answer c.planned.ensures.marks (chosen_best g.met.P.Cost.lawful limit rs spare prices (hangs route)) in
    record { answer = s.answer; told = s.refused; marks = s.marks; alone = s.alone; kept = s.kept; best = s.best }
