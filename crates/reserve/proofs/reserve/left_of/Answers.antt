use Rattle.std.proofs.Common.{◌≤◌, mul-le-mul_left, arith}
use Rattle.reserve.proofs.reserve.left_of.Goals as goal

pub overflow_sub-result : goal.overflow_sub-result
overflow_sub-result c =
    let h : c.from.result ≤ 100 = omega (arith, c.args.percent.whole) in omega (arith, mul-le-mul_left c.from-capacity.result h)
