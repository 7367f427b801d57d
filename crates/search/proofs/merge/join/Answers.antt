use Rattle.std.proofs.Common.{◌<◌, subst, arith, rules}
use Rattle.search_cells.specs.Cells.{no_leg, branch_of, HasRoom}
use Rattle.search_cells.proofs.Pushing.{pushed}
use Rattle.search.proofs.merge.join.Goals as goal

pub returns : goal.returns
returns g c =
    let room : c.in_ok-x.x.what.legs.count < 4 = subst HasRoom c.in_ok-x.was c.requires in
    let more = pushed branch_of no_leg c.in_ok-x.x.what.legs c.push.result (record { head = c.args.head; entering = c.in_ok-y.y.what }) (omega (arith, c.push.ensures.four)) (c.push.ensures.counted room) (c.push.ensures.kept room) in
    search rules
