use Rattle.std.proofs.Common.{length, refl, ap, rules}
use Rattle.search_speed.proofs.Room.{found_in_crowd}
use Rattle.search_speed.proofs.searches.found.Goals as goal

pub returns : goal.returns
returns c =
    let is = found_in_crowd c.args.limit.value c.args.route.now (length c.records-count.result.now) _ c.spare_sites.result c.prices.result c.over_and_over.result c.args.limit.fits (ap length c.records-count.ensures) refl c.spare_sites.ensures c.prices.ensures c.over_and_over.ensures.answer in
    search rules
