-- The result is the quotient, which is exact for each limit that a net can have.
use Rattle.std.proofs.Common.{◌≡◌, ℕ, ◌/◌, sym, subst, arith}
use Rattle.std.proofs.lemmas.Grind.{common_steps}
use Rattle.net.specs.Largest.{largest_limit}
use Rattle.shares.specs.Shares.{Exact, share_unit}
use Rattle.shares.proofs.Bound.{bounded}
use Rattle.shares.proofs.Evenly.{exact}
use Rattle.shares.proofs.share_of.Goals as goal

pub returns-clause-exact : goal.returns-clause-exact
returns-clause-exact c =
    let quotient : c.unwrap_or.result ≡ share_unit / c.args.limit = grind (arith, common_steps) in
    subst (λ (n : ℕ). Exact largest_limit share_unit c.args.limit n) (sym quotient) (exact c.args.limit)

pub returns-clause-bounded : goal.returns-clause-bounded
returns-clause-bounded c = bounded share_unit
