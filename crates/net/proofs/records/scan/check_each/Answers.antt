use Rattle.std.proofs.Common.{◌≡◌, ◌<◌, ◌+◌, true, length, None, Some, sym, refl, ◌∙◌, rules, subst, ℕ, set}
use Rattle.net.specs.Lowest.{fault_of}
use Rattle.net.specs.Marks.{TilesMarked}
use Rattle.net.specs.Routes.{tile_of, record_fault}
use Rattle.net.proofs.Faults.{tile_below, no_tile_marked, record_on_grid, tile_marked}
use Rattle.net.proofs.Firsts.{lowest_found, lowest_more}
use Rattle.net.proofs.records.scan.check_each.Goals as goal

pub loop-i-init : goal.loop-i-init
loop-i-init c = (no_tile_marked c.args.records.now, refl)

pub returns-in_err-check_record : goal.returns-in_err-check_record
returns-in_err-check_record c =
    let fault = c.in_err-check_record.field-0.0 in
    let same : fault_of c.from_residual.result ≡ Some fault = search rules in
    same ∙ sym (lowest_found (record_fault c.args.grid c.args.records.now) c.loop-i.i (length c.args.records.now) fault c.loop-i.invariant.1 (sym c.in_err-check_record.ensures) c.loop-i-test.true)

pub loop-i-preserved : goal.loop-i-preserved
loop-i-preserved c =
    let rs = c.args.records.now in
    let i = c.loop-i.i in
    let clear : record_fault c.args.grid rs i ≡ None = sym c.in_ok-check_record.ensures in
    let small : tile_of rs i < 4096 = tile_below c.args.grid (tile_of rs i) (record_on_grid c.args.grid rs i clear) in (
      subst (λ (t : ℕ). TilesMarked rs (i + 1) (set c.loop-i.seen t true)) (sym c.from.ensures) (tile_marked rs i c.loop-i.seen small c.loop-i.invariant.0),
      lowest_more (record_fault c.args.grid rs) i c.loop-i.invariant.1 clear,
    )
