use Rattle.std.proofs.Common.{◌≡◌, ℕ, ◌<◌, true, false, get_or, sym, ap, ◌∙◌, arith}
use Rattle.grid.specs.Tiles.{tile_count}
use Rattle.std.proofs.lemmas.Bool.{lt-ltb}
use Rattle.net.specs.Routes.{tile_of, parent_of, parent_fits}
use Rattle.net.proofs.Faults.{tile_below, fourth_test}
use Rattle.net.proofs.records.scan.check_record.Goals as goal

pub returns : goal.returns
returns c =
    let rs = c.args.records.now in
    let i = c.args.index in
    let tile = tile_of rs i in
    let on_grid : tile < tile_count c.args.grid = omega (arith, c.tile_count.ensures) in
    let fits : parent_fits (parent_of rs i) i ≡ true = ap (λ (p : ℕ). parent_fits p i) (sym c.from.ensures) ∙ sym c.if-not-parent_fits.ensures in
    let seen : get_or c.args.seen.now tile false ≡ false = ap (λ (t : ℕ). get_or c.args.seen.now t false) (sym c.from-tile.ensures) ∙ c.if-seen-tile.false in
    fourth_test c.args.grid rs i false (lt-ltb tile (tile_count c.args.grid) on_grid) fits (sym c.if-not-beside_parent.ensures) (sym (c.requires.marked.1 tile (tile_below c.args.grid tile on_grid)) ∙ seen)
