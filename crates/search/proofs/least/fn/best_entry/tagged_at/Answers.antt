use Rattle.std.proofs.Common.{None, ap, ◌∙◌}
use Rattle.std.proofs.lemmas.List.{get_or_read}
use Rattle.search_cells.specs.Cells.{as_chosen}
use Rattle.search_theory.specs.Joining.{tagged}
use Rattle.search.proofs.least.fn.best_entry.tagged_at.Goals as goal

pub returns : goal.returns
returns g c = c.tagged.ensures ∙ ap (λ x. tagged c.args.e (as_chosen g.P.Cost.held x)) (get_or_read c.captures.row.now c.args.e c.index-row-e.result c.requires.below c.index-row-e.is None)
