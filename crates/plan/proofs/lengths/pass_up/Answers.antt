use Rattle.std.proofs.Common.{◌≡◌, ℕ, ◌+◌, cond, List, get_or, ap, ◌∙◌, arith}
use Rattle.net.specs.declared.records.record.Record.{Record}
use Rattle.net.specs.Checked.{records_of}
use Rattle.net.specs.Routes.{parent_of}
use Rattle.length_rule.specs.Marks.{has_head, has_trunk, head_at, trunk_at}
use Rattle.plan.proofs.Walking.{passes_small, parent_below, sum_small, walked_more}
use Rattle.plan.proofs.lengths.pass_up.Goals as goal

-- the parent of the index, and what it passes up
parent : (c : goal.After-slice_known-3-1) → c.from-parent.result ≡ parent_of (records_of c.args.route.now) c.args.index
parent c = c.from-parent.ensures ∙ ap (λ (xs : List Record). parent_of xs c.args.index) c.records.ensures

passes : (c : goal.After-slice_known-3-1) → c.passed-passes.result ≡ cond (head_at c.args.marks.now c.args.index) 0 (1 + cond (trunk_at c.args.marks.now c.args.index) 0 (get_or c.args.lengths.now c.args.index 0))
passes c = c.passed-passes.ensures ∙ ap (λ (m : ℕ). cond (has_head m) 0 (1 + cond (has_trunk m) 0 (get_or c.args.lengths.now c.args.index 0))) c.mark_at.ensures

pub passed-passes-requires : goal.passed-passes-requires
passed-passes-requires c = omega (arith, passes_small c.args.route.now c.requires.later c.requires.within c.requires.walked)

pub offset_bounds-lengths-parent : goal.offset_bounds-lengths-parent
offset_bounds-lengths-parent c = omega (arith, parent_below c.args.route.now c.requires.later c.requires.within c.requires.walked (c.from-parent.ensures ∙ ap (λ (xs : List Record). parent_of xs c.args.index) c.records.ensures))

pub bounds-lengths-parent : goal.bounds-lengths-parent
bounds-lengths-parent c = omega (arith, c.requires.walked.size, parent_below c.args.route.now c.requires.later c.requires.within c.requires.walked (c.from-parent.ensures ∙ ap (λ (xs : List Record). parent_of xs c.args.index) c.records.ensures))

pub bounds-lengths-parent-2 : goal.bounds-lengths-parent-2
bounds-lengths-parent-2 c = omega (arith, c.requires.walked.size, parent_below c.args.route.now c.requires.later c.requires.within c.requires.walked (parent c))

pub overflow_add-lengths : goal.overflow_add-lengths
overflow_add-lengths c = omega (arith, sum_small c.args.route.now c.requires.later c.requires.within c.requires.walked (parent c) (passes c))

pub returns : goal.returns
returns c = walked_more c.args.route.now c.requires.later c.requires.within c.requires.walked (parent c) (passes c)
