-- What is written of the row is not read again: the rest of it is joined from what stood there.
use Rattle.std.proofs.Common.{◌-◌, ◌≢◌, length, None, sym, refl, ap, ◌∙◌, subst, arith, get_or-set_other}
use Rattle.search_cells.specs.Cells.{as_joined, as_reached, row_in, line_in, HasRoom, joined_row}
use Rattle.search_cells.proofs.Inplace.{joined_row_same, back_more}
use Rattle.search_theory.specs.Costs.{kind_of}
use Rattle.search.proofs.merge.merge_row.Goals as goal

pub joined-requires : goal.joined-requires
joined-requires g c =
    let j = c.loop-j.j - 1 in
    record {
      small = omega arith;
      own = omega arith;
      other = omega arith;
      room = λ k l. subst HasRoom (sym (c.loop-j.invariant.before k (omega arith))) (c.requires.room k (omega arith));
      roomy = c.requires.roomy j (omega arith);
    }

pub loop-j-init : goal.loop-j-init
loop-j-init g c = record { before = λ k l. refl; after = λ k a b. absurd (omega arith) }

pub loop-j-preserved : goal.loop-j-preserved
loop-j-preserved g c =
    let m = g.P.Cost in
    let o = kind_of m in
    let old = c.args.own.now in
    let xs = c.loop-j.own in
    let j = c.loop-j.j - 1 in
    let r = row_in m.held c.args.child.now in
    let low = line_in m.held c.args.low.now in
    let first = as_reached m.held c.args.first in
    let same = c.loop-j.invariant.before in
    record {
      before = λ k l. let ne : k ≢ j = omega arith in get_or-set_other xs j k c.joined.result None ne ∙ same k (omega arith);
      after = back_more None (as_joined m.held) (joined_row o c.args.price (line_in m.held old) r low first) xs j (length old) c.joined.result (omega arith)
          (c.joined.ensures ∙ joined_row_same o c.args.price (line_in m.held xs) (line_in m.held old) r r low low first j (λ k l. ap (as_joined m.held) (same k (omega arith))) (λ k l. refl) refl)
          (λ k a b. c.loop-j.invariant.after k (omega arith) b);
    }

pub returns : goal.returns
returns g c = λ j l. c.loop-j.invariant.after j (omega arith) l
