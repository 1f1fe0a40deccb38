use Rattle.std.proofs.Common.{arith, ◌+◌}
use Rattle.link_rows.proofs.Front.{tail_lent}
use Rattle.link_rows.proofs.Every.{distinct_more, distinct_end}
use Rattle.link_rows.proofs.rules.all_differ.Goals as goal

pub loop-i-preserved : goal.loop-i-preserved
loop-i-preserved c = let ids = c.args.ids.now in
    rw (c.none_is.ensures, tail_lent (c.loop-i.i + 1) ids) (distinct_more ids c.loop-i.ok c.loop-i.i c.loop-i.invariant (omega arith))

pub returns : goal.returns
returns c = distinct_end c.args.ids.now c.loop-i.ok c.loop-i.i c.loop-i.invariant (omega arith)
