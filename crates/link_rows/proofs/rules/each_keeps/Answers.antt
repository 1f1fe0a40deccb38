use Rattle.std.proofs.Common.{arith}
use Rattle.link_rows.specs.Rows.{fresh_row}
use Rattle.link_rows.proofs.Every.{every_more, every_end}
use Rattle.link_rows.proofs.rules.each_keeps.Goals as goal

pub loop-r-preserved : goal.loop-r-preserved
loop-r-preserved c = rw c.row_keeps-ok.ensures (every_more _ c.args.rows.now c.loop-r.ok c.loop-r.r-index fresh_row c.loop-r.invariant (omega arith))

pub returns : goal.returns
returns c = every_end _ c.args.rows.now c.loop-r.ok c.loop-r.r-index c.loop-r.invariant (omega arith)
