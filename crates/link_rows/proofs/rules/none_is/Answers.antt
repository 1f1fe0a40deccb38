use Rattle.std.proofs.Common.{arith}
use Rattle.link_rows.proofs.Every.{every_more, every_end}
use Rattle.link_rows.proofs.rules.none_is.Goals as goal

pub loop-y-preserved : goal.loop-y-preserved
loop-y-preserved c = every_more _ c.args.ids.now c.loop-y.ok c.loop-y.y-index 0 c.loop-y.invariant (omega arith)

pub returns : goal.returns
returns c = every_end _ c.args.ids.now c.loop-y.ok c.loop-y.y-index c.loop-y.invariant (omega arith)
