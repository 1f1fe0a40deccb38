use Rattle.message_walk.proofs.Stepping.{walk_ended, walk_refused, walk_on, walk_less}
use Rattle.message_walk.proofs.Position.reason.Goals as goal

pub returns-in-Ok-None : goal.returns-in-Ok-None
returns-in-Ok-None c = search walk_ended

pub returns-in-Err : goal.returns-in-Err
returns-in-Err c = search walk_refused

pub loop-met-smaller : goal.loop-met-smaller
loop-met-smaller c = search walk_less

pub loop-met-preserved : goal.loop-met-preserved
loop-met-preserved c = search walk_on
