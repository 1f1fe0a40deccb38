use mathlib.Core.Path.{◌≡◌}
use Rattle.message_walk.specs.Reasons.{reason_of}
use Rattle.message_walk.specs.Positions.{walk_from}
use Rattle.message_walk.proofs.Stepping.{field_count}
use Rattle.message_walk.proofs.Position.reason.Given as goal

abbrev pub invariant-loop-met : goal.invariant-loop-met
invariant-loop-met l = reason_of l.s (walk_from l.s l.at) ≡ reason_of l.s (walk_from l.s l.initial.at)

abbrev pub decreases-loop-met : goal.decreases-loop-met
decreases-loop-met l = field_count (walk_from l.s l.at)
