use Rattle.std.proofs.Common.{◌-◌}
use Rattle.link_rows.specs.Replies.{done}
use Rattle.link_receive.proofs.Runs.{At, standing}
use Rattle.link_receive.specs.Run.{start_of}
use Rattle.link_receive.proofs.records.records.Given as goal

abbrev pub invariant-loop-accepted : goal.invariant-loop-accepted
invariant-loop-accepted l = At l.n (start_of (done 0 0 0) l.initial.endpoint l.initial.store l.initial.out) l.bytes (standing (done 0 0 0) l.accepted l.used l.written l.endpoint l.store l.out)

abbrev pub decreases-loop-accepted : goal.decreases-loop-accepted
decreases-loop-accepted l = l.n - l.accepted
