use Rattle.message_explain.proofs.Leaves.{stop_end, stop_field}
use Rattle.message_explain.proofs.stops.stop_reason.Goals as goal

pub returns-in-Ok : goal.returns-in-Ok
returns-in-Ok c = search stop_end

pub returns-in-Err : goal.returns-in-Err
returns-in-Err c = search stop_field
