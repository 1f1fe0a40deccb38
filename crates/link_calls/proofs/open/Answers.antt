use Rattle.link_calls.proofs.Decided.{open_refused, open_leaves}
use Rattle.link_calls.proofs.open.Goals as goal

pub returns-in-Err : goal.returns-in-Err
returns-in-Err c = search open_refused

pub returns-in-Ok : goal.returns-in-Ok
returns-in-Ok c = search open_leaves
