use Rattle.link_calls.proofs.Decided.{close_refused, close_leaves}
use Rattle.link_calls.proofs.close.Goals as goal

pub returns-in-Err : goal.returns-in-Err
returns-in-Err c = search close_refused

pub returns-in-Ok : goal.returns-in-Ok
returns-in-Ok c = search close_leaves
