use Rattle.link_calls.proofs.Decided.{make_refused, make_leaves}
use Rattle.link_calls.proofs.make.Goals as goal

pub returns-in-Err : goal.returns-in-Err
returns-in-Err c = search make_refused

pub returns-in-Ok : goal.returns-in-Ok
returns-in-Ok c = search make_leaves
