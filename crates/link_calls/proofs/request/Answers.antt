use Rattle.link_calls.proofs.Decided.{request_fits, request_refused, request_leaves}
use Rattle.link_calls.proofs.request.Goals as goal

pub granted-requires : goal.granted-requires
granted-requires c = search request_fits

pub returns-in-Err : goal.returns-in-Err
returns-in-Err c = search request_refused

pub returns-in-Ok : goal.returns-in-Ok
returns-in-Ok c = search request_leaves
