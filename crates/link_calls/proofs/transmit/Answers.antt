use Rattle.link_calls.proofs.Decided.{transmit_count, transmit_fits, transmit_refused, transmit_leaves}
use Rattle.link_calls.proofs.transmit.Goals as goal

pub overflow_cast-count : goal.overflow_cast-count
overflow_cast-count c = search transmit_count

pub spent-requires : goal.spent-requires
spent-requires c = search transmit_fits

pub returns-in-Err : goal.returns-in-Err
returns-in-Err c = search transmit_refused

pub returns-in-Ok : goal.returns-in-Ok
returns-in-Ok c = search transmit_leaves
