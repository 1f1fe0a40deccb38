use Rattle.link_calls.proofs.Decided.{read_fits, read_refused, read_leaves}
use Rattle.link_calls.proofs.read.Goals as goal

pub less-requires : goal.less-requires
less-requires c = search read_fits

pub returns-in-Err : goal.returns-in-Err
returns-in-Err c = search read_refused

pub returns-in-Ok : goal.returns-in-Ok
returns-in-Ok c = search read_leaves
