use Rattle.link_receive.proofs.Turns.{early}
use Rattle.link_receive.proofs.Runs.{run_ready}
use Rattle.link_receive.proofs.receive.Goals as goal

pub step-reply-requires : goal.step-reply-requires
step-reply-requires c = search run_ready

pub returns-in-Err : goal.returns-in-Err
returns-in-Err c = search early
