use Rattle.link_script.proofs.Laws.{single_does, several_does}
use Rattle.link_script.specs.Script.{call_of}
use Rattle.link_script.proofs.perform.call.Goals as goal

pub returns-in-Open : goal.returns-in-Open
unfolding call_of
returns-in-Open c = rw c.in-Open.is (single_does _ _ _ _ _ c.«open».ensures c.single.ensures)

pub returns-in-Close : goal.returns-in-Close
unfolding call_of
returns-in-Close c = rw c.in-Close.is (single_does _ _ _ _ _ c.close.ensures c.single-in-Close.ensures)

pub returns-in-Request : goal.returns-in-Request
unfolding call_of
returns-in-Request c = rw c.in-Request.is (single_does _ _ _ _ _ c.request.ensures c.single-in-Request.ensures)

pub returns-in-Transmit : goal.returns-in-Transmit
unfolding call_of
returns-in-Transmit c = rw c.in-Transmit.is (single_does _ _ _ _ _ c.transmit.ensures c.single-in-Transmit.ensures)

pub returns-in-Read : goal.returns-in-Read
unfolding call_of
returns-in-Read c = rw c.in-Read.is (single_does _ _ _ _ _ c.read.ensures c.single-in-Read.ensures)

pub returns-in-Receive : goal.returns-in-Receive
unfolding call_of
returns-in-Receive c = rw c.in-Receive.is (single_does _ _ _ _ _ c.receive.ensures c.single-in-Receive.ensures)

pub returns-in-Run : goal.returns-in-Run
unfolding call_of
returns-in-Run c = rw c.in-Run.is (several_does _ _ _ _ _ c.run.ensures c.several.ensures)
