use Rattle.link_receive.specs.Receive.{receiving}
use Rattle.boundary_link.proofs.Reports.{receives}
use Rattle.boundary_link.proofs.sootlark_receive.Goals as goal

pub returns : goal.returns
returns c =
    receives c.args.endpoint.now _ _ _ c.load.result c.load.ensures (λ e. receiving e c.args.store.now c.args.bytes.now c.args.out.now) c.receive-a.result c.receive-a.ensures _ _ c.reported-done.ensures.written c.finish.ensures _ _ c.reported-done.ensures.session c.reported-done.ensures.used
