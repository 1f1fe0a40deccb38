use Rattle.link_calls.specs.Calls.{transmitting}
use Rattle.boundary_link.proofs.Reports.{leaves}
use Rattle.boundary_link.proofs.sootlark_transmit.Goals as goal

pub returns : goal.returns
returns c =
    leaves c.args.endpoint.now _ _ _ c.load.result c.load.ensures (λ e. transmitting e c.args.store.now c.args.id c.args.session c.args.bytes.now c.args.out.now) c.transmit-a.result c.transmit-a.ensures _ _ c.reported.ensures.written c.finish.ensures
