use Rattle.link_calls.specs.Calls.{reading}
use Rattle.boundary_link.proofs.Reports.{leaves}
use Rattle.boundary_link.proofs.sootlark_link_read.Goals as goal

pub returns : goal.returns
returns c =
    leaves c.args.endpoint.now _ _ _ c.load.result c.load.ensures (λ e. reading e c.args.store.now c.args.id c.args.session c.args.out.now) c.read-a.result c.read-a.ensures _ _ c.reported.ensures.written c.finish.ensures
