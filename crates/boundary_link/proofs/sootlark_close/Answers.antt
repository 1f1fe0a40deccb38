use Rattle.link_calls.specs.Calls.{closing}
use Rattle.boundary_link.proofs.Reports.{leaves}
use Rattle.boundary_link.proofs.sootlark_close.Goals as goal

pub returns : goal.returns
returns c =
    leaves c.args.endpoint.now _ _ _ c.load.result c.load.ensures (λ e. closing e c.args.store.now c.args.id c.args.session c.args.out.now) c.close-a.result c.close-a.ensures _ _ c.reported.ensures.written c.finish.ensures
