use Rattle.link_calls.specs.Calls.{requesting}
use Rattle.boundary_link.proofs.Reports.{leaves}
use Rattle.boundary_link.proofs.sootlark_request.Goals as goal

pub returns : goal.returns
returns c =
    leaves c.args.endpoint.now _ _ _ c.load.result c.load.ensures (λ e. requesting e c.args.store.now c.args.id c.args.session c.args.amount c.args.out.now) c.request-a.result c.request-a.ensures _ _ c.reported.ensures.written c.finish.ensures
