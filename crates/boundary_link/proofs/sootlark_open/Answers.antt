use Rattle.link_calls.specs.Calls.{opening}
use Rattle.boundary_link.proofs.Reports.{opens}
use Rattle.boundary_link.proofs.sootlark_open.Goals as goal

pub returns : goal.returns
returns c =
    opens c.args.endpoint.now _ _ _ c.load.result c.load.ensures (λ e. opening e c.args.store.now c.args.id c.args.out.now) c.open-a.result c.open-a.ensures _ _ c.reported-done.ensures.written c.finish.ensures _ c.reported-done.ensures.session
