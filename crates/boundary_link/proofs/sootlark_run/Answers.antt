use Rattle.link_receive.specs.Run.{running}
use Rattle.boundary_link.proofs.Reports.{runs}
use Rattle.boundary_link.proofs.sootlark_run.Goals as goal

pub returns : goal.returns
returns c =
    runs c.args.endpoint.now _ _ _ c.load.result c.load.ensures (λ e. running c.args.n e c.args.store.now c.args.bytes.now c.args.out.now) c.run-a.result c.run-a.ensures _ c.finish.ensures
