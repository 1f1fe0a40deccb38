use Rattle.std.proofs.Common.{refl, ◌*◌}
use Rattle.link_bytes.proofs.Lent.{row_span}
use Rattle.link_bytes.specs.Store.{queue_data}
use Rattle.link_bytes.proofs.parts.queue.Goals as goal

pub returns : goal.returns
unfolding queue_data
returns c = let k = row_span (1024 * c.args.r) in
    rw (k, c.put.ensures, k) refl
