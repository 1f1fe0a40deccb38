use Rattle.std.proofs.Common.{refl, ◌*◌, arith}
use Rattle.link_bytes.proofs.Lent.{row_span, given_is}
use Rattle.link_bytes.specs.Store.{take_front}
use Rattle.link_bytes.proofs.parts.take.Goals as goal

pub returns : goal.returns
unfolding take_front
returns c =
    let k = row_span (1024 * c.args.r) in
    (rw (k, c.drop_front.ensures, k) refl, given_is _ _ _ (1024 * c.args.r) c.args.n (omega arith) (omega arith) c.copy.ensures)
