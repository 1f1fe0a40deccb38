use Rattle.std.proofs.Common.{refl, length-drop, arith, length, take, drop, ◌≡◌, ◌*◌}
use lib.Seq.{length-take-le}
use Rattle.link_bytes.proofs.Lent.{row_span}
use Rattle.link_bytes.specs.Store.{clear_row}
use Rattle.link_bytes.proofs.parts.clear.Goals as goal

pub returns : goal.returns
unfolding clear_row
returns c =
    let at = 1024 * c.args.r in
    let n : length (take 1024 (drop at c.args.store.now)) ≡ 1024 = length-take-le 1024 (drop at c.args.store.now) (omega (arith, length-drop at c.args.store.now)) in
    rw (c.fill.ensures.after (λ y e. e), row_span at, n) refl
