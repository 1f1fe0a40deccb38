use Rattle.wire.proofs.Parts.{room_fits, room-short}
use Prim.Native.Nat.{◌+◌, ◌<◌}
use mathlib.Core.Path.{sym, ◌∙◌}
use lib.ListN.{length}
use native.Mathlib.Omega.{arith}
use Rattle.wire.proofs.fields.room_for.Goals as goal
use Rattle.wire.proofs.fields.room_for.Goals.{else-at-s-via-then-at-s+else-n-s, else-at-s-via-else-at-s}

pub returns-then-n-s : goal.returns-then-n-s
returns-then-n-s c = sym (room_fits c.args.n c.args.s.now _ _ (omega arith))

pub returns-else-at-s : goal.returns-else-at-s
returns-else-at-s c =
    let short : length c.args.s.now < c.args.at + c.args.n =
    elim c.else-at-s.branch [
      | else-at-s-via-then-at-s+else-n-s w ↦ omega (arith, w.if-at-s.true, w.if-n-s.false)
      | else-at-s-via-else-at-s w ↦ omega (arith, w.if-at-s.false)
    ]
    in
    c.refused.ensures ∙ sym (room-short c.args.n c.args.s.now _ _ short)
