use Rattle.std.proofs.Common.{refl}
use Rattle.link_receive.proofs.Turns.{refused_leaves, row_fits, store_fits, done_leaves}
use Rattle.link_receive.proofs.step.step.Goals as goal

pub row_after-requires : goal.row_after-requires
row_after-requires c = search row_fits

pub stored-requires : goal.stored-requires
stored-requires c = let a = c.args in
    store_fits a.e.now a.store.now a.bytes.now a.out.now c.requires c.head-h.ensures c.place-r.ensures c.is_ours.ensures _ c.in-Ok.ensures refl

pub returns-then-takes_down : goal.returns-then-takes_down
returns-then-takes_down c = let a = c.args in
    refused_leaves a.e.now a.store.now a.bytes.now a.out.now c.requires c.head-h.ensures c.place-r.ensures c.is_ours.ensures _ c.in-Err.ensures _ refl (rw (← c.takes_down.ensures, c.if-takes_down.true) c.downed.ensures)

pub returns-else-takes_down : goal.returns-else-takes_down
returns-else-takes_down c = let a = c.args in
    refused_leaves a.e.now a.store.now a.bytes.now a.out.now c.requires c.head-h.ensures c.place-r.ensures c.is_ours.ensures _ c.in-Err.ensures _ refl (rw (← c.takes_down.ensures, c.if-takes_down.false) refl)

pub returns-in-Ok : goal.returns-in-Ok
returns-in-Ok c = search done_leaves
