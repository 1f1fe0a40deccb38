use Rattle.std.proofs.Common.{rules, refl, sym}
use Rattle.message_layout.specs.Table.{items_of}
use Rattle.message_lent.specs.Lent.{value_lent}
use Rattle.message_lent.specs.Lists.{list_bytes}
use Rattle.message_put.proofs.Rows.{going_none, going_more, going_all}
use Rattle.message_put.proofs.lists.put_list.Goals as goal

pub loop-i-init : goal.loop-i-init
loop-i-init g c = rw (g.met.C.Columns.from_front c.args.columns.now) (going_none _ _ _ _ _)

pub loop-i-preserved : goal.loop-i-preserved
loop-i-preserved g c =
    going_more _ _ _ _ c.loop-i.invariant c.loop-i-test.true _ refl c.put_nth-p.ensures _ (sym c.after-after.ensures)

pub returns : goal.returns
unfolding list_bytes value_lent
returns g c =
    rw (← c.count-n.ensures)
    (going_all (items_of g.C.Columns.element) _ _ _ _ c.put_number-p.ensures c.loop-i.invariant (search rules))
