use Rattle.message_layout.specs.Table.{items_of}
use Rattle.message_put.proofs.Rows.{Going}
use Rattle.message_put.proofs.lists.put_list.Given as goal

abbrev pub invariant-loop-i : goal.invariant-loop-i
invariant-loop-i g l = Going (items_of g.C.Columns.element) l.n (g.C.Columns.lent l.columns).1 l.initial.out l.initial.p l.i (g.C.Columns.from l.left l.i) l.out l.p
