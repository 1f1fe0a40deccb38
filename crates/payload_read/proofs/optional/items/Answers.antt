use Rattle.std.proofs.Common.{refl, ◌∙◌}
use Rattle.message_layout.specs.Table.{entries_from}
use Rattle.payload_read.proofs.Walk.{row_read_lem, walk_all, walk_next}
use Rattle.payload_read.proofs.optional.items.Goals as goal

pub loop-field-init : goal.loop-field-init
loop-field-init c = refl

pub loop-field-preserved : goal.loop-field-preserved
loop-field-preserved c = walk_next _ _ _ _ _ c.loop-field.invariant c.loop-field-test.true _ _ c.one_item-o.ensures

pub returns : goal.returns
unfolding entries_from
returns c =
    walk_all _ _ _ _ _ c.loop-field.invariant c.loop-field-test.false
    ∙ (rw c.row_of-field-items.ensures (row_read_lem c.args.element c.args.s.now c.args.o))
