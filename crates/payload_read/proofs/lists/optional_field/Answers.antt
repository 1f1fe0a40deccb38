use Rattle.wire.specs.Reading.{read_field}
use Rattle.payload_read.proofs.Walk.{part_none, part_there}
use Rattle.payload_read.proofs.lists.optional_field.Goals as goal

pub returns-then-number_at-eq0 : goal.returns-then-number_at-eq0
unfolding read_field
returns-then-number_at-eq0 c =
    part_none _ _ _ _ c.in_ok-at.was _ c.at_most.ensures _ c.number_field.ensures _ _ c.in_ok-end.was c.number_at.ensures c.if-number_at-eq0.true

pub returns-else-number_at-eq0 : goal.returns-else-number_at-eq0
unfolding read_field
returns-else-number_at-eq0 c =
    part_there _ _ _ _ c.in_ok-at.was _ c.at_most.ensures _ c.number_field.ensures _ _ c.in_ok-end.was c.number_at.ensures c.if-number_at-eq0.false _ c.items.ensures
