use Rattle.std.proofs.Common.{rules}
use Rattle.wire.specs.Reading.{read_field, read_list}
use Rattle.payload_read.proofs.Outcomes.{list-reads}
use Rattle.payload_read.proofs.lists.list_field.Goals as goal

pub returns-in_err-at : goal.returns-in_err-at
unfolding read_field read_list
returns-in_err-at c = search rules

pub returns : goal.returns
returns c = let h = c.in_ok-at.was in rw h (list-reads _ _ _ _ _ c.counted.ensures _ c.stop_outcome.ensures)
