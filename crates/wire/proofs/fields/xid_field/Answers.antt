use Rattle.std.proofs.Common.{rules}
use Rattle.wire.specs.Reading.{read_xid}
use Rattle.wire.proofs.fields.xid_field.Goals as goal

pub returns-in_err-at : goal.returns-in_err-at
unfolding read_xid
returns-in_err-at c = search rules

pub returns-in_err-end : goal.returns-in_err-end
unfolding read_xid
returns-in_err-end c = search rules

pub returns-then-number_at-eq0 : goal.returns-then-number_at-eq0
unfolding read_xid
returns-then-number_at-eq0 c = search rules

pub returns-else-number_at-eq0 : goal.returns-else-number_at-eq0
unfolding read_xid
returns-else-number_at-eq0 c = search rules
