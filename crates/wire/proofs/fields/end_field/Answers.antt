use Rattle.std.proofs.Common.{rules}
use Rattle.wire.specs.Reading.{read_end}
use Rattle.wire.proofs.fields.end_field.Goals as goal

pub returns-in_err-end : goal.returns-in_err-end
unfolding read_end
returns-in_err-end c = search rules

pub returns-then-end-s : goal.returns-then-end-s
unfolding read_end
returns-then-end-s c = search rules

pub returns-else-end-s : goal.returns-else-end-s
unfolding read_end
returns-else-end-s c = search rules
