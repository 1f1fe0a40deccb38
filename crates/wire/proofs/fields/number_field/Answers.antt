use Rattle.std.proofs.Common.{rules}
use Rattle.wire.specs.Reading.{read_number}
use Rattle.wire.proofs.fields.number_field.Goals as goal

pub returns-in_err-at : goal.returns-in_err-at
unfolding read_number
returns-in_err-at c = search rules

pub returns-in_err-end : goal.returns-in_err-end
unfolding read_number
returns-in_err-end c = search rules

pub returns-then-allows : goal.returns-then-allows
unfolding read_number
returns-then-allows c = search rules

pub returns-else-allows : goal.returns-else-allows
unfolding read_number
returns-else-allows c = search rules
