use Rattle.std.proofs.Common.{rules}
use Rattle.wire.specs.Reading.{read_string}
use Rattle.wire.proofs.fields.string_field.Goals as goal

pub returns-in_err-at : goal.returns-in_err-at
unfolding read_string
returns-in_err-at c = rw c.in_err-at.was (search rules)

pub returns-in_err-data : goal.returns-in_err-data
unfolding read_string
returns-in_err-data c = search rules

pub returns : goal.returns
unfolding read_string
returns c = search rules
