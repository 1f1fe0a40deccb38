use Rattle.std.proofs.Common.{rules}
use Rattle.wire.specs.Reading.{read_bytes}
use Rattle.wire.proofs.fields.bytes_field.Goals as goal

pub returns-in_err-at : goal.returns-in_err-at
unfolding read_bytes
returns-in_err-at c = search rules

pub returns : goal.returns
unfolding read_bytes
returns c = search rules
