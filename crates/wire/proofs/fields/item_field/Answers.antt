use Rattle.wire.specs.Reading.{read_item}
use Rattle.wire.proofs.fields.item_field.Goals as goal

pub returns-in-Raw : goal.returns-in-Raw
unfolding read_item
returns-in-Raw c = rw c.in-Raw.is c.bytes_field.ensures

pub returns-in-Num : goal.returns-in-Num
unfolding read_item
returns-in-Num c = rw c.in-Num.is c.number_field.ensures

pub returns-in-Str : goal.returns-in-Str
unfolding read_item
returns-in-Str c = rw c.in-Str.is c.string_field.ensures
