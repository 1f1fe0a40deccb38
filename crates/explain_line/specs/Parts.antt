-- The parts of a reason, as document 02's T-08 has them: the number, the field's name, and the numbers beside that, 0 where one does not apply.
use Rattle.std.specs.Prelude.{ℕ, ◌+◌, Bool, true, false, cond, List, [], Option, None, Some}
use Rattle.wire.specs.Replies.{number}
use Rattle.message_names.specs.Names.{name_of}
use Rattle.message_walk.specs.declared.FieldName.{FieldName}
use Rattle.message_walk.specs.declared.FieldName.TheVariants as name
use Rattle.message_walk.specs.declared.Detail.{Detail}
use Rattle.message_walk.specs.declared.Detail.TheVariants.{Room, Value, Left}
use Rattle.message_walk.specs.declared.Reason.{Reason}
use Rattle.text.specs.Text.{words}
use Rattle.explain_line.specs.declared.parts.Numbers.{Numbers}

-- the number: document 01's, or 0
abbrev pub reason_number : Option Reason → ℕ
reason_number None = 0
reason_number (Some r) = number r.fault

-- ---- the field

-- a field is named
abbrev pub named : Option FieldName → Bool
named None = false
named (Some n) = true

-- its name: of the header or the payload, or document 003's of a field in the payload
unfoldable pub field_word : Option FieldName → List ℕ
field_word None = []
field_word (Some name.Header) = words "header"
field_word (Some name.Payload) = words "payload"
field_word (Some name.HeaderType) = words "header.type"
field_word (Some name.HeaderSize) = words "header.size"
field_word (Some (name.Piece s k j)) = name_of s k j

-- the field that a reason names
abbrev pub field_of : Option Reason → Option FieldName
field_of None = None
field_of (Some r) = r.field

-- ---- the element that it is in, by its number from 0

abbrev pub element_in : Option ℕ → ℕ
element_in None = 0
element_in (Some n) = n

-- the same of a reason
abbrev pub element_of : Option Reason → ℕ
element_of None = 0
element_of (Some r) = element_in r.index

-- ---- what is wrong

-- the bytes needed
abbrev pub needed_in : Detail → ℕ
needed_in (Room a b) = a
needed_in (Value v) = 0
needed_in (Left n) = 0

-- the bytes there
abbrev pub had_in : Detail → ℕ
had_in (Room a b) = b
had_in (Value v) = 0
had_in (Left n) = 0

-- the value found
abbrev pub value_in : Detail → ℕ
value_in (Room a b) = 0
value_in (Value v) = v
value_in (Left n) = 0

-- the bytes left over
abbrev pub left_in : Detail → ℕ
left_in (Room a b) = 0
left_in (Value v) = 0
left_in (Left n) = n

-- each of the four of a reason
abbrev pub from_detail : (Detail → ℕ) → Option Reason → ℕ
from_detail g None = 0
from_detail g (Some r) = g r.detail

abbrev pub needed_of : Option Reason → ℕ
needed_of r = from_detail needed_in r

abbrev pub had_of : Option Reason → ℕ
had_of r = from_detail had_in r

abbrev pub value_of : Option Reason → ℕ
value_of r = from_detail value_in r

abbrev pub left_of : Option Reason → ℕ
left_of r = from_detail left_in r

-- ---- which of them apply

-- 1 for the field
abbrev pub field_bit : Option FieldName → ℕ
field_bit n = cond (named n) 1 0

-- 2 for the element
abbrev pub element_bit : Option ℕ → ℕ
element_bit None = 0
element_bit (Some n) = 2

-- 4 for needed and had, 8 for the value, 16 for the bytes left over
abbrev pub detail_bit : Detail → ℕ
detail_bit (Room a b) = 4
detail_bit (Value v) = 8
detail_bit (Left n) = 16

-- their sum
abbrev pub parts_of : Option Reason → ℕ
parts_of None = 0
parts_of (Some r) = field_bit r.field + element_bit r.index + detail_bit r.detail

-- ---- all of them together: of what is wrong, and of a reason

abbrev pub numbers_in : Detail → Numbers
numbers_in d =
    record {
      number = 0;
      parts = detail_bit d;
      element = 0;
      needed = needed_in d;
      had = had_in d;
      value = value_in d;
      left = left_in d;
    }

abbrev pub numbers_of : Option Reason → Numbers
numbers_of r =
    record {
      number = reason_number r;
      parts = parts_of r;
      element = element_of r;
      needed = needed_of r;
      had = had_of r;
      value = value_of r;
      left = left_of r;
    }
