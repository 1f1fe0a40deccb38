-- What stands under a role, as a value and not as bytes, and what each call hands back of it.
use Rattle.std.specs.Prelude.{ℕ, Bool, true, false, cond, List, [], length, Result, Ok, Err}
use Rattle.std.specs.Borrow.{Bor}
use Rattle.wire.specs.Reading.{refused}
use Rattle.wire.specs.declared.Refused.{Refused}
use Rattle.wire.specs.Values.{Xid, Vals}
use Rattle.wire.specs.Contents.{data_of, xid_number}
use Rattle.wire.specs.Replies.{number}
use Rattle.wire.specs.declared.Fault.TheVariants.{NoField, NoElement}
use Rattle.wire.specs.declared.values.XidNumber.{XidNumber}
use Rattle.message_layout.specs.Table.{items_of}
use Rattle.message_layout.specs.declared.Element.{Element}

-- what stands under a role: nothing; bytes, as those of an id or of a string; a number; an xid; a list's elements
pub data Content : Type 0 where
  lacking : Content
  bytes : List ℕ → Content
  numeral : ℕ → Content
  xid : Xid → Content
  list : (e : Element) → List (Vals (items_of e)) → Content

-- ---- what there is

-- bytes to hand back: an id, a string, an xid's data
abbrev pub has_bytes : Content → Bool
has_bytes lacking = false
has_bytes (bytes b) = true
has_bytes (numeral n) = false
has_bytes (xid x) = true
has_bytes (list e vs) = false

-- a number
abbrev pub has_number : Content → Bool
has_number lacking = false
has_number (bytes b) = false
has_number (numeral n) = true
has_number (xid x) = false
has_number (list e vs) = false

-- an xid
abbrev pub is_xid : Content → Bool
is_xid lacking = false
is_xid (bytes b) = false
is_xid (numeral n) = false
is_xid (xid x) = true
is_xid (list e vs) = false

-- a list, and how many elements; anything else has none
abbrev pub is_list : Content → Bool
is_list lacking = false
is_list (bytes b) = false
is_list (numeral n) = false
is_list (xid x) = false
is_list (list e vs) = true

abbrev pub element_count : Content → ℕ
element_count lacking = 0
element_count (bytes b) = 0
element_count (numeral n) = 0
element_count (xid x) = 0
element_count (list e vs) = length vs

-- ---- what the calls hand back

-- a number, or why there is none
abbrev pub Value : Type 0
Value = Result ℕ Refused

-- bytes, or why there are none
abbrev pub Part : Type 0
Part = Result (List ℕ) Refused

-- the same as the code lends them
abbrev pub lent : Result (Bor (List ℕ)) Refused → Part
lent (Ok b) = Ok b.now
lent (Err r) = Err r

-- that there is no such field, and no such element
abbrev pub no_field : Refused
no_field = refused NoField 0

abbrev pub no_element : Refused
no_element = refused NoElement 0

-- its bytes: of an xid its data; none where it has no bytes
abbrev pub content_bytes : Content → List ℕ
content_bytes lacking = []
content_bytes (bytes b) = b
content_bytes (numeral n) = []
content_bytes (xid x) = data_of x
content_bytes (list e vs) = []

-- the number beside them: 0, or 50 where it has no bytes
abbrev pub content_reply : Content → ℕ
content_reply c = cond (has_bytes c) 0 (number NoField)

-- the two as one answer
abbrev pub content_part : Content → Part
content_part lacking = Err no_field
content_part (bytes b) = Ok b
content_part (numeral n) = Err no_field
content_part (xid x) = Ok (data_of x)
content_part (list e vs) = Err no_field

-- its number, or 50
abbrev pub content_number : Content → Value
content_number lacking = Err no_field
content_number (bytes b) = Err no_field
content_number (numeral n) = Ok n
content_number (xid x) = Err no_field
content_number (list e vs) = Err no_field

-- a number of an xid, or 50
abbrev pub content_xid : XidNumber → Content → Value
content_xid w lacking = Err no_field
content_xid w (bytes b) = Err no_field
content_xid w (numeral n) = Err no_field
content_xid w (xid x) = Ok (xid_number w x)
content_xid w (list e vs) = Err no_field

-- how many elements a list has, or 49
abbrev pub content_count : Content → Value
content_count lacking = Err no_element
content_count (bytes b) = Err no_element
content_count (numeral n) = Err no_element
content_count (xid x) = Err no_element
content_count (list e vs) = Ok (length vs)
