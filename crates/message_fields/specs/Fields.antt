-- The single fields of a message m that is read at an agreed version: what each call hands back, and its number.
use Rattle.std.specs.Prelude.{ℕ, ◌+◌, min, cond, List, [], ◌∷◌, length, take, drop, eqb, Option, None, Some, Result, Ok, Err}
use Rattle.wire.specs.Numbers.{number_at}
use Rattle.wire.specs.Layout as layout
use Rattle.wire.specs.Decoding.{field_at}
use Rattle.wire.specs.Reading.{Outcome, read_field}
use Rattle.wire.specs.Replies.{number}
use Rattle.wire.specs.declared.Item.TheVariants.{Raw, Num, Str}
use Rattle.wire.specs.declared.Refused.{Refused}
use Rattle.wire.specs.declared.values.XidNumber.{XidNumber}
use Rattle.message_layout.specs.Roles as role
use Rattle.message_layout.specs.Table.{Entered, field_of, entries_from}
use Rattle.message_layout.specs.Message.{correlation_in, payload_in}
use Rattle.message_layout.specs.declared.Kind.{Kind}
use Rattle.message_layout.specs.declared.Kind.TheVariants as kind
use Rattle.message_layout.specs.declared.Source.{Source}
use Rattle.message_layout.specs.declared.Source.TheVariants as source
use Rattle.message_read.specs.Reading.{Reading}
use Rattle.message_fields.specs.declared.Found.{Found}
use Rattle.message_fields.specs.declared.Found.TheVariants.{Bytes, Number, Xid, List as Listed}
use Rattle.message_fields.specs.declared.Held.{Held}
use Rattle.message_fields.specs.Contents.{Content, lacking, bytes, numeral, xid, list, Value, Part, content_bytes, content_reply, content_part, content_number, content_xid}

-- ---- finding a field

-- a place, or the end of the bytes where it is past that
abbrev pub within : List ℕ → ℕ → ℕ
within s p = min p (length s)

-- what a field of that kind, which starts at p in s, has to hand back: bytes by their place and size, a number, an xid or a list by its place; of a part
-- that follows a flag, the flag
abbrev pub found_at : Kind → List ℕ → ℕ → Found
found_at (kind.One (Raw n)) s p = Bytes p n
found_at (kind.One (Num w l)) s p = Number (number_at (layout.size w) s p)
found_at (kind.One Str) s p = Bytes (within s (p + 8)) (number_at 8 s p)
found_at (kind.List e) s p = Listed e p
found_at (kind.Optional e) s p = Number (number_at 1 s p)
found_at kind.Xid s p = Xid p

-- it stands where the fields before it ended
abbrev pub found : Kind → List ℕ → Outcome → Option Found
found k s (Ok p) = Some (found_at k s p)
found k s (Err r) = None

-- the first of some fields that has the role; o is what the fields before them came to
unfoldable pub sought : ℕ → List Entered → List ℕ → Outcome → Option Found
sought r [] s o = None
sought r (e ∷ es) s o = cond (eqb r e.role) (found e.kind s o) (sought r es s (read_field (field_of e.kind) s o))

-- the field of that role of a message type or of an element, whose first field starts at the front of s
abbrev pub field_in : ℕ → Source → List ℕ → Option Found
field_in r src s = sought r (entries_from src) s (Ok 0)

-- ---- its value

-- of what was found in the bytes s
abbrev pub content_of : Found → List ℕ → Content
content_of (Bytes p n) s = bytes (take n (drop p s))
content_of (Number n) s = numeral n
content_of (Xid p) s = xid (field_at layout.xid s p)
content_of (Listed e p) s = list e (field_at (field_of (kind.List e)) s p)

abbrev pub content_at : Option Found → List ℕ → Content
content_at None s = lacking
content_at (Some g) s = content_of g s

-- of the field of role r of a message type or of an element
abbrev pub content_from : ℕ → Source → List ℕ → Content
content_from r src s = content_at (field_in r src s) s

-- of the field of role r of a message m of type t
abbrev pub held : ℕ → ℕ → List ℕ → Content
held r t m = content_from r (source.Message t) (payload_in m)

-- ---- the answers: of an accepted message its field's; else the reading's refusal

-- the payload, and what was found in it under the role r
abbrev pub sought_in : Reading → ℕ → List ℕ → Result (List ℕ × Option Found) Refused
sought_in (Ok a) r m = Ok (payload_in m, field_in r (source.Message a.kind) (payload_in m))
sought_in (Err e) r m = Err e

-- the same as the code has it
abbrev pub seen : Result Held Refused → Result (List ℕ × Option Found) Refused
seen (Ok h) = Ok (h.bytes.now, h.found)
seen (Err e) = Err e

-- header.correlation
abbrev pub correlation_answer : Reading → List ℕ → Part
correlation_answer (Ok a) m = Ok (correlation_in m)
correlation_answer (Err e) m = Err e

-- the bytes under the role r: an id, a string, an xid's data; or 50 where there are none
abbrev pub part_answer : Reading → ℕ → List ℕ → Part
part_answer (Ok a) r m = content_part (held r a.kind m)
part_answer (Err e) r m = Err e

-- the number under the role r, or 50 where there is none
abbrev pub number_answer : Reading → ℕ → List ℕ → Value
number_answer (Ok a) r m = content_number (held r a.kind m)
number_answer (Err e) r m = Err e

-- a number of the xid, or 50 where there is no xid
abbrev pub xid_answer : Reading → XidNumber → List ℕ → Value
xid_answer (Ok a) x m = content_xid x (held role.Xid a.kind m)
xid_answer (Err e) x m = Err e

-- ---- a part as C has it: the bytes, which are none beside a refusal, and the number

-- header.correlation
abbrev pub correlation_part : Reading → List ℕ → List ℕ
correlation_part (Ok a) m = correlation_in m
correlation_part (Err e) m = []

-- the bytes under the role r
abbrev pub part_of : Reading → ℕ → List ℕ → List ℕ
part_of (Ok a) r m = content_bytes (held r a.kind m)
part_of (Err e) r m = []

-- the number beside them: 0, or 50 where there are none; else the reading's
abbrev pub part_number : Reading → ℕ → List ℕ → ℕ
part_number (Ok a) r m = content_reply (held r a.kind m)
part_number (Err e) r m = number e.fault

-- ---- document 01's number and values for each answer that is a value or a part

-- the number: 0, or the fault's
abbrev pub value_number : {A : Type 0} → Result A Refused → ℕ
value_number (Ok x) = 0
value_number (Err e) = number e.fault

-- the value, 0 at a refusal
abbrev pub value_of : Value → ℕ
value_of (Ok n) = n
value_of (Err e) = 0

-- the bytes, none at a refusal
abbrev pub part_bytes : Part → List ℕ
part_bytes (Ok b) = b
part_bytes (Err e) = []

-- the place that a refusal names, else 0
abbrev pub value_place : {A : Type 0} → Result A Refused → ℕ
value_place (Ok x) = 0
value_place (Err e) = e.place
