-- Where the bytes that a call hands back stand in the message m: the offset from its first byte. How many they are is the length of the part
-- itself. Where there is no part to hand back the offset is 0; an empty string has one, behind its size.
use Rattle.std.specs.Prelude.{ℕ, ◌+◌, ◌-◌, cond, List, length, eqb, ltb, Option, None, Some, Result, Ok, Err}
use Rattle.wire.specs.Numbers.{number_at}
use Rattle.wire.specs.declared.Refused.{Refused}
use Rattle.message_layout.specs.Message.{header_size, payload_in}
use Rattle.message_layout.specs.declared.Element.{Element}
use Rattle.message_layout.specs.declared.Source.TheVariants as source
use Rattle.message_read.specs.Reading.{Reading}
use Rattle.message_fields.specs.Contents.{content_bytes, content_part}
use Rattle.message_fields.specs.Fields.{within, field_in, content_at, part_of, part_answer}
use Rattle.message_fields.specs.declared.Found.{Found}
use Rattle.message_fields.specs.declared.Found.TheVariants.{Bytes, Number, Xid, List as Listed}
use Rattle.message_lists.specs.Elements.{element_at, list_in, element_part, element_answer}
use Rattle.message_places.specs.declared.Place.{Place}

-- ---- what was found in s, whose first byte has the offset b

-- an xid's data: after formatID, gtrid_length and bqual_length; one with formatID 0 has none
unfoldable pub xid_place : ℕ → List ℕ → ℕ → ℕ
xid_place b s p = cond (eqb (number_at 8 s p) 0) 0 (b + within s (p + 24))

-- its bytes
abbrev pub place_in : ℕ → Option Found → List ℕ → ℕ
place_in b None s = 0
place_in b (Some (Bytes p n)) s = b + within s p
place_in b (Some (Number n)) s = 0
place_in b (Some (Xid p)) s = xid_place b s p
place_in b (Some (Listed e p)) s = 0

-- ---- a field of element n of a list in the payload s

-- the offset of element n, of a list of elements e whose count stands at p: the bytes from element n on are the last ones of the payload
abbrev pub element_start : Element → ℕ → ℕ → List ℕ → ℕ
element_start e p n s = header_size + (length s - length (element_at e p n s))

-- the offset of the bytes under the role r of element n, of a list of elements e whose count stands at p; 0 where n is not below the count
unfoldable pub list_place : Element → ℕ → ℕ → ℕ → List ℕ → ℕ
list_place e p n r s =
    cond (ltb n (number_at 8 s p)) (place_in (element_start e p n s) (field_in r (source.Element e) (element_at e p n s)) (element_at e p n s)) 0

-- the same of what was found in the payload s; 0 where that is no list
abbrev pub place_at : Option Found → ℕ → ℕ → List ℕ → ℕ
place_at None n r s = 0
place_at (Some (Bytes p k)) n r s = 0
place_at (Some (Number k)) n r s = 0
place_at (Some (Xid p)) n r s = 0
place_at (Some (Listed e p)) n r s = list_place e p n r s

-- ---- the answers: offset and length of each part of a message; 0 and 0 where it is refused

-- the correlation starts at byte 8
abbrev pub correlation_place : Reading → ℕ
correlation_place (Ok a) = 8
correlation_place (Err e) = 0

-- and has 16 bytes
abbrev pub correlation_size : Reading → ℕ
correlation_size (Ok a) = 16
correlation_size (Err e) = 0

-- the offset of the bytes under the role r
abbrev pub part_place : Reading → ℕ → List ℕ → ℕ
part_place (Ok a) r m = place_in header_size (field_in r (source.Message a.kind) (payload_in m)) (payload_in m)
part_place (Err e) r m = 0

-- how many they are
abbrev pub part_size : Reading → ℕ → List ℕ → ℕ
part_size a r m = length (part_of a r m)

-- the offset of the bytes under the role r of element n of the list of role l
abbrev pub element_place : Reading → ℕ → ℕ → ℕ → List ℕ → ℕ
element_place (Ok a) l n r m = place_at (list_in l a.kind m) n r (payload_in m)
element_place (Err e) l n r m = 0

-- how many they are
abbrev pub element_size : Reading → ℕ → ℕ → ℕ → List ℕ → ℕ
element_size a l n r m = length (element_part a l n r m)

-- ---- the same as one answer

-- the place of a part, or why there is none
abbrev pub Placed : Type 0
Placed = Result Place Refused

-- offset and length, where an answer has a part; else its refusal
abbrev pub placed : {A : Type 0} → ℕ → ℕ → Result A Refused → Placed
placed p n (Ok x) = Ok (record { at = p; size = n })
placed p n (Err e) = Err e

-- of what was found in s, whose first byte has the offset b
abbrev pub placed_in : ℕ → Option Found → List ℕ → Placed
placed_in b g s = placed (place_in b g s) (length (content_bytes (content_at g s))) (content_part (content_at g s))

abbrev pub correlation_placed : Reading → Placed
correlation_placed a = placed (correlation_place a) (correlation_size a) a

abbrev pub part_placed : Reading → ℕ → List ℕ → Placed
part_placed a r m = placed (part_place a r m) (part_size a r m) (part_answer a r m)

abbrev pub element_placed : Reading → ℕ → ℕ → ℕ → List ℕ → Placed
element_placed a l n r m = placed (element_place a l n r m) (element_size a l n r m) (element_answer a l n r m)

-- the offset and the length of an answer, 0 beside a refusal
abbrev pub offset_of : Placed → ℕ
offset_of (Ok x) = x.at
offset_of (Err e) = 0

abbrev pub length_of : Placed → ℕ
length_of (Ok x) = x.size
length_of (Err e) = 0
