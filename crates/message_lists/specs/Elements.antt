-- The lists of a message m that is read at an agreed version: their counts, and the fields of their elements.
use Rattle.std.specs.Prelude.{ℕ, zero, suc, ◌+◌, cond, List, [], drop, ltb, Option, None, Some, Result, Ok, Err}
use Rattle.wire.specs.Numbers.{number_at}
use Rattle.wire.specs.Layout.{Items}
use Rattle.wire.specs.Decoding.{after_items}
use Rattle.wire.specs.Replies.{number}
use Rattle.wire.specs.declared.Refused.{Refused}
use Rattle.wire.specs.declared.Fault.TheVariants.{NoElement}
use Rattle.message_layout.specs.Table.{items_of}
use Rattle.message_layout.specs.Message.{payload_in}
use Rattle.message_layout.specs.declared.Element.{Element}
use Rattle.message_layout.specs.declared.Source.TheVariants as source
use Rattle.message_read.specs.Reading.{Reading}
use Rattle.message_fields.specs.Contents.{Content, Value, Part, content_bytes, content_reply, content_part, content_number, content_count, no_element}
use Rattle.message_fields.specs.Fields.{field_in, content_from, held}
use Rattle.message_fields.specs.declared.Found.{Found}
use Rattle.message_fields.specs.declared.Found.TheVariants.{Bytes, Number, Xid, List as Listed}

-- ---- finding element n

-- the bytes from element n on, of elements that stand at the front of s: element n of s is element n - 1 of what follows the first one
unfoldable pub from_element : ℕ → Items → List ℕ → List ℕ
from_element zero is s = s
from_element (suc n) is s = from_element n is (drop (after_items is s 0) s)

-- the bytes from element n on, of a list of elements e whose count stands at p
abbrev pub element_at : Element → ℕ → ℕ → List ℕ → List ℕ
element_at e p n s = from_element n (items_of e) (drop (p + 8) s)

-- ---- a field of element n

-- what f gives of the field of role r of element n, of a list of elements e whose count stands at p; d where n is not below the count
unfoldable pub of_listed : {B : Type 0} → B → (Content → B) → Element → ℕ → ℕ → ℕ → List ℕ → B
of_listed d f e p n r s = cond (ltb n (number_at 8 s p)) (f (content_from r (source.Element e) (element_at e p n s))) d

-- the same of what was found in the payload s; d where that is no list
abbrev pub of_found : {B : Type 0} → B → (Content → B) → Option Found → ℕ → ℕ → List ℕ → B
of_found d f None n r s = d
of_found d f (Some (Bytes p k)) n r s = d
of_found d f (Some (Number k)) n r s = d
of_found d f (Some (Xid p)) n r s = d
of_found d f (Some (Listed e p)) n r s = of_listed d f e p n r s

-- the bytes from element n on, and what is found in them under the role r; 49 where there is no such element
abbrev pub element_sought : Option Found → ℕ → ℕ → List ℕ → Result (List ℕ × Option Found) Refused
element_sought None n r s = Err no_element
element_sought (Some (Bytes p k)) n r s = Err no_element
element_sought (Some (Number k)) n r s = Err no_element
element_sought (Some (Xid p)) n r s = Err no_element
element_sought (Some (Listed e p)) n r s =
    cond (ltb n (number_at 8 s p)) (Ok (element_at e p n s, field_in r (source.Element e) (element_at e p n s))) (Err no_element)

-- ---- the answers of a message: the list of role l; 49 where it has no such list or the list no element n; of a refused message the reading's
-- refusal

-- what is found under the role l in the payload of a message m of type t
abbrev pub list_in : ℕ → ℕ → List ℕ → Option Found
list_in l t m = field_in l (source.Message t) (payload_in m)

-- how many elements the list of role l has, or 49
abbrev pub count_of : Reading → ℕ → List ℕ → Value
count_of (Ok a) l m = content_count (held l a.kind m)
count_of (Err e) l m = Err e

-- the bytes under the role r of element n; 49; or 50 where it has no bytes under that role
abbrev pub element_answer : Reading → ℕ → ℕ → ℕ → List ℕ → Part
element_answer (Ok a) l n r m = of_found (Err no_element) content_part (list_in l a.kind m) n r (payload_in m)
element_answer (Err e) l n r m = Err e

-- the number under the role r of element n; 49; or 50 where it has no number under that role
abbrev pub element_value : Reading → ℕ → ℕ → ℕ → List ℕ → Value
element_value (Ok a) l n r m = of_found (Err no_element) content_number (list_in l a.kind m) n r (payload_in m)
element_value (Err e) l n r m = Err e

-- ---- a part as C has it: the bytes, which are none beside a refusal, and the number

-- the bytes under the role r of element n
abbrev pub element_part : Reading → ℕ → ℕ → ℕ → List ℕ → List ℕ
element_part (Ok a) l n r m = of_found [] content_bytes (list_in l a.kind m) n r (payload_in m)
element_part (Err e) l n r m = []

-- the number beside them: 0; 49; or 50 where element n has no bytes under that role; else the reading's
abbrev pub element_reply : Reading → ℕ → ℕ → ℕ → List ℕ → ℕ
element_reply (Ok a) l n r m = of_found (number NoElement) content_reply (list_in l a.kind m) n r (payload_in m)
element_reply (Err e) l n r m = number e.fault
