-- A place as C has it follows from the answer: its number, its offset, its length, and the place that a refusal names.
use Rattle.std.proofs.Common.{◌≡◌, ℕ, List, [], length, refl, ◌∙◌, Bool, true, false, cond, Option, None, Some, Result, Ok, Err}
use lib.Dec.{ltb}
use Rattle.wire.specs.Numbers.{number_at}
use Rattle.wire.specs.declared.Refused.{Refused}
use Rattle.message_layout.specs.Message.{header_size, payload_in}
use Rattle.message_layout.specs.declared.Source.TheVariants as source
use Rattle.message_read.specs.Reading.{Reading, number_of, place_of}
use Rattle.message_fields.specs.Contents.{content_bytes, content_part, no_element}
use Rattle.message_fields.specs.Fields.{field_in, content_at, content_from, part_answer, part_number, value_number, value_place}
use Rattle.message_fields.specs.declared.Found.{Found}
use Rattle.message_fields.specs.declared.Found.TheVariants.{Bytes, Number, Xid, List as Listed}
use Rattle.message_fields.proofs.Parts as fields
use Rattle.message_lists.specs.Elements.{element_at, of_listed, of_found, list_in, element_answer, element_reply}
use Rattle.message_lists.proofs.Parts as lists
use Rattle.message_places.proofs.Steps.{at_element}
use Rattle.message_places.specs.Places.{element_start, place_in, list_place, place_at, placed, placed_in, offset_of, length_of, correlation_place, correlation_size, correlation_placed, part_place, part_size, part_placed, element_place, element_size, element_placed}

-- number and place are those of the answer
placed_number : {A : Type 0} (p n : ℕ) (x : Result A Refused) → value_number (placed p n x) ≡ value_number x
placed_number p n (Ok x) = refl
placed_number p n (Err e) = refl

placed_place : {A : Type 0} (p n : ℕ) (x : Result A Refused) → value_place (placed p n x) ≡ value_place x
placed_place p n (Ok x) = refl
placed_place p n (Err e) = refl

-- offset and length of what was found in s, whose first byte has the offset b: 0 where it has no bytes
found_offset : (b : ℕ) (g : Option Found) (s : List ℕ) → offset_of (placed_in b g s) ≡ place_in b g s
found_offset b None s = refl
found_offset b (Some (Bytes p n)) s = refl
found_offset b (Some (Number n)) s = refl
found_offset b (Some (Xid p)) s = refl
found_offset b (Some (Listed e p)) s = refl

found_length : (b : ℕ) (g : Option Found) (s : List ℕ) → length_of (placed_in b g s) ≡ length (content_bytes (content_at g s))
found_length b None s = refl
found_length b (Some (Bytes p n)) s = refl
found_length b (Some (Number n)) s = refl
found_length b (Some (Xid p)) s = refl
found_length b (Some (Listed e p)) s = refl

-- of a field of element n of that
element_offset : (n r : ℕ) (s : List ℕ) (g : Option Found) → offset_of (at_element g n r s) ≡ place_at g n r s
unfolding of_listed list_place
element_offset n r s None = refl
element_offset n r s (Some (Bytes p k)) = refl
element_offset n r s (Some (Number k)) = refl
element_offset n r s (Some (Xid p)) = refl
element_offset n r s (Some (Listed e p)) = go (ltb n (number_at 8 s p))
  where
    go : (b : Bool) → offset_of
        (placed (cond b (place_in (element_start e p n s) (field_in r (source.Element e) (element_at e p n s)) (element_at e p n s)) 0)
        (length (cond b (content_bytes (content_from r (source.Element e) (element_at e p n s))) []))
        (cond b (content_part (content_from r (source.Element e) (element_at e p n s))) (Err no_element)))
        ≡ cond b (place_in (element_start e p n s) (field_in r (source.Element e) (element_at e p n s)) (element_at e p n s)) 0
    go true = found_offset (element_start e p n s) (field_in r (source.Element e) (element_at e p n s)) (element_at e p n s)
    go false = refl

element_length : (n r : ℕ) (s : List ℕ) (g : Option Found) → length_of (at_element g n r s) ≡ length (of_found [] content_bytes g n r s)
unfolding of_listed list_place
element_length n r s None = refl
element_length n r s (Some (Bytes p k)) = refl
element_length n r s (Some (Number k)) = refl
element_length n r s (Some (Xid p)) = refl
element_length n r s (Some (Listed e p)) = go (ltb n (number_at 8 s p))
  where
    go : (b : Bool) → length_of
        (placed (cond b (place_in (element_start e p n s) (field_in r (source.Element e) (element_at e p n s)) (element_at e p n s)) 0)
        (length (cond b (content_bytes (content_from r (source.Element e) (element_at e p n s))) []))
        (cond b (content_part (content_from r (source.Element e) (element_at e p n s))) (Err no_element)))
        ≡ length (cond b (content_bytes (content_from r (source.Element e) (element_at e p n s))) [])
    go true = found_length (element_start e p n s) (field_in r (source.Element e) (element_at e p n s)) (element_at e p n s)
    go false = refl

-- of a message
module _ (m : List ℕ) where
  pub part_offset_is : (a : Reading) (r : ℕ) → offset_of (part_placed a r m) ≡ part_place a r m
  part_offset_is (Ok a) r = found_offset header_size (field_in r (source.Message a.kind) (payload_in m)) (payload_in m)
  part_offset_is (Err e) r = refl

  pub part_length_is : (a : Reading) (r : ℕ) → length_of (part_placed a r m) ≡ part_size a r m
  part_length_is (Ok a) r = found_length header_size (field_in r (source.Message a.kind) (payload_in m)) (payload_in m)
  part_length_is (Err e) r = refl

  pub element_offset_is : (a : Reading) (l n r : ℕ) → offset_of (element_placed a l n r m) ≡ element_place a l n r m
  element_offset_is (Ok a) l n r = element_offset n r (payload_in m) (list_in l a.kind m)
  element_offset_is (Err e) l n r = refl

  pub element_length_is : (a : Reading) (l n r : ℕ) → length_of (element_placed a l n r m) ≡ element_size a l n r m
  element_length_is (Ok a) l n r = element_length n r (payload_in m) (list_in l a.kind m)
  element_length_is (Err e) l n r = refl

module _ (m : List ℕ) (a : Reading) where
  pub part_number_is : (r : ℕ) → value_number (part_placed a r m) ≡ part_number a r m
  part_number_is r = placed_number (part_place a r m) (part_size a r m) (part_answer a r m) ∙ fields.reply_is r m a

  pub part_place_is : (r : ℕ) → value_place (part_placed a r m) ≡ place_of a
  part_place_is r = placed_place (part_place a r m) (part_size a r m) (part_answer a r m) ∙ fields.place_is r m a

  pub element_number_is : (l n r : ℕ) → value_number (element_placed a l n r m) ≡ element_reply a l n r m
  element_number_is l n r = placed_number (element_place a l n r m) (element_size a l n r m) (element_answer a l n r m) ∙ lists.reply_is l n r m a

  pub element_place_is : (l n r : ℕ) → value_place (element_placed a l n r m) ≡ place_of a
  element_place_is l n r = placed_place (element_place a l n r m) (element_size a l n r m) (element_answer a l n r m) ∙ lists.place_is l n r m a

-- of the correlation
pub correlation_number_is : (a : Reading) → value_number (correlation_placed a) ≡ number_of a
correlation_number_is (Ok x) = refl
correlation_number_is (Err e) = refl

pub correlation_offset_is : (a : Reading) → offset_of (correlation_placed a) ≡ correlation_place a
correlation_offset_is (Ok x) = refl
correlation_offset_is (Err e) = refl

pub correlation_length_is : (a : Reading) → length_of (correlation_placed a) ≡ correlation_size a
correlation_length_is (Ok x) = refl
correlation_length_is (Err e) = refl

pub correlation_place_is : (a : Reading) → value_place (correlation_placed a) ≡ place_of a
correlation_place_is (Ok x) = refl
correlation_place_is (Err e) = refl
