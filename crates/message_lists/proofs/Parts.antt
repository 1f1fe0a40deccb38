-- A part of an element as C has it follows from the answer: its bytes, its number, and its place.
use Rattle.std.proofs.Common.{◌≡◌, ℕ, List, [], refl, ◌∙◌, Bool, true, false, cond, Option, None, Some, Ok, Err}
use lib.Dec.{ltb}
use Rattle.wire.specs.Numbers.{number_at}
use Rattle.wire.specs.Replies.{number}
use Rattle.wire.specs.declared.Fault.TheVariants.{NoElement}
use Rattle.message_layout.specs.Message.{payload_in}
use Rattle.message_layout.specs.declared.Source.TheVariants as source
use Rattle.message_read.specs.Reading.{Reading, place_of}
use Rattle.message_fields.specs.Contents.{Content, Part, content_bytes, content_reply, content_part, no_element}
use Rattle.message_fields.specs.Fields.{content_from, part_bytes, value_number, value_place}
use Rattle.message_fields.specs.declared.Found.{Found}
use Rattle.message_fields.specs.declared.Found.TheVariants.{Bytes, Number, Xid, List as Listed}
use Rattle.message_fields.proofs.Parts.{content_bytes_is, content_reply_is, content_place_is}
use Rattle.message_lists.specs.Elements.{element_at, of_listed, of_found, list_in, element_answer, element_part, element_reply}

-- what holds of a value's part holds of a part of what was found: `look` sees in an answer what `see` sees in a value, and d where there is no element
module _ {B : Type 0} (look : Part → B) (see : Content → B) (d : B) (each : (c : Content) → look (content_part c) ≡ see c) (none : look (Err no_element) ≡ d)
    (n r : ℕ) (s : List ℕ) where
  found_is : (g : Option Found) → look (of_found (Err no_element) content_part g n r s) ≡ of_found d see g n r s
  unfolding of_listed
  found_is None = none
  found_is (Some (Bytes p k)) = none
  found_is (Some (Number k)) = none
  found_is (Some (Xid p)) = none
  found_is (Some (Listed e p)) = go (ltb n (number_at 8 s p))
    where
      go : (b : Bool) → look (cond b (content_part (content_from r (source.Element e) (element_at e p n s))) (Err no_element))
          ≡ cond b (see (content_from r (source.Element e) (element_at e p n s))) d
      go true = each (content_from r (source.Element e) (element_at e p n s))
      go false = none

-- what is 0 of each value is 0 of a part of what was found
same : (b : Bool) → ◌≡◌ {A = ℕ} (cond b 0 0) 0
same true = refl
same false = refl

same_found : (n r : ℕ) (s : List ℕ) (g : Option Found) → ◌≡◌ {A = ℕ} (of_found 0 (λ c. 0) g n r s) 0
unfolding of_listed
same_found n r s None = refl
same_found n r s (Some (Bytes p k)) = refl
same_found n r s (Some (Number k)) = refl
same_found n r s (Some (Xid p)) = refl
same_found n r s (Some (Listed e p)) = same (ltb n (number_at 8 s p))

module _ (l n r : ℕ) (m : List ℕ) where
  pub part_is : (a : Reading) → part_bytes (element_answer a l n r m) ≡ element_part a l n r m
  part_is (Ok a) = found_is part_bytes content_bytes [] content_bytes_is refl n r (payload_in m) (list_in l a.kind m)
  part_is (Err e) = refl

  pub reply_is : (a : Reading) → value_number (element_answer a l n r m) ≡ element_reply a l n r m
  reply_is (Ok a) = found_is value_number content_reply (number NoElement) content_reply_is refl n r (payload_in m) (list_in l a.kind m)
  reply_is (Err e) = refl

  pub place_is : (a : Reading) → value_place (element_answer a l n r m) ≡ place_of a
  place_is (Ok a) = found_is value_place (λ c. 0) 0 content_place_is refl n r (payload_in m) (list_in l a.kind m) ∙ same_found n r (payload_in m) (list_in l a.kind m)
  place_is (Err e) = refl
