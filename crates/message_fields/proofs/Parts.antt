-- A part as C has it follows from the answer: its bytes, its number, and its place.
use Rattle.std.proofs.Common.{◌≡◌, ℕ, List, refl, Ok, Err}
use Rattle.message_read.specs.Reading.{Reading, number_of, place_of}
use Rattle.message_fields.specs.Contents.{Content, lacking, bytes, numeral, xid, list, content_bytes, content_reply, content_part}
use Rattle.message_fields.specs.Fields.{held, correlation_answer, correlation_part, part_answer, part_of, part_number, part_bytes, value_number, value_place}

-- of a value
pub content_bytes_is : (c : Content) → part_bytes (content_part c) ≡ content_bytes c
content_bytes_is lacking = refl
content_bytes_is (bytes b) = refl
content_bytes_is (numeral n) = refl
content_bytes_is (xid x) = refl
content_bytes_is (list e vs) = refl

pub content_reply_is : (c : Content) → value_number (content_part c) ≡ content_reply c
content_reply_is lacking = refl
content_reply_is (bytes b) = refl
content_reply_is (numeral n) = refl
content_reply_is (xid x) = refl
content_reply_is (list e vs) = refl

pub content_place_is : (c : Content) → value_place (content_part c) ≡ 0
content_place_is lacking = refl
content_place_is (bytes b) = refl
content_place_is (numeral n) = refl
content_place_is (xid x) = refl
content_place_is (list e vs) = refl

-- of the bytes under a role
module _ (r : ℕ) (m : List ℕ) where
  pub part_is : (a : Reading) → part_bytes (part_answer a r m) ≡ part_of a r m
  part_is (Ok a) = content_bytes_is (held r a.kind m)
  part_is (Err e) = refl

  pub reply_is : (a : Reading) → value_number (part_answer a r m) ≡ part_number a r m
  reply_is (Ok a) = content_reply_is (held r a.kind m)
  reply_is (Err e) = refl

  pub place_is : (a : Reading) → value_place (part_answer a r m) ≡ place_of a
  place_is (Ok a) = content_place_is (held r a.kind m)
  place_is (Err e) = refl

-- of the correlation
module _ (m : List ℕ) where
  pub correlation_is : (a : Reading) → part_bytes (correlation_answer a m) ≡ correlation_part a m
  correlation_is (Ok a) = refl
  correlation_is (Err e) = refl

  pub correlation_reply_is : (a : Reading) → value_number (correlation_answer a m) ≡ number_of a
  correlation_reply_is (Ok a) = refl
  correlation_reply_is (Err e) = refl

  pub correlation_place_is : (a : Reading) → value_place (correlation_answer a m) ≡ place_of a
  correlation_place_is (Ok a) = refl
  correlation_place_is (Err e) = refl
