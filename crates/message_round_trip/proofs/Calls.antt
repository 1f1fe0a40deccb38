-- The round trip of the calls: after a writer's success every field call and every element call, on what was written, hands back the value
-- that was lent, and the version chosen is that of the versions lent. `content_in r (message q)` is what the lent message holds under a role.
use Rattle.std.specs.Prelude.{Err, Ok}
use Prim.Native.Nat.{ℕ}
use mathlib.Core.Path.{◌≡◌, subst}
use mathlib.Core.List.{List, []}
use lib.ListN.{length}
use Rattle.wire.specs.Replies.{number}
use Rattle.wire.specs.declared.Fault.TheVariants.{NoElement}
use Rattle.wire.specs.declared.values.XidNumber.{XidNumber}
use Rattle.message_layout.specs.Roles.{Xid}
use Rattle.message_layout.specs.Message.{Message, message_in}
use Rattle.message_read.specs.Reading.{accepted, reading}
use Rattle.message_fields.specs.Contents.{content_bytes, content_reply, content_number, content_xid, content_count, no_element}
use Rattle.message_fields.specs.Fields.{correlation_part, part_of, part_number, number_answer, xid_answer}
use Rattle.message_lists.specs.Elements.{count_of, element_part, element_reply, element_value}
use Rattle.message_choice.specs.Choice.{chosen, offers_in}
use Rattle.message_lent.specs.Requests.{Request, message}
use Rattle.message_lent.specs.Lending.{RequestTyped}
use Rattle.message_verdict.specs.Writing.{writing, written}
use Rattle.message_agree.specs.Contents.{content_in, content_element, offers_of}
use Rattle.message_agree.proofs.Agree.{correlation_agrees, part-agrees, reply_agrees, number-agrees, xid_agrees_lem, count-agrees, element_part-agrees, element_reply_agrees, element_number-agrees, choice_agrees}
use Rattle.message_round_trip.proofs.RoundTrip.{written_read_lem}

-- the calls on m give back the message x
pub record Given (v : ℕ) (m : List ℕ) (t n : ℕ) (x : Message) : Type 0 where
  pub accepted : reading v m ≡ Ok (accepted t n)
  pub correlation : correlation_part (reading v m) m ≡ x.correlation
  pub bytes : (r : ℕ) → (part_of (reading v m) r m ≡ content_bytes (content_in r x)) × (part_number (reading v m) r m ≡ content_reply (content_in r x))
  pub value : (r : ℕ) → number_answer (reading v m) r m ≡ content_number (content_in r x)
  pub xid_value : (y : XidNumber) → xid_answer (reading v m) y m ≡ content_xid y (content_in Xid x)
  pub count : (l : ℕ) → count_of (reading v m) l m ≡ content_count (content_in l x)
  pub element_bytes : (l i r : ℕ)
      → (element_part (reading v m) l i r m ≡ content_element [] content_bytes i r (content_in l x))
      × (element_reply (reading v m) l i r m ≡ content_element (number NoElement) content_reply i r (content_in l x))
  pub element_number : (l i r : ℕ) → element_value (reading v m) l i r m ≡ content_element (Err no_element) content_number i r (content_in l x)
  pub choice : chosen (offers_in (reading v m) m) ≡ chosen (offers_of x)

-- on accepted bytes, the message that they hold
pub accepted_given : (v : ℕ) (m : List ℕ) (t n : ℕ) → reading v m ≡ Ok (accepted t n) → Given v m t n (message_in m)
accepted_given v m t n h =
    record {
      accepted = h;
      correlation = correlation_agrees v m t n h;
      bytes = λ r. (part-agrees v m t n h r, reply_agrees v m t n h r);
      value = number-agrees v m t n h;
      xid_value = xid_agrees_lem v m t n h;
      count = count-agrees v m t n h;
      element_bytes = λ l i r. (element_part-agrees v m t n h l i r, element_reply_agrees v m t n h l i r);
      element_number = element_number-agrees v m t n h;
      choice = choice_agrees v m t n h;
    }

-- on what was written, the message that was lent
pub written-given : (v : ℕ) (q : Request) (out : List ℕ) (n : ℕ) → RequestTyped q → writing v q (length out) ≡ Ok n
    → Given v (written v q out) q.kind n (message q)
written-given v q out n t h =
    let r = written_read_lem v q out n t h in
    subst (Given v (written v q out) q.kind n) r.1 (accepted_given v (written v q out) q.kind n r.0)
