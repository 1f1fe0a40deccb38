-- What the calls on an accepted message hand back are the values of the message that the bytes hold, for every role and every element.
use Prim.Native.Nat.{ℕ}
use mathlib.Core.Path.{◌≡◌, refl, sym, ap, ◌∙◌, subst}
use mathlib.Core.List.{List, []}
use lib.ListN.{length}
use Rattle.wire.specs.Reading.{read_fields}
use Rattle.wire.specs.Replies.{number}
use Rattle.wire.specs.declared.Fault.TheVariants.{NoElement}
use Rattle.std.specs.Prelude.{Ok, Err}
use Rattle.wire.specs.declared.values.XidNumber.{XidNumber}
use Rattle.wire.proofs.Ends.{end_accepted}
use Rattle.message_layout.specs.Roles.{ProtocolVersions, Xid}
use Rattle.message_layout.specs.Table.{entries_of, entries_from, layout}
use Rattle.message_layout.specs.Message.{type_in, payload_in, message_in}
use Rattle.message_read.specs.Reading.{accepted, reading}
use Rattle.message_read.proofs.Exact.{Passed, accepted_passed}
use Rattle.message_fields.specs.Contents.{Content, content_bytes, content_reply, content_number, content_xid, content_count, no_element}
use Rattle.message_fields.specs.Fields.{held, correlation_part, part_of, part_number, number_answer, xid_answer}
use Rattle.message_lists.specs.Elements.{of_found, list_in, count_of, element_part, element_reply, element_value}
use Rattle.message_choice.specs.Choice.{chosen, offers_in}
use Rattle.message_agree.specs.Contents.{content_in, content_element, content_offers, offers_of}
use Rattle.message_agree.proofs.Found.{Agrees, sought-agrees}
use Rattle.message_agree.proofs.Listed.{element_content_lem}
use Rattle.message_agree.proofs.Offers.{offers_content, no_offers}

-- ---- a message m that is accepted at an agreed version v

module _ (v : ℕ) (m : List ℕ) (t n : ℕ) (h : reading v m ≡ Ok (accepted t n)) where
  abbrev s : List ℕ
  s = payload_in m

  -- its fields are accepted up to the end of the payload
  passed : Passed v m t n
  passed = accepted_passed v m t n h

  read : read_fields (layout (type_in m)) s (Ok 0) ≡ Ok (length s)
  read = (end_accepted s _ passed.fields.0 passed.fields.1).0

  -- what is found by a role has the content that the message has under that role
  role_agrees : (r : ℕ) → Agrees s (list_in r t m) (content_in r (message_in m))
  unfolding entries_from layout content_in
  role_agrees r =
      subst (λ (u : ℕ). Agrees s (list_in r u m) (content_in r (message_in m))) passed.kind (sought-agrees r (entries_of (type_in m)) s 0 (length s) read)

  held-agrees : (r : ℕ) → held r t m ≡ content_in r (message_in m)
  held-agrees r = (role_agrees r).0

  -- the correlation that is handed back is the message's
  pub correlation_agrees : correlation_part (reading v m) m ≡ (message_in m).correlation
  correlation_agrees = rw h refl

  -- the bytes that are handed back for a role are those of what the message holds under it
  pub part-agrees : (r : ℕ) → part_of (reading v m) r m ≡ content_bytes (content_in r (message_in m))
  part-agrees r = rw h (ap content_bytes (held-agrees r))

  -- the number beside them is 0 exactly where the message holds bytes under that role
  pub reply_agrees : (r : ℕ) → part_number (reading v m) r m ≡ content_reply (content_in r (message_in m))
  reply_agrees r = rw h (ap content_reply (held-agrees r))

  -- the number that is handed back for a role is the one that the message holds under it
  pub number-agrees : (r : ℕ) → number_answer (reading v m) r m ≡ content_number (content_in r (message_in m))
  number-agrees r = rw h (ap content_number (held-agrees r))

  -- the numbers of an xid that are handed back are those of the message's xid
  pub xid_agrees_lem : (x : XidNumber) → xid_answer (reading v m) x m ≡ content_xid x (content_in Xid (message_in m))
  xid_agrees_lem x = rw h (ap (content_xid x) (held-agrees Xid))

  -- the count that is handed back is the length of the message's list of role l
  pub count-agrees : (l : ℕ) → count_of (reading v m) l m ≡ content_count (content_in l (message_in m))
  count-agrees l = rw h (ap content_count (held-agrees l))

  -- an answer f for element i and role r is that of element i of the message's list, and d where it has no such element
  element_agrees : {B : Type 0} (d : B) (f : Content → B) (l i r : ℕ) → of_found d f (list_in l t m) i r s ≡ content_element d f i r (content_in l (message_in m))
  element_agrees d f l i r = let a = role_agrees l in element_content_lem d f (list_in l t m) i r s a.1 ∙ ap (content_element d f i r) a.0

  -- its bytes, or none
  pub element_part-agrees : (l i r : ℕ) → element_part (reading v m) l i r m ≡ content_element [] content_bytes i r (content_in l (message_in m))
  element_part-agrees l i r = rw h (element_agrees [] content_bytes l i r)

  -- the number beside them, or 49
  pub element_reply_agrees : (l i r : ℕ) → element_reply (reading v m) l i r m ≡ content_element (number NoElement) content_reply i r (content_in l (message_in m))
  element_reply_agrees l i r = rw h (element_agrees (number NoElement) content_reply l i r)

  -- its number, or 49
  pub element_number-agrees : (l i r : ℕ) → element_value (reading v m) l i r m ≡ content_element (Err no_element) content_number i r (content_in l (message_in m))
  element_number-agrees l i r = rw h (element_agrees (Err no_element) content_number l i r)

  -- the offers are the elements of the message's list of versions, so that the version chosen is the one that they give
  pub offers_agree : offers_in (reading v m) m ≡ offers_of (message_in m)
  unfolding entries_from
  offers_agree =
      let a = role_agrees ProtocolVersions in
      rw h (offers_content t s (Ok 0) a.1 ∙ ap content_offers a.0)

  pub choice_agrees : chosen (offers_in (reading v m) m) ≡ chosen (offers_of (message_in m))
  choice_agrees = ap chosen offers_agree

  -- no type but 7200 has any
  pub choice_none : (t ≡ 7200 → ⊥) → offers_in (reading v m) m ≡ []
  choice_none n = offers_agree ∙ no_offers (message_in m) (λ k. n (sym passed.kind ∙ k))
