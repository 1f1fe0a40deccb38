-- What a reply 0 to a received record says of the endpoint, the record's head and the lengths.
use mathlib.Core.Path.{◌≡◌, sym, ap}
use mathlib.Core.Bool.{true, false, not, ◌&&◌, ◌||◌}
use Prim.Native.Nat.{ℕ, ◌+◌, ◌≤◌}
use borrow.Author.Tests.{ltb-false, not-false}
use lib.Dec.{ltb}
use Rattle.link_rows.specs.Limits.{OPEN, CLOSE, CLOSEACK, REQUEST, TRANSMIT, short_length, long_length, row_length, most_credit}
use Rattle.link_rows.specs.Rows.{is_closed, is_open, is_pending, is_served, is_ours, row_for, is_spent}
use Rattle.link_rows.specs.Replies.{session_of, used_by, written_by}
use Rattle.link_rows.specs.declared.Endpoint.{Endpoint}
use Rattle.link_rows.specs.declared.Record.{Record}
use Rattle.link_rows.specs.declared.Refusal.{Refusal}
use Rattle.link_replies.proofs.Done.{passed, Passed, ready_past}
use Rattle.link_record_replies.specs.Records.{is, has_count, is_known, not_positive, size_of, is_acked, ack_length, session_for, head_tests, row_tests, last_tests, seen_reply, record_reply, receive_reply}
use Rattle.link_rows.specs.declared.Done.{Done}
use Rattle.std.specs.Prelude.{Result, Ok}

-- a record's tests, each as it stands in the table
pub record Received (e : Endpoint) (h : Record) (out_len : ℕ) (v : Done) : Type 0 where
  pub some : 1 ≤ h.available
  pub known : is_known h ≡ true
  pub three : short_length ≤ h.available
  pub served : is_served h.id ≡ true
  pub seven : (has_count h && ltb h.available long_length) ≡ false
  pub positive : (has_count h && not_positive h.count) ≡ false
  pub half : (is OPEN h && is_ours e h.id) ≡ false
  pub free : (is OPEN h && not (is_closed (row_for e h.id).status)) ≡ false
  pub alive : ((is CLOSE h || has_count h) && is_closed (row_for e h.id).status) ≡ false
  pub pending : (is CLOSEACK h && not (is_pending (row_for e h.id).status)) ≡ false
  pub granted : (is TRANSMIT h && ltb (row_for e h.id).input h.count) ≡ false
  pub credit : (is REQUEST h && is_open (row_for e h.id).status && ltb most_credit ((row_for e h.id).output + h.count)) ≡ false
  pub queue : (is TRANSMIT h && is_open (row_for e h.id).status && ltb row_length ((row_for e h.id).unread + h.count)) ≡ false
  pub spare : (is OPEN h && is_spent e) ≡ false
  pub there : (is TRANSMIT h && ltb h.available (long_length + h.count)) ≡ false
  pub room : (is_acked (row_for e h.id) h && ltb out_len short_length) ≡ false
  pub session : v.session ≡ session_for e.last h
  pub used : v.used ≡ size_of h
  pub written : v.written ≡ ack_length (row_for e h.id) h

pub head_done : {A : Type 0} (h : Record) (rest : Result A Refusal) {v : A} → head_tests h rest ≡ Ok v
    → (1 ≤ h.available) × (is_known h ≡ true) × (short_length ≤ h.available) × (is_served h.id ≡ true) × ((has_count h && ltb h.available long_length) ≡ false) × ((has_count h && not_positive h.count) ≡ false) × (rest ≡ Ok v)
unfolding head_tests
head_done h rest d =
    let p1 = passed _ _ _ d in
    let p20 = passed _ _ _ p1.1 in
    let p3 = passed _ _ _ p20.1 in
    let p21 = passed _ _ _ p3.1 in
    let p7 = passed _ _ _ p21.1 in
    let p22 = passed _ _ _ p7.1 in
    (ltb-false _ _ p1.0, not-false _ p20.0, ltb-false _ _ p3.0, not-false _ p21.0, p7.0, p22.0, p22.1)

pub record_done : (e : Endpoint) (h : Record) (out_len : ℕ) {v : Done} → record_reply e h out_len ≡ Ok v → Received e h out_len v
unfolding seen_reply row_tests last_tests
record_done e h out_len d =
    let g = head_done h _ d in
    let p23 = passed _ _ _ g.6 in
    let p24 = passed _ _ _ p23.1 in
    let p25 = passed _ _ _ p24.1 in
    let p26 = passed _ _ _ p25.1 in
    let p27 = passed _ _ _ p26.1 in
    let p28 = passed _ _ _ p27.1 in
    let p29 = passed _ _ _ p28.1 in
    let p30 = passed _ _ _ p29.1 in
    let p1 = passed _ _ _ p30.1 in
    let p13 = passed _ _ _ p1.1 in
    record {
      some = g.0;
      known = g.1;
      three = g.2;
      served = g.3;
      seven = g.4;
      positive = g.5;
      half = p23.0;
      free = p24.0;
      alive = p25.0;
      pending = p26.0;
      granted = p27.0;
      credit = p28.0;
      queue = p29.0;
      spare = p30.0;
      there = p1.0;
      room = p13.0;
      session = sym (ap session_of p13.1);
      used = sym (ap used_by p13.1);
      written = sym (ap written_by p13.1);
    }

-- a single receive where 2, 3 and 4 pass
pub ready_reply : (e : Endpoint) (store_len : ℕ) (h : Record) (out_len : ℕ) → Passed e store_len → receive_reply e store_len h out_len ≡ record_reply e h out_len
unfolding receive_reply
ready_reply e store_len h out_len p = ready_past e store_len (record_reply e h out_len) p
