-- A received record leaves a store of the same length, and an accepted one leaves the tests 2, 3 and 4 passing.
use mathlib.Core.Path.{◌≡◌, refl, sym, ap, ◌∙◌}
use mathlib.Core.Bool.{Bool, true, false, cond, ◌&&◌}
use mathlib.Core.List.{List}
use Prim.Native.Nat.{ℕ, ◌+◌, ◌≤◌}
use native.Mathlib.Omega.{arith}
use borrow.Author.Tests.{ltb-false}
use lib.Dec.{ltb}
use lib.ListN.{length, drop, length-drop}
use lib.Seq.{length-take-le}
use Rattle.link_rows.specs.Limits.{OPEN, TRANSMIT}
use Rattle.link_rows.specs.Rows.{is_open, row_of, row_for}
use Rattle.link_rows.specs.declared.Endpoint.{Endpoint}
use Rattle.link_rows.specs.declared.Record.{Record}
use Rattle.link_rows.proofs.Laws.{and_left, and_false, served-row}
use Rattle.link_record_replies.specs.Records.{is, receive_reply}
use Rattle.link_replies.proofs.Done.{Passed}
use Rattle.link_record_replies.proofs.Done.{Received}
use Rattle.link_bytes.specs.Records.{head_of, data_of}
use Rattle.link_bytes.specs.Store.{clear_row, queue_data}
use Rattle.link_bytes.proofs.Lens.{clear_length, queue_length}
use Rattle.link_receive.specs.Inner.{Ready}
use Rattle.link_receive.specs.Receive.{receive_endpoint, receive_store, receiving}
use Rattle.link_receive.proofs.Taken.{receive_done}
use Rattle.link_receive.proofs.Kept.{receive_keeps, accepted_up}
use Rattle.link_rows.specs.Replies.{Reply}
use Rattle.std.specs.Prelude.{Ok, Err}
use Rattle.link_rows.specs.declared.Done.{Done}

-- the data of an accepted TRANSMIT is whole
data_length : (h : Record) (bytes : List ℕ) → h.available ≡ length bytes → 7 + h.count ≤ h.available → length (data_of h bytes) ≡ h.count
data_length h bytes a k = length-take-le h.count (drop 7 bytes) (omega (arith, length-drop 7 bytes))

module _ (e : Endpoint) (h : Record) (bytes store out : List ℕ) (a : h.available ≡ length bytes) where
  stored : (b t : Bool) → is OPEN h ≡ b → (is TRANSMIT h && is_open (row_for e h.id).status) ≡ t → {v : Done} → Passed e (length store) → Received e h (length out) v
      → length (cond b (clear_row store (row_of h.id)) (cond t (queue_data store (row_of h.id) (row_for e h.id).unread (data_of h bytes)) store)) ≡ length store
  stored true t o q p d = clear_length store (row_of h.id) (served-row h.id d.served) p.whole ∙ sym p.whole
  stored false true o q p d =
      let m : is TRANSMIT h ≡ true = and_left (is TRANSMIT h) (is_open (row_for e h.id).status) q in
      let n : length (data_of h bytes) ≡ h.count = data_length h bytes a (ltb-false _ _ (and_false (is TRANSMIT h) (ltb h.available (7 + h.count)) d.there m)) in
      let k : (row_for e h.id).unread + h.count ≤ 1024 = ltb-false 1024 ((row_for e h.id).unread + h.count) (and_false (is TRANSMIT h && is_open (row_for e h.id).status) (ltb 1024 ((row_for e h.id).unread + h.count)) d.queue q) in
      queue_length store (row_of h.id) (served-row h.id d.served) p.whole (row_for e h.id).unread (data_of h bytes) (omega arith) ∙ sym p.whole
  stored false false o q p d = refl

  store_long : length (receive_store e h (receive_reply e (length store) h (length out)) bytes store) ≡ length store
  unfolding receive_store
  store_long = go (receive_reply e (length store) h (length out)) refl
    where
      go : (r : Reply) → receive_reply e (length store) h (length out) ≡ r → length (receive_store e h r bytes store) ≡ length store
      go (Ok v) q = let d = receive_done e (length store) h (length out) q in stored (is OPEN h) (is TRANSMIT h && is_open (row_for e h.id).status) refl refl d.0 d.1
      go (Err why) q = refl

pub receive_long : (e : Endpoint) (store bytes out : List ℕ) → length (receiving e store bytes out).store ≡ length store
unfolding receiving head_of
receive_long e store bytes out = store_long e (head_of bytes) bytes store out refl

-- what run needs: after an accepted record the next one may be taken by step
pub ready_kept : (e : Endpoint) (store bytes out : List ℕ) {v : Done} → Ready e store → (receiving e store bytes out).reply ≡ Ok v → Ready (receiving e store bytes out).endpoint (receiving e store bytes out).store
unfolding receiving
ready_kept e store bytes out r q = record {
  whole = receive_long e store bytes out ∙ r.whole;
  rules = receive_keeps e store bytes out r.rules;
  up = ap (λ (x : Reply). (receive_endpoint e (head_of bytes) x).down) q ∙ accepted_up e (head_of bytes) _ r.up;
}
