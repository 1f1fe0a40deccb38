-- Each received record, accepted or refused, leaves an endpoint that keeps the row rules where it was given one; an accepted one
-- leaves it up.
use mathlib.Core.Path.{◌≡◌, refl}
use mathlib.Core.Bool.{Bool, true, false, cond, ◌||◌, or-true}
use mathlib.Core.List.{List}
use Prim.Native.Nat.{ℕ}
use borrow.Author.Tests.{ltb-false}
use lib.ListN.{length}
use Rattle.link_rows.specs.Limits.{OPEN, CLOSE, REQUEST, TRANSMIT}
use Rattle.link_rows.specs.Rows.{row_of, row_for, is_spent, with_row}
use Rattle.link_rows.specs.Rules.{Rules}
use Rattle.link_rows.specs.Replies.{takes_down, Reply}
use Rattle.link_rows.specs.declared.Row.{Row}
use Rattle.link_rows.specs.declared.Endpoint.{Endpoint}
use Rattle.link_rows.specs.declared.Record.{Record}
use Rattle.link_rows.proofs.Laws.{and_false, row_keeps_lem}
use Rattle.link_record_replies.specs.Records.{is, has_count, receive_reply, record_reply}
use Rattle.link_replies.proofs.Done.{Passed, ready_done}
use Rattle.link_record_replies.proofs.Done.{Received, record_done}
use Rattle.link_changes.specs.Changes.{opened, closed_row, credited_row, fed_row, downed}
use Rattle.link_changes.proofs.Kept.{RowKept, row_changed, row_opened, all_down, closed_kept, credited_kept, fed_kept}
use Rattle.link_bytes.specs.Records.{head_of}
use Rattle.link_receive.specs.Receive.{received_row, receive_endpoint, receiving}
use Rattle.std.specs.Prelude.{Ok, Err}
use Rattle.link_rows.specs.declared.Done.{Done}

-- the row of an accepted record other than OPEN keeps the rules, and its session
module _ (e : Endpoint) (h : Record) (k : Rules e ≡ true) (out_len : ℕ) {v : Done} (d : Received e h out_len v) where
  row : Bool → Bool → Row
  row p t = cond p (credited_row (row_for e h.id) h.count) (cond t (fed_row (row_for e h.id) h.count) (closed_row (row_for e h.id)))

  by_opcode : (p : Bool) → is REQUEST h ≡ p → (t : Bool) → is TRANSMIT h ≡ t → RowKept e.last e.down (row p t) × ((row p t).session ≡ (row_for e h.id).session)
  unfolding row
  by_opcode true p t q = (credited_kept e.last e.down (row_for e h.id) (row_keeps_lem e (row_of h.id) k) h.count (rw p at d.credit), refl)
  by_opcode false p true q =
      let c : (is CLOSE h || has_count h) ≡ true = rw (p, q) (or-true (is CLOSE h)) in
      (fed_kept e.last e.down (row_for e h.id) (row_keeps_lem e (row_of h.id) k) h.count (and_false _ _ d.alive c) (ltb-false _ _ (and_false _ _ d.granted q)), refl)
  by_opcode false p false q = (closed_kept e.last e.down (row_for e h.id) (row_keeps_lem e (row_of h.id) k), refl)

  received_kept : RowKept e.last e.down (received_row h (row_for e h.id)) × ((received_row h (row_for e h.id)).session ≡ (row_for e h.id).session)
  unfolding received_row row
  received_kept = by_opcode (is REQUEST h) refl (is TRANSMIT h) refl

-- whatever the reply
pub receive_keeps_by : (e : Endpoint) (store_len : ℕ) (h : Record) (out_len : ℕ) → Rules e ≡ true → Rules (receive_endpoint e h (receive_reply e store_len h out_len)) ≡ true
unfolding receive_endpoint receive_reply
receive_keeps_by e store_len h out_len k = go (receive_reply e store_len h out_len) refl
  where
    opening : (b : Bool) → is OPEN h ≡ b → {v : Done} → Passed e store_len → Received e h out_len v → Rules (cond b (opened e (row_of h.id)) (with_row e (row_of h.id) (received_row h (row_for e h.id)))) ≡ true
    opening true o p d = row_opened e (row_of h.id) (and_false (is OPEN h) (is_spent e) d.spare o) p.up k
    opening false o p d = let r = received_kept e h k out_len d in row_changed e (row_of h.id) (received_row h (row_for e h.id)) r.1 r.0 k

    down : (b : Bool) → Rules (cond b (downed e) e) ≡ true
    down true = all_down e k
    down false = k

    go : (r : Reply) → receive_reply e store_len h out_len ≡ r → Rules (receive_endpoint e h r) ≡ true
    go (Ok v) q = let p = ready_done e store_len (record_reply e h out_len) q in opening (is OPEN h) refl p.0 (record_done e h out_len p.1)
    go (Err why) q = down (takes_down why)

pub receive_keeps : (e : Endpoint) (store bytes out : List ℕ) → Rules e ≡ true → Rules (receiving e store bytes out).endpoint ≡ true
unfolding receiving
receive_keeps e store bytes out k = receive_keeps_by e (length store) (head_of bytes) (length out) k

-- an accepted record leaves the endpoint up
pub accepted_up : (e : Endpoint) (h : Record) (v : Done) → e.down ≡ false → (receive_endpoint e h (Ok v)).down ≡ false
unfolding receive_endpoint opened
accepted_up e h v d = go (is OPEN h)
  where
    go : (b : Bool) → (cond b (opened e (row_of h.id)) (with_row e (row_of h.id) (received_row h (row_for e h.id)))).down ≡ false
    go true = d
    go false = d
