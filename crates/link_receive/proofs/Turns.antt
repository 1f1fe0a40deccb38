-- A record's turn, by what it sees: what it needs of its row, and that it leaves what a single receive does.
use mathlib.Core.Path.{◌≡◌, refl, sym, ap, ◌∙◌}
use mathlib.Core.Bool.{Bool, true, false, cond, ◌&&◌}
use mathlib.Core.List.{List}
use Prim.Native.Nat.{ℕ, ◌+◌, ◌<◌}
use native.Mathlib.Omega.{arith}
use lib.Dec.{ltb}
use lib.ListN.{length}
use Rattle.link_rows.specs.Limits.{OPEN, CLOSEACK, TRANSMIT}
use Rattle.link_rows.specs.Rows.{is_open, is_served, opens_half, row_of, row_at, row_for, with_row, next_after, next_session}
use Rattle.link_rows.specs.Replies.{takes_down, refuse, Reply}
use Rattle.link_rows.specs.declared.Row.{Row}
use Rattle.link_rows.specs.declared.Endpoint.{Endpoint}
use Rattle.link_rows.specs.declared.Record.{Record}
use Rattle.link_rows.specs.declared.Refusal.{Refusal}
use Rattle.link_rows.specs.declared.Refusal.TheVariants.{StoreLength, RowRules, LinkDown}
use Rattle.link_rows.proofs.Laws.{served-row}
use Rattle.link_replies.specs.Calls.{checked, ready}
use Rattle.link_record_replies.specs.Records.{is, is_acked, seen_of, seen_reply, receive_reply, record_reply}
use Rattle.link_record_replies.specs.declared.Seen.{Seen}
use Rattle.link_replies.proofs.Done.{Passed}
use Rattle.link_record_replies.proofs.Done.{Received, ready_reply}
use Rattle.link_record_replies.proofs.Sight.{any_row_serves}
use Rattle.link_changes.specs.Changes.{opened, opened_row, downed}
use Rattle.link_changes.specs.Outcome.{Leaves}
use Rattle.link_bytes.specs.Records.{head_of, data_of, short_record, fitted}
use Rattle.link_bytes.specs.Store.{clear_row, queue_data}
use Rattle.link_receive.specs.Inner.{Fits, Ready, Place, placed}
use Rattle.link_receive.specs.Receive.{received_row, receive_endpoint, receive_store, receive_out, receiving}
use Rattle.link_receive.proofs.Taken.{receive_done, fits, acked_out}
use Rattle.std.specs.Prelude.{Result, Err, Ok, ⊤}
use Rattle.link_rows.specs.declared.Done.{Done}

-- an accepted record's row and number, stored, are the endpoint that the definition gives
placed-is : (e : Endpoint) (h : Record) (b : Bool) (row : Row) (last : ℕ) → last ≡ cond b (next_session e) e.last → row ≡ cond b (opened_row last) (received_row h (row_for e h.id))
    → placed e (row_of h.id) row last ≡ cond b (opened e (row_of h.id)) (with_row e (row_of h.id) (received_row h (row_for e h.id)))
unfolding opened
placed-is e h true row last l m = rw (m, l) refl
placed-is e h false row last l m = rw (m, l) refl

-- a record, by what it sees at its place in the endpoint
module _ (e : Endpoint) (store bytes out : List ℕ) {r : ℕ} {ours : Bool} {h : Record} (y : Ready e store) (p : h ≡ head_of bytes) (i : Place h.id r) (o : ours ≡ opens_half e.began h.id) (reply : Reply)
    (q : reply ≡ seen_reply (record { row = row_at e r; ours = ours; last = e.last }) h (length out)) where
  -- on an identifier that is served it sees what the endpoint has there
  sees : is_served h.id ≡ true → ◌≡◌ {A = Seen} (record { row = row_at e r; ours = ours; last = e.last }) (seen_of e h.id)
  sees t = let k = i.same t in rw (k, o) refl

  reply_is : reply ≡ receive_reply e (length store) h (length out)
  reply_is = q ∙ any_row_serves _ (seen_of e h.id) h (length out) sees ∙ sym (ready_reply e (length store) h (length out) (record { whole = y.whole; rules = y.rules; up = y.up }))

  pub refused_leaves : {why : Refusal} (e' : Endpoint) → reply ≡ Err why → e' ≡ cond (takes_down why) (downed e) e → Leaves (receiving e store bytes out) (record { reply = Err why; endpoint = e' }) store out
  unfolding receiving receive_endpoint receive_store receive_out
  refused_leaves {why} e' k d =
      let f : receive_reply e (length store) h (length out) ≡ Err why = sym reply_is ∙ k in
      record { reply = rw (← p) (sym f); endpoint = rw (← p, f) d; store = rw (← p, f) refl; out = rw (← p, f) refl }

  module _ {v : Done} (k : reply ≡ Ok v) where
    taken : Passed e (length store) × Received e h (length out) v
    taken = receive_done e (length store) h (length out) (sym reply_is ∙ k)

    there : r ≡ row_of h.id
    there = i.same taken.1.served

    pub row_fits : Fits (row_at e r) h
    row_fits = let t = there in rw t (fits taken.1)

    pub store_fits : (length store ≡ 32768) × ((row_of h.id < 32) × (((is TRANSMIT h && ltb (length bytes) (7 + h.count)) ≡ false) × Fits (row_at e r) h))
    unfolding head_of
    store_fits =
        let l : h.available ≡ length bytes = ap (λ (x : Record). x.available) p in
        (y.whole, (served-row h.id taken.1.served, (rw l at taken.1.there, row_fits)))

    pub done_leaves : (row : Row) (last : ℕ) (store' out' : List ℕ)
        → last ≡ cond (is OPEN h) (next_after e.last) e.last
        → row ≡ cond (is OPEN h) (opened_row last) (received_row h (row_at e r))
        → store' ≡ cond (is OPEN h) (clear_row store (row_of h.id)) (cond (is TRANSMIT h && is_open (row_at e r).status) (queue_data store (row_of h.id) (row_at e r).unread (data_of h bytes)) store)
        → out' ≡ cond (is_acked (row_at e r) h) (fitted (short_record CLOSEACK h.id) out) out
        → Leaves (receiving e store bytes out) (record { reply = Ok v; endpoint = placed e r row last }) store' out'
    unfolding receiving receive_endpoint receive_store receive_out
    done_leaves row last store' out' ql qr qs qo =
        let f : receive_reply e (length store) h (length out) ≡ Ok v = sym reply_is ∙ k in
        let t = there in
        let m : row ≡ cond (is OPEN h) (opened_row last) (received_row h (row_for e h.id)) = rw t at qr in
        record {
          reply = rw (← p) (sym f);
          endpoint = rw (← p, f, t) (placed-is e h (is OPEN h) row last ql m);
          store = rw (← p, f) (rw t at qs);
          out = rw (← p, f) (rw t at qo ∙ acked_out (is_acked (row_for e h.id) h) (short_record CLOSEACK h.id) out taken.1.room);
        }

-- the tests 2, 3 and 4 refuse whatever comes after them, and take nothing down
never_ready : (a b c : Bool) (rest : Reply) {why : Refusal} → refuse {A = ⊤} StoreLength a (refuse RowRules b (refuse LinkDown c (Ok tt))) ≡ Err why → (refuse StoreLength a (refuse RowRules b (refuse LinkDown c rest)) ≡ Err why) × (takes_down why ≡ false)
unfolding refuse
never_ready true b c rest {why} k = let z : why ≡ StoreLength = cc in (sym (ap Err z), rw z refl)
never_ready false true c rest {why} k = let z : why ≡ RowRules = cc in (sym (ap Err z), rw z refl)
never_ready false false true rest {why} k = let z : why ≡ LinkDown = cc in (sym (ap Err z), rw z refl)
never_ready false false false rest k = let z : ◌≡◌ {A = ℕ} 0 1 = cc in absurd (omega arith)

pub unready : (e : Endpoint) (n : ℕ) (rest : Reply) {why : Refusal} → ready {A = ⊤} e n (Ok tt) ≡ Err why → (ready e n rest ≡ Err why) × (takes_down why ≡ false)
unfolding ready checked
unready e n rest k = never_ready _ _ _ rest k

pub early : (e : Endpoint) (store bytes out : List ℕ) {r : Result ⊤ Refusal} {why : Refusal} → r ≡ Err why → r ≡ ready e (length store) (Ok tt) → Leaves (receiving e store bytes out) (record { reply = Err why; endpoint = e }) store out
unfolding receiving receive_reply receive_endpoint receive_store receive_out
early e store bytes out q k =
    let g = unready e (length store) (record_reply e (head_of bytes) (length out)) (sym k ∙ q) in
    let f = g.0 in
    let d = g.1 in
    record { reply = sym f; endpoint = rw (f, d) refl; store = rw f refl; out = rw f refl }
