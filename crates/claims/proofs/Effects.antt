-- Demand 2 of the link: what each call, and each record received, leaves where it is answered 0; and that the row rules are kept.
use Prim.Native.Nat.{ℕ, zero, suc}
use mathlib.Core.Path.{◌≡◌, refl}
use mathlib.Core.Bool.{Bool, true, false, cond}
use mathlib.Core.List.{List, []}
use lib.Dec.{leb}
use lib.ListN.{length, drop}
use native.Mathlib.Omega.{arith}
use borrow.Author.Tests.{eq-eqb}
use Rattle.link_rows.specs.Limits.{store_length}
use Rattle.link_rows.specs.Rows.{fresh_endpoint}
use Rattle.link_rows.specs.Replies.{on_done, refuse}
use Rattle.link_bytes.specs.Store.{zeros}
use Rattle.link_rows.specs.Rules.{Rules}
use Rattle.link_rows.specs.declared.Endpoint.{Endpoint}
use Rattle.std.specs.Prelude.{Ok, Err}
use Rattle.link_rows.specs.Replies.{Reply, done}
use Rattle.link_replies.specs.Calls.{ready, make_reply}
use Rattle.link_changes.proofs.Kept.{fresh-rules}
use Rattle.link_calls.specs.Calls as calls
use Rattle.link_calls.proofs.Kept.{open_keeps, close_keeps, request_keeps, transmit_keeps, read_keeps}
use Rattle.link_receive.specs.Receive.{received_row, receiving, receive_endpoint, receive_store, receive_out}
use Rattle.link_receive.specs.Run.{Run, next_of, took, stopped, run_from, running, start_of}
use Rattle.link_receive.proofs.Kept.{receive_keeps}
use Rattle.link_run.specs.Singles.{singles, handled}
use Rattle.link_run.proofs.Singles.{run_singles, run_accepted}
use Rattle.link_history.specs.Calls.{Call, Opening, Closing, Requesting, Transmitting, Reading, Receiving, Running, World, step}
use Rattle.claims.specs.Claims.{ExactReplies, ExactCalls, ExactRecords, ExactLink}
use Rattle.claims.proofs.Refusals.{reports}
use Rattle.claims.proofs.Records.{records_back_lem, sent_back_lem}

replies : (w : World) → ExactReplies w
unfolding calls.opening calls.closing calls.requesting calls.transmitting calls.reading receiving
replies w = record {
  opening = λ id out. refl;
  close = λ id s out. refl;
  request = λ id s n out. refl;
  transmit = λ id s bytes out. refl;
  read = λ id s out. refl;
  receive = λ bytes out. refl;
}

our_calls : (w : World) → ExactCalls w
unfolding calls.opening calls.open_endpoint calls.open_store calls.open_out calls.closing calls.close_endpoint calls.close_store calls.close_out calls.requesting calls.request_endpoint calls.request_out calls.transmitting calls.transmit_endpoint calls.transmit_out calls.reading calls.read_endpoint calls.read_store calls.read_out
our_calls w = record {
  opening = λ id out h. rw h ((refl, refl));
  close = λ id s out h. rw h ((refl, refl));
  request = λ id s n out h. rw h ((refl, refl));
  transmit = λ id s bytes out h. rw h ((refl, refl));
  read = λ id s out h. rw h ((refl, refl));
}

received_records : (w : World) (bytes out : List ℕ) → ExactRecords w bytes out
unfolding receiving receive_endpoint receive_store receive_out received_row
received_records w bytes out = record {
  OPEN = λ h o. rw (h, o) ((refl, refl));
  CLOSE = λ h o. rw (h, o) ((refl, refl));
  CLOSEACK = λ h o. rw (h, o) ((refl, refl));
  REQUEST = λ h o. rw (h, o) ((refl, refl));
  TRANSMIT = λ h o. rw (h, o) ((refl, refl));
}

-- a run keeps the row rules: each record does
run_from_keeps : (n : ℕ) (s : Run) (bytes : List ℕ) → Rules s.endpoint ≡ true → Rules (run_from n s bytes).endpoint ≡ true
unfolding run_from next_of took stopped
run_from_keeps zero s bytes h = h
run_from_keeps (suc n) s bytes h =
    ends (leb (length bytes) s.used) (goes (next_of s bytes).reply (run_from_keeps n (took s (next_of s bytes)) bytes kept))
  where
    kept : Rules (next_of s bytes).endpoint ≡ true
    kept = receive_keeps s.endpoint s.store (drop s.used bytes) (drop s.written s.out) h

    goes : (r : Reply) → Rules (run_from n (took s (next_of s bytes)) bytes).endpoint ≡ true
        → Rules (on_done r (run_from n (took s (next_of s bytes)) bytes) (stopped s (next_of s bytes))).endpoint ≡ true
    goes (Ok d) k = k
    goes (Err why) k = kept

    ends : (b : Bool)
        → Rules (on_done (next_of s bytes).reply (run_from n (took s (next_of s bytes)) bytes) (stopped s (next_of s bytes))).endpoint ≡ true
        → Rules (cond b s (on_done (next_of s bytes).reply (run_from n (took s (next_of s bytes)) bytes) (stopped s (next_of s bytes)))).endpoint ≡ true
    ends true k = h
    ends false k = k

run_keeps : (n : ℕ) (e : Endpoint) (store bytes out : List ℕ) → Rules e ≡ true → Rules (running n e store bytes out).endpoint ≡ true
unfolding running
run_keeps n e store bytes out h = go (ready e (length store) (done 0 0 0))
  where
    go : (r : Reply) → Rules (on_done r (run_from n (start_of r e store out) bytes) (start_of r e store out)).endpoint ≡ true
    go (Ok d) = run_from_keeps n (start_of (Ok d) e store out) bytes h
    go (Err why) = h

rules_kept : (w : World) (c : Call) → Rules w.endpoint ≡ true → Rules (step w c).world.endpoint ≡ true
rules_kept w (Opening id out) h = open_keeps w.endpoint h w.store id out
rules_kept w (Closing id s out) h = close_keeps w.endpoint h w.store id out s
rules_kept w (Requesting id s n out) h = request_keeps w.endpoint h w.store id out s n
rules_kept w (Transmitting id s bytes out) h = transmit_keeps w.endpoint h w.store id out s bytes
rules_kept w (Reading id s out) h = read_keeps w.endpoint h w.store id out s
rules_kept w (Receiving bytes out) h = receive_keeps w.endpoint w.store bytes out h
rules_kept w (Running n bytes out) h = run_keeps n w.endpoint w.store bytes out h

-- past 2, 3 and 4 a run is its single receives
run_is-singles : (n : ℕ) (e : Endpoint) (store bytes out : List ℕ) → ready e (length store) (done 0 0 0) ≡ done 0 0 0
    → running n e store bytes out ≡ handled (start_of (done 0 0 0) e store out) (singles n e store bytes out)
unfolding running
run_is-singles n e store bytes out h = rw h (run_singles n (start_of (done 0 0 0) e store out) bytes (omega arith))

-- a store of its length
made : (began : Bool) (store : List ℕ) → length store ≡ store_length
    → calls.making began store ≡ record { reply = done 0 0 0; endpoint = fresh_endpoint began; store = zeros (length store); out = [] }
unfolding calls.making calls.make_endpoint calls.make_store make_reply refuse
made began store h = rw (eq-eqb (length store) store_length h) refl

-- a fresh endpoint is up
fresh_up : (began : Bool) → ((fresh_endpoint began).began ≡ began) × ((fresh_endpoint began).down ≡ false) × (Rules (fresh_endpoint began) ≡ true)
unfolding fresh_endpoint
fresh_up began = (refl, refl, fresh-rules began)

pub exact_link : (w : World) → ExactLink w
exact_link w = record {
  make = λ began. made began w.store;
  fresh = fresh_up;
  replies = replies w;
  calls = our_calls w;
  records = received_records w;
  records_back = records_back_lem;
  sent_back = sent_back_lem w;
  run = λ n bytes out h. reports w n bytes out (run_is-singles n w.endpoint w.store bytes out h);
  accepted = λ n bytes out. run_accepted n w.endpoint w.store bytes out;
  rules = rules_kept w;
}
