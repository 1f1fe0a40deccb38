-- A call leaves an output of the same length, so that an entry's record has the length that its head says.
use mathlib.Core.Path.{◌≡◌, refl, sym, ap, ◌∙◌}
use mathlib.Core.Bool.{Bool, true, false, cond}
use mathlib.Core.List.{List, ◌++◌}
use Prim.Native.Nat.{ℕ, zero, suc, ◌+◌}
use native.Mathlib.Nat.{min-le_right}
use native.Mathlib.Omega.{arith}
use lib.Dec.{leb, eqb}
use lib.ListN.{length, take, drop, length-append, length-take, length-replicate, take-append-drop}
use Rattle.link_rows.specs.Limits.{OPEN, CLOSE, REQUEST, TRANSMIT}
use Rattle.link_rows.specs.Rows.{row_of, row_for}
use Rattle.link_rows.specs.Replies.{Reply, done, on_done}
use Rattle.std.specs.Prelude.{Ok, Err}
use Rattle.link_rows.specs.declared.Endpoint.{Endpoint}
use Rattle.link_replies.specs.Calls.{ready, open_reply, close_reply, request_reply, transmit_reply, read_reply}
use Rattle.link_replies.proofs.Done.{open_done, close_done, request_done, transmit_done, read_done}
use Rattle.link_bytes.specs.Records.{short_record, long_record}
use Rattle.link_bytes.specs.Store.{row_bytes, zeros, front_of}
use Rattle.link_bytes.proofs.Lent.{written-length}
use Rattle.link_calls.specs.Calls.{open_out, close_out, request_out, transmit_out, read_out, opening, closing, requesting, transmitting, reading}
use Rattle.link_calls.proofs.Decided.{by_reply}
use Rattle.link_receive.specs.Run.{Run, next_of, took, stopped, run_from, start_of, running}
use Rattle.link_receive.proofs.Runs.{out_long}
use Rattle.link_history.specs.Calls.{Call, World, step}
use Rattle.link_script.specs.Script.{Head, record_length, entry_of, data_of, call_of, head_bytes}
use Rattle.link_script.specs.Play.{performed, record_of}

module _ (e : Endpoint) (store : List ℕ) (id : ℕ) (out : List ℕ) where
  open_out_lem : length (opening e store id out).out ≡ length out
  unfolding opening open_out
  open_out_lem =
      by_reply (λ r. length (open_out id r out) ≡ length out) (open_reply e (length store) id (length out))
      (λ v q. written-length (short_record OPEN id) out (open_done e (length store) id (length out) q).room)
      (λ why. refl)

  module _ (session : ℕ) where
    close_out_lem : length (closing e store id session out).out ≡ length out
    unfolding closing close_out
    close_out_lem =
        by_reply (λ r. length (close_out id r out) ≡ length out) (close_reply e (length store) id session (length out))
        (λ v q. written-length (short_record CLOSE id) out (close_done e (length store) id session (length out) q).room)
        (λ why. refl)

    request_out_lem : (amount : ℕ) → length (requesting e store id session amount out).out ≡ length out
    unfolding requesting request_out
    request_out_lem amount =
        by_reply (λ r. length (request_out id amount r out) ≡ length out) (request_reply e (length store) id session amount (length out))
        (λ v q. written-length (long_record REQUEST id amount) out (request_done e (length store) id session amount (length out) q).room)
        (λ why. refl)

    transmit_out_lem : (bytes : List ℕ) → length (transmitting e store id session bytes out).out ≡ length out
    unfolding transmitting transmit_out
    transmit_out_lem bytes =
        let head = long_record TRANSMIT id (length bytes) in
        by_reply (λ r. length (transmit_out id bytes r out) ≡ length out) (transmit_reply e (length store) id session (length bytes) (length out))
        (λ v q. written-length (head ++ bytes) out (omega (arith, (transmit_done e (length store) id session (length bytes) (length out) q).room, length-append head bytes)))
        (λ why. refl)

    read_out_lem : length (reading e store id session out).out ≡ length out
    unfolding reading read_out
    read_out_lem =
        by_reply (λ r. length (read_out id r store out) ≡ length out) (read_reply e (length store) id session (length out))
        (λ v q. written-length (front_of store (row_of id) v.written) out (omega (arith, length-take v.written (row_bytes store (row_of id)), (read_done e (length store) id session (length out) q).written, min-le_right (row_for e id).unread (length out))))
        (λ why. refl)

-- ---- a run

-- an output whose rest was lent and is back
joined : (k : ℕ) (out z : List ℕ) → length z ≡ length (drop k out) → length (take k out ++ z) ≡ length out
joined k out z h = length-append (take k out) z ∙ ap (λ (n : ℕ). length (take k out) + n) h ∙ sym (length-append (take k out) (drop k out)) ∙ ap length (take-append-drop k out)

module _ (n : ℕ) (s : Run) (bytes : List ℕ) (rest : length (run_from n (took s (next_of s bytes)) bytes).out ≡ length (took s (next_of s bytes)).out) where
  back : length (take s.written s.out ++ (next_of s bytes).out) ≡ length s.out
  unfolding next_of
  back = joined s.written s.out (next_of s bytes).out (out_long s.endpoint s.store (drop s.used bytes) (drop s.written s.out))

  turn : (b : Bool) (r : Reply) → length (cond b s (on_done r (run_from n (took s (next_of s bytes)) bytes) (stopped s (next_of s bytes)))).out ≡ length s.out
  unfolding took stopped
  turn true r = refl
  turn false (Ok d) = rest ∙ back
  turn false (Err why) = back

run_from_out : (n : ℕ) (s : Run) (bytes : List ℕ) → length (run_from n s bytes).out ≡ length s.out
unfolding run_from
run_from_out zero s bytes = refl
run_from_out (suc n) s bytes = turn n s bytes (run_from_out n (took s (next_of s bytes)) bytes) (leb (length bytes) s.used) (next_of s bytes).reply

run_out : (n : ℕ) (e : Endpoint) (store bytes out : List ℕ) → length (running n e store bytes out).out ≡ length out
unfolding running
run_out n e store bytes out =
    by_reply (λ r. length (on_done r (run_from n (start_of r e store out) bytes) (start_of r e store out)).out ≡ length out) (ready e (length store) (done 0 0 0))
    (λ v q. run_from_out n (start_of (Ok v) e store out) bytes)
    (λ why. refl)

-- ---- an entry's call, and its record

either : (w : World) (out : List ℕ) (b : Bool) (c d : Call) → length (step w c).out ≡ length out → length (step w d).out ≡ length out → length (step w (cond b c d)).out ≡ length out
either w out true c d h k = h
either w out false c d h k = k

call_out : (w : World) (en : Head) (bytes out : List ℕ) → length (step w (call_of en bytes out)).out ≡ length out
unfolding call_of
call_out w en bytes out =
    let e = w.endpoint in
    let s = w.store in
    either w out (eqb en.kind 1) _ _ (open_out_lem e s en.id out)
    (either w out (eqb en.kind 2) _ _ (close_out_lem e s en.id out en.session)
    (either w out (eqb en.kind 3) _ _ (request_out_lem e s en.id out en.session en.amount)
    (either w out (eqb en.kind 4) _ _ (transmit_out_lem e s en.id out en.session bytes)
    (either w out (eqb en.kind 5) _ _ (read_out_lem e s en.id out en.session)
    (either w out (eqb en.kind 6) _ _ (out_long e s bytes out)
    (run_out en.amount e s bytes out))))))

pub record_long : (w : World) (bytes : List ℕ) → length (record_of w bytes) ≡ record_length + (entry_of bytes).room
record_long w bytes =
    let en = entry_of bytes in
    length-append (head_bytes en (performed w bytes).answer) (performed w bytes).out
    ∙ ap (λ (n : ℕ). record_length + n) (call_out w en (data_of en bytes) (zeros en.room) ∙ length-replicate {A = ℕ} en.room 0)
