-- A call after a call: the numbers that a call leaves stand for the endpoint that its definition leaves, so calls made one after another
-- through the lent numbers are those of the definitions.
use Prim.Native.Nat.{ℕ, zero, suc}
use mathlib.Core.Path.{◌≡◌, refl, ◌∙◌}
use mathlib.Core.Bool.{Bool, true, false, cond}
use mathlib.Core.List.{List}
use lib.Dec.{leb}
use lib.ListN.{length, drop, length-set, length-map}
use Rattle.link_rows.specs.Limits.{OPEN}
use Rattle.link_rows.specs.Rows.{fresh_endpoint, row_of, row_for, with_row}
use Rattle.link_rows.specs.Replies.{Reply, done, on_done, takes_down}
use Rattle.link_rows.specs.declared.Row.{Row}
use Rattle.link_rows.specs.declared.Endpoint.{Endpoint}
use Rattle.link_rows.specs.declared.Record.{Record}
use Rattle.std.specs.Prelude.{Ok, Err}
use Rattle.link_replies.specs.Calls.{ready, make_reply, open_reply, close_reply, request_reply, transmit_reply, read_reply}
use Rattle.link_record_replies.specs.Records.{is, receive_reply}
use Rattle.link_changes.specs.Changes.{opened, closed_row, downed}
use Rattle.link_bytes.specs.Records.{head_of}
use Rattle.link_calls.specs.Calls.{make_endpoint, open_endpoint, close_endpoint, request_endpoint, transmit_endpoint, read_endpoint, making, opening, closing, requesting, transmitting, reading}
use Rattle.link_receive.specs.Receive.{received_row, receive_endpoint, receiving}
use Rattle.link_receive.specs.Run.{Run, next_of, took, stopped, run_from, start_of, running}
use Rattle.boundary_link.specs.Mirror.{row_in, rows_in, numbers_of, is_endpoint, as_endpoint, endpoint_in, numbers_after}
use Rattle.boundary_link.proofs.Fives.{fives-length}
use Rattle.boundary_link.proofs.Round.{numbers_endpoint, endpoint_back}

-- the numbers that stand after a call that leaves e are an endpoint's, and stand for e
abbrev pub Next : List ℕ → Endpoint → Type 0
Next lent e = (is_endpoint (numbers_after lent e) ≡ true) × (endpoint_in (numbers_after lent e) ≡ e)

-- every call
pub record AllNext (lent store out : List ℕ) : Type 0 where
  pub opened : (id : ℕ) → Next lent (opening (endpoint_in lent) store id out).endpoint
  pub closed : (id session : ℕ) → Next lent (closing (endpoint_in lent) store id session out).endpoint
  pub requested : (id session amount : ℕ) → Next lent (requesting (endpoint_in lent) store id session amount out).endpoint
  pub transmitted : (id session : ℕ) (bytes : List ℕ) → Next lent (transmitting (endpoint_in lent) store id session bytes out).endpoint
  pub read : (id session : ℕ) → Next lent (reading (endpoint_in lent) store id session out).endpoint
  pub received : (bytes : List ℕ) → Next lent (receiving (endpoint_in lent) store bytes out).endpoint
  pub ran : (n : ℕ) (bytes : List ℕ) → Next lent (running n (endpoint_in lent) store bytes out).endpoint

-- no call adds or removes a row

abbrev count : Endpoint → ℕ
count e = length e.rows

opened-count : (e : Endpoint) (r : ℕ) → count (opened e r) ≡ count e
unfolding opened
opened-count e r = length-set e.rows r _

downed-count : (e : Endpoint) → count (downed e) ≡ count e
unfolding downed
downed-count e = length-map e.rows closed_row

done_count : (r : Reply) (e e' : Endpoint) → count e' ≡ count e → count (on_done r e' e) ≡ count e
done_count (Ok d) e e' h = h
done_count (Err why) e e' h = refl

row_count_lem : (e : Endpoint) (r : ℕ) (row : Row) → count (with_row e r row) ≡ count e
row_count_lem e r row = length-set e.rows r row

receive_count : (e : Endpoint) (h : Record) (r : Reply) → count (receive_endpoint e h r) ≡ count e
unfolding receive_endpoint
receive_count e h (Ok d) = go (is OPEN h)
  where
    go : (b : Bool) → count (cond b (opened e (row_of h.id)) (with_row e (row_of h.id) (received_row h (row_for e h.id)))) ≡ count e
    go true = opened-count e (row_of h.id)
    go false = row_count_lem e (row_of h.id) (received_row h (row_for e h.id))
receive_count e h (Err why) = go (takes_down why)
  where
    go : (b : Bool) → count (cond b (downed e) e) ≡ count e
    go true = downed-count e
    go false = refl

receiving-count : (e : Endpoint) (store bytes out : List ℕ) → count (receiving e store bytes out).endpoint ≡ count e
unfolding receiving
receiving-count e store bytes out = receive_count e (head_of bytes) (receive_reply e (length store) (head_of bytes) (length out))

next-count : (s : Run) (bytes : List ℕ) → count (next_of s bytes).endpoint ≡ count s.endpoint
unfolding next_of
next-count s bytes = receiving-count s.endpoint s.store (drop s.used bytes) (drop s.written s.out)

-- a record of a run, where the rest of the run adds and removes no row
step_count : (n : ℕ) (s : Run) (bytes : List ℕ) → count (run_from n (took s (next_of s bytes)) bytes).endpoint ≡ count (next_of s bytes).endpoint → count (run_from (suc n) s bytes).endpoint ≡ count s.endpoint
unfolding run_from stopped
step_count n s bytes rest = at (leb (length bytes) s.used)
  where
    by : (r : Reply) → count (on_done r (run_from n (took s (next_of s bytes)) bytes) (stopped s (next_of s bytes))).endpoint ≡ count s.endpoint
    by (Ok d) = rest ∙ next-count s bytes
    by (Err why) = next-count s bytes

    at : (b : Bool) → count (cond b s (on_done (next_of s bytes).reply (run_from n (took s (next_of s bytes)) bytes) (stopped s (next_of s bytes)))).endpoint ≡ count s.endpoint
    at true = refl
    at false = by (next_of s bytes).reply

run_count : (n : ℕ) (s : Run) (bytes : List ℕ) → count (run_from n s bytes).endpoint ≡ count s.endpoint
unfolding run_from took
run_count zero s bytes = refl
run_count (suc n) s bytes = step_count n s bytes (run_count n (took s (next_of s bytes)) bytes)

running-count : (n : ℕ) (e : Endpoint) (store bytes out : List ℕ) → count (running n e store bytes out).endpoint ≡ count e
unfolding running
running-count n e store bytes out = go (ready e (length store) (done 0 0 0))
  where
    go : (r : Reply) → count (on_done r (run_from n (start_of r e store out) bytes) (start_of r e store out)).endpoint ≡ count e
    go (Ok d) = run_count n (start_of (Ok d) e store out) bytes
    go (Err why) = refl

-- what making leaves
pub made_next : (began : Bool) (store : List ℕ)
    → (is_endpoint (numbers_of (making began store).endpoint) ≡ true) × (endpoint_in (numbers_of (making began store).endpoint) ≡ (making began store).endpoint)
unfolding making make_endpoint fresh_endpoint
made_next began store =
    let c = made (make_reply (length store)) in
    (numbers_endpoint (making began store).endpoint c, endpoint_back (making began store).endpoint c)
  where
    made : (r : Reply) → count (make_endpoint began r) ≡ 32
    made (Ok d) = refl
    made (Err why) = downed-count (fresh_endpoint began)

module _ (lent : List ℕ) (h : is_endpoint lent ≡ true) where
  lent-count : count (endpoint_in lent) ≡ 32
  unfolding endpoint_in as_endpoint
  lent-count = rw h (length-map (rows_in lent) row_in ∙ fives-length 32 (drop 3 lent))

  stands : (e : Endpoint) → count e ≡ count (endpoint_in lent) → Next lent e
  unfolding numbers_after
  stands e c = (rw h (numbers_endpoint e (c ∙ lent-count)), rw h (endpoint_back e (c ∙ lent-count)))

  pub all_next : (store out : List ℕ) → AllNext lent store out
  unfolding opening closing requesting transmitting reading open_endpoint close_endpoint request_endpoint transmit_endpoint read_endpoint
  all_next store out =
      let e : Endpoint = endpoint_in lent in
      record {
        opened = λ id. stands _ (done_count (open_reply e (length store) id (length out)) e _ (opened-count e (row_of id)));
        closed = λ id session. stands _ (done_count (close_reply e (length store) id session (length out)) e _ (row_count_lem e (row_of id) _));
        requested = λ id session amount. stands _ (done_count (request_reply e (length store) id session amount (length out)) e _ (row_count_lem e (row_of id) _));
        transmitted = λ id session bytes. stands _ (done_count (transmit_reply e (length store) id session (length bytes) (length out)) e _ (row_count_lem e (row_of id) _));
        read = λ id session. stands _ (done_count (read_reply e (length store) id session (length out)) e _ (row_count_lem e (row_of id) _));
        received = λ bytes. stands _ (receiving-count e store bytes out);
        ran = λ n bytes. stands _ (running-count n e store bytes out);
      }
