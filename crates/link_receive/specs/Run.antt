-- The run call: single receives one after another, at most n, of the bytes that are lent.
use Rattle.std.specs.Prelude.{ℕ, zero, suc, ◌+◌, cond, List, ◌++◌, leb, length, take, drop}
use Rattle.link_rows.specs.Replies.{on_done, used_by, written_by, number_of, Reply, done}
use Rattle.link_rows.specs.declared.Endpoint.{Endpoint}
use Rattle.link_replies.specs.Calls.{ready}
use Rattle.link_changes.specs.Outcome.{Outcome}
use Rattle.link_receive.specs.Receive.{receiving}

-- where a run stands: the records accepted so far, their bytes, the bytes written, the reply that stopped it (done 0 0 0 where none
-- did), and the endpoint, store and output so far
pub record Run : Type 0 where
  pub accepted : ℕ
  pub used : ℕ
  pub written : ℕ
  pub stop : Reply
  pub endpoint : Endpoint
  pub store : List ℕ
  pub out : List ℕ

-- the number that stopped it, else 0
abbrev pub stop_number : Run → ℕ
stop_number s = number_of s.stop

-- the next record, by a single receive of the bytes that are left, with the output that is left
unfoldable pub next_of : Run → List ℕ → Outcome
next_of s bytes = receiving s.endpoint s.store (drop s.used bytes) (drop s.written s.out)

-- a record that is accepted is counted, with its bytes and the bytes written, which stand behind those written before
unfoldable pub took : Run → Outcome → Run
took s o = record {
  accepted = s.accepted + 1;
  used = s.used + used_by o.reply;
  written = s.written + written_by o.reply;
  stop = s.stop;
  endpoint = o.endpoint;
  store = o.store;
  out = take s.written s.out ++ o.out;
}

-- one that is not answered 0 stops the run; what was accepted before stands
unfoldable pub stopped : Run → Outcome → Run
stopped s o = record {
  accepted = s.accepted;
  used = s.used;
  written = s.written;
  stop = o.reply;
  endpoint = o.endpoint;
  store = o.store;
  out = take s.written s.out ++ o.out;
}

-- at most n records more, until the bytes end or one is not answered 0
unfoldable pub run_from : ℕ → Run → List ℕ → Run
run_from zero s bytes = s
run_from (suc n) s bytes =
    cond (leb (length bytes) s.used) s
    (on_done (next_of s bytes).reply (run_from n (took s (next_of s bytes)) bytes) (stopped s (next_of s bytes)))

-- a run before its first record
abbrev pub start_of : Reply → Endpoint → List ℕ → List ℕ → Run
start_of reply e store out = record { accepted = 0; used = 0; written = 0; stop = reply; endpoint = e; store = store; out = out }

-- a run: 2, 3 and 4 first, whatever n is; then the records
unfoldable pub running : ℕ → Endpoint → List ℕ → List ℕ → List ℕ → Run
running n e store bytes out =
    let reply : Reply = ready e (length store) (done 0 0 0) in
    on_done reply (run_from n (start_of reply e store out) bytes) (start_of reply e store out)
