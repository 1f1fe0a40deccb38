-- The single receive: what it leaves, by its reply.
use Rattle.std.specs.Prelude.{ℕ, cond, ◌&&◌, List, length, Ok, Err}
use Rattle.link_rows.specs.Limits.{OPEN, CLOSEACK, REQUEST, TRANSMIT}
use Rattle.link_rows.specs.Rows.{is_open, row_of, row_for, with_row}
use Rattle.link_rows.specs.Replies.{on_done, takes_down, Reply}
use Rattle.link_rows.specs.declared.Row.{Row}
use Rattle.link_rows.specs.declared.Endpoint.{Endpoint}
use Rattle.link_rows.specs.declared.Record.{Record}
use Rattle.link_record_replies.specs.Records.{is, is_acked, receive_reply}
use Rattle.link_changes.specs.Changes.{opened, closed_row, credited_row, fed_row, downed}
use Rattle.link_changes.specs.Outcome.{Outcome}
use Rattle.link_bytes.specs.Records.{head_of, data_of, short_record, written}
use Rattle.link_bytes.specs.Store.{clear_row, queue_data}

-- the row after an accepted record other than OPEN: REQUEST, TRANSMIT, and else CLOSE or CLOSEACK
unfoldable pub received_row : Record → Row → Row
received_row h r =
    cond (is REQUEST h) (credited_row r h.count)
    (cond (is TRANSMIT h) (fed_row r h.count)
    (closed_row r))

-- the endpoint: a violation takes it down, any other refusal leaves it
unfoldable pub receive_endpoint : Endpoint → Record → Reply → Endpoint
receive_endpoint e h (Ok v) =
    cond (is OPEN h) (opened e (row_of h.id))
    (with_row e (row_of h.id) (received_row h (row_for e h.id)))
receive_endpoint e h (Err why) = cond (takes_down why) (downed e) e

-- the store: an accepted OPEN drops the old session's bytes; an open row queues the data of an accepted TRANSMIT
unfoldable pub receive_store : Endpoint → Record → Reply → List ℕ → List ℕ → List ℕ
receive_store e h reply bytes store =
    on_done reply
    (cond (is OPEN h) (clear_row store (row_of h.id))
    (cond (is TRANSMIT h && is_open (row_for e h.id).status) (queue_data store (row_of h.id) (row_for e h.id).unread (data_of h bytes))
    store))
    store

-- the output: an accepted CLOSE on an open row is answered with a CLOSEACK
unfoldable pub receive_out : Endpoint → Record → Reply → List ℕ → List ℕ
receive_out e h reply out = on_done reply (cond (is_acked (row_for e h.id) h) (written (short_record CLOSEACK h.id) out) out) out

-- the record at the front of the bytes: the reply to its head, and the endpoint, store and output that this reply leaves
unfoldable pub receiving : Endpoint → List ℕ → List ℕ → List ℕ → Outcome
receiving e store bytes out =
    let h : Record = head_of bytes in
    let reply : Reply = receive_reply e (length store) h (length out) in
    record { reply = reply; endpoint = receive_endpoint e h reply; store = receive_store e h reply bytes store; out = receive_out e h reply out }
