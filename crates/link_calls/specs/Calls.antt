-- Our calls: what each leaves, by its reply. A refusal leaves all as it was.
use Rattle.std.specs.Prelude.{ℕ, Bool, List, [], ◌++◌, length}
use Rattle.link_rows.specs.Limits.{OPEN, CLOSE, REQUEST, TRANSMIT}
use Rattle.link_rows.specs.Rows.{fresh_endpoint, row_of, row_for, with_row}
use Rattle.link_rows.specs.Replies.{on_done, written_by, Reply}
use Rattle.link_rows.specs.declared.Endpoint.{Endpoint}
use Rattle.link_replies.specs.Calls.{make_reply, open_reply, close_reply, request_reply, transmit_reply, read_reply}
use Rattle.link_changes.specs.Changes.{opened, pending_row, granted_row, spent_row, read_row, downed}
use Rattle.link_changes.specs.Outcome.{Outcome}
use Rattle.link_bytes.specs.Records.{short_record, long_record, written}
use Rattle.link_bytes.specs.Store.{zeros, clear_row, take_front, front_of}

-- making: a fresh endpoint with a zeroed store; a store of another length stays as it is, and the fresh endpoint is down
unfoldable pub make_endpoint : Bool → Reply → Endpoint
make_endpoint began reply = on_done reply (fresh_endpoint began) (downed (fresh_endpoint began))

unfoldable pub make_store : Reply → List ℕ → List ℕ
make_store reply store = on_done reply (zeros (length store)) store

-- opening: the row is open with the next session, its unread bytes are dropped, and an OPEN is written
unfoldable pub open_endpoint : Endpoint → ℕ → Reply → Endpoint
open_endpoint e id reply = on_done reply (opened e (row_of id)) e

unfoldable pub open_store : ℕ → Reply → List ℕ → List ℕ
open_store id reply store = on_done reply (clear_row store (row_of id)) store

unfoldable pub open_out : ℕ → Reply → List ℕ → List ℕ
open_out id reply out = on_done reply (written (short_record OPEN id) out) out

-- close: the row is pending, its unread bytes are dropped, and a CLOSE is written
unfoldable pub close_endpoint : Endpoint → ℕ → Reply → Endpoint
close_endpoint e id reply = on_done reply (with_row e (row_of id) (pending_row (row_for e id))) e

unfoldable pub close_store : ℕ → Reply → List ℕ → List ℕ
close_store id reply store = on_done reply (clear_row store (row_of id)) store

unfoldable pub close_out : ℕ → Reply → List ℕ → List ℕ
close_out id reply out = on_done reply (written (short_record CLOSE id) out) out

-- request: the input count rises, and a REQUEST is written
unfoldable pub request_endpoint : Endpoint → ℕ → ℕ → Reply → Endpoint
request_endpoint e id amount reply = on_done reply (with_row e (row_of id) (granted_row (row_for e id) amount)) e

unfoldable pub request_out : ℕ → ℕ → Reply → List ℕ → List ℕ
request_out id amount reply out = on_done reply (written (long_record REQUEST id amount) out) out

-- transmit: the output count falls, and a TRANSMIT with its data is written
unfoldable pub transmit_endpoint : Endpoint → ℕ → ℕ → Reply → Endpoint
transmit_endpoint e id data_len reply = on_done reply (with_row e (row_of id) (spent_row (row_for e id) data_len)) e

unfoldable pub transmit_out : ℕ → List ℕ → Reply → List ℕ → List ℕ
transmit_out id bytes reply out = on_done reply (written (long_record TRANSMIT id (length bytes) ++ bytes) out) out

-- read: as many bytes as the reply says leave the front of the row's unread ones, for the output
unfoldable pub read_endpoint : Endpoint → ℕ → Reply → Endpoint
read_endpoint e id reply = on_done reply (with_row e (row_of id) (read_row (row_for e id) (written_by reply))) e

unfoldable pub read_store : Endpoint → ℕ → Reply → List ℕ → List ℕ
read_store e id reply store = on_done reply (take_front store (row_of id) (row_for e id).unread (written_by reply)) store

unfoldable pub read_out : ℕ → Reply → List ℕ → List ℕ → List ℕ
read_out id reply store out = on_done reply (written (front_of store (row_of id) (written_by reply)) out) out

-- the outcome of each call; making an endpoint has no output
unfoldable pub making : Bool → List ℕ → Outcome
making began store =
    let reply : Reply = make_reply (length store) in
    record { reply = reply; endpoint = make_endpoint began reply; store = make_store reply store; out = [] }

unfoldable pub opening : Endpoint → List ℕ → ℕ → List ℕ → Outcome
opening e store id out =
    let reply : Reply = open_reply e (length store) id (length out) in
    record { reply = reply; endpoint = open_endpoint e id reply; store = open_store id reply store; out = open_out id reply out }

unfoldable pub closing : Endpoint → List ℕ → ℕ → ℕ → List ℕ → Outcome
closing e store id session out =
    let reply : Reply = close_reply e (length store) id session (length out) in
    record { reply = reply; endpoint = close_endpoint e id reply; store = close_store id reply store; out = close_out id reply out }

unfoldable pub requesting : Endpoint → List ℕ → ℕ → ℕ → ℕ → List ℕ → Outcome
requesting e store id session amount out =
    let reply : Reply = request_reply e (length store) id session amount (length out) in
    record { reply = reply; endpoint = request_endpoint e id amount reply; store = store; out = request_out id amount reply out }

unfoldable pub transmitting : Endpoint → List ℕ → ℕ → ℕ → List ℕ → List ℕ → Outcome
transmitting e store id session bytes out =
    let reply : Reply = transmit_reply e (length store) id session (length bytes) (length out) in
    record { reply = reply; endpoint = transmit_endpoint e id (length bytes) reply; store = store; out = transmit_out id bytes reply out }

unfoldable pub reading : Endpoint → List ℕ → ℕ → ℕ → List ℕ → Outcome
reading e store id session out =
    let reply : Reply = read_reply e (length store) id session (length out) in
    record { reply = reply; endpoint = read_endpoint e id reply; store = read_store e id reply store; out = read_out id reply store out }
