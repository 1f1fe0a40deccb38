-- Computed histories, derived from document 01.
use mathlib.Core.Path.{◌≡◌, refl}
use mathlib.Core.Bool.{true, false}
use mathlib.Core.List.{List, [], ◌∷◌}
use Prim.Native.Nat.{ℕ}
use lib.ListN.{replicate}
use Rattle.link_rows.specs.Rows.{is_served, row_of, opens_half, next_after, fresh_endpoint}
use Rattle.link_rows.specs.Rules.{every, distinct, rules, Rules}
use Rattle.link_rows.specs.Replies.{number_of, refuse}
use Rattle.link_replies.specs.Calls.{make_reply, checked, ready, named, open_reply, close_reply, request_reply, transmit_reply, read_reply}
use Rattle.link_record_replies.specs.Records.{head_tests, row_tests, last_tests, seen_reply, receive_reply}
use Rattle.link_changes.specs.Changes.{opened, downed}
use Rattle.link_bytes.specs.Records.{head_of}
use Rattle.link_bytes.specs.Store.{clear_row, queue_data, take_front}
use Rattle.link_calls.specs.Calls.{make_endpoint, make_store, open_endpoint, open_store, open_out, close_endpoint, close_store, close_out, request_endpoint, request_out, transmit_endpoint, transmit_out, read_endpoint, read_store, read_out, making, opening, closing, requesting, transmitting, reading}
use Rattle.link_receive.specs.Receive.{received_row, receive_endpoint, receive_store, receive_out, receiving}
use Rattle.link_receive.specs.Run.{next_of, took, stopped, run_from, running}
use Rattle.link_history.specs.Calls.{Call, Opening, Closing, Requesting, Transmitting, Reading, Receiving, Running, World, step, start}
use Rattle.link_history.specs.Ledger.{blank, opens, closes, requests, reads, takes, transmits, grants, shuts, breaks, accepts, receives, runs, ledger}

-- the numbers of a list's answers
unfoldable numbers : World → List Call → List ℕ
numbers w [] = []
numbers w (c ∷ cs) = number_of (step w c).answer.reply ∷ numbers (step w c).world cs

-- case 14, at the end that did not begin the link: with three bytes unread come a CLOSE and an OPEN; then a read by the old session is
-- answered 8, and one by the new session gives no bytes
abbrev case14 : List Call
case14 =
    Running 9 (0xE1 ∷ 0x80 ∷ 0 ∷ []) []
    ∷ Requesting 0x8000 1 5 (replicate 7 0)
    ∷ Receiving (0xE5 ∷ 0x80 ∷ 0 ∷ 0 ∷ 0 ∷ 0 ∷ 3 ∷ 11 ∷ 12 ∷ 13 ∷ []) []
    ∷ Running 9 (0xE2 ∷ 0x80 ∷ 0 ∷ 0xE1 ∷ 0x80 ∷ 0 ∷ []) (0 ∷ 0 ∷ 0 ∷ [])
    ∷ Reading 0x8000 1 (0 ∷ 0 ∷ [])
    ∷ Reading 0x8000 2 (0 ∷ 0 ∷ [])
    ∷ []

answers14 : numbers (start false (replicate 32768 0)) case14 ≡ 0 ∷ 0 ∷ 0 ∷ 0 ∷ 8 ∷ 0 ∷ []
unfolding numbers start making make_reply make_endpoint make_store refuse fresh_endpoint checked ready named request_reply read_reply head_tests row_tests last_tests seen_reply receive_reply opened downed head_of clear_row queue_data take_front requesting request_endpoint request_out reading read_endpoint read_store read_out received_row receive_endpoint receive_store receive_out receiving next_of took stopped run_from running is_served row_of opens_half next_after every distinct rules Rules
answers14 = refl

-- five asked for, three accepted, one read, two dropped by our close, one discarded while pending
abbrev pending_list : List Call
pending_list =
    Running 9 (0xE1 ∷ 0x80 ∷ 0 ∷ []) []
    ∷ Requesting 0x8000 1 5 (replicate 7 0)
    ∷ Receiving (0xE5 ∷ 0x80 ∷ 0 ∷ 0 ∷ 0 ∷ 0 ∷ 3 ∷ 11 ∷ 12 ∷ 13 ∷ []) []
    ∷ Reading 0x8000 1 (0 ∷ [])
    ∷ Closing 0x8000 1 (0 ∷ 0 ∷ 0 ∷ [])
    ∷ Running 9 (0xE5 ∷ 0x80 ∷ 0 ∷ 0 ∷ 0 ∷ 0 ∷ 1 ∷ 14 ∷ 0xE3 ∷ 0x80 ∷ 0 ∷ 0xE3 ∷ 0x80 ∷ 0 ∷ []) []
    ∷ []

-- the second CLOSEACK is refused, and takes the endpoint down
answers_pending : numbers (start false (replicate 32768 0)) pending_list ≡ 0 ∷ 0 ∷ 0 ∷ 0 ∷ 0 ∷ 26 ∷ []
unfolding numbers start making make_reply make_endpoint make_store refuse fresh_endpoint checked ready named request_reply read_reply close_reply head_tests row_tests last_tests seen_reply receive_reply opened downed head_of clear_row queue_data take_front requesting request_endpoint request_out reading read_endpoint read_store read_out closing close_endpoint close_store close_out received_row receive_endpoint receive_store receive_out receiving next_of took stopped run_from running is_served row_of opens_half next_after every distinct rules Rules
answers_pending = refl

ledger_pending : (ledger (start false (replicate 32768 0)) pending_list blank).account 1 ≡ record { accepted = 11 ∷ 12 ∷ 13 ∷ []; left = 11 ∷ []; dropped = 12 ∷ 13 ∷ []; unread = []; requested = 5; transmitted = 4; granted = 0; sent = 0 }
unfolding numbers start making make_reply make_endpoint make_store refuse fresh_endpoint checked ready named request_reply read_reply close_reply head_tests row_tests last_tests seen_reply receive_reply opened downed head_of clear_row queue_data take_front requesting request_endpoint request_out reading read_endpoint read_store read_out closing close_endpoint close_store close_out received_row receive_endpoint receive_store receive_out receiving next_of took stopped run_from running is_served row_of opens_half next_after every distinct rules Rules blank opens closes requests reads takes shuts breaks accepts receives runs ledger
ledger_pending = refl

-- five granted, three sent; a REQUEST of two after our close is accepted, and grants nothing
abbrev sending_list : List Call
sending_list =
    Running 9 (0xE1 ∷ 0x80 ∷ 0 ∷ 0xE4 ∷ 0x80 ∷ 0 ∷ 0 ∷ 0 ∷ 0 ∷ 5 ∷ []) []
    ∷ Transmitting 0x8000 1 (11 ∷ 12 ∷ 13 ∷ []) (replicate 10 0)
    ∷ Closing 0x8000 1 (0 ∷ 0 ∷ 0 ∷ [])
    ∷ Receiving (0xE4 ∷ 0x80 ∷ 0 ∷ 0 ∷ 0 ∷ 0 ∷ 2 ∷ []) []
    ∷ []

sending : (numbers (start false (replicate 32768 0)) sending_list ≡ 0 ∷ 0 ∷ 0 ∷ 0 ∷ []) × ((ledger (start false (replicate 32768 0)) sending_list blank).account 1 ≡ record { accepted = []; left = []; dropped = []; unread = []; requested = 0; transmitted = 0; granted = 5; sent = 3 })
unfolding numbers start making make_reply make_endpoint make_store refuse fresh_endpoint checked ready named transmit_reply close_reply head_tests row_tests last_tests seen_reply receive_reply opened downed head_of clear_row transmitting transmit_endpoint transmit_out closing close_endpoint close_store close_out received_row receive_endpoint receive_store receive_out receiving next_of took stopped run_from running is_served row_of opens_half next_after every distinct rules Rules blank opens closes transmits grants accepts receives runs ledger
sending = (refl, refl)

-- the end that began the link opens the high identifiers, and the other end the low ones
abbrev began_list : List Call
began_list =
    Opening 0x8000 (0 ∷ 0 ∷ 0 ∷ [])
    ∷ Opening 0 (0 ∷ 0 ∷ 0 ∷ [])
    ∷ Receiving (0xE1 ∷ 0 ∷ 0 ∷ []) []
    ∷ Receiving (0xE1 ∷ 0x80 ∷ 1 ∷ []) []
    ∷ []

answers_began : numbers (start true (replicate 32768 0)) began_list ≡ 0 ∷ 6 ∷ 0 ∷ 23 ∷ []
unfolding numbers start making make_reply make_endpoint make_store refuse fresh_endpoint checked ready open_reply head_tests row_tests last_tests seen_reply receive_reply opened downed head_of clear_row opening open_endpoint open_store open_out received_row receive_endpoint receive_store receive_out receiving is_served row_of opens_half next_after every distinct rules Rules
answers_began = refl
