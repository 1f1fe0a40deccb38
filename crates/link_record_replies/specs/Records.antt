-- The reply to a received record: document 01's table of link replies, a line for each test, in the order for receiving.
-- It is made of what the record sees of the endpoint, the record's head and lengths alone: no byte of data is known here.
use Rattle.std.specs.Prelude.{Result, ℕ, ◌+◌, Bool, not, cond, ◌&&◌, ◌||◌, ltb, eqb}
use Rattle.link_rows.specs.Limits.{OPEN, CLOSE, CLOSEACK, REQUEST, TRANSMIT, short_length, long_length, row_length, most_credit}
use Rattle.link_rows.specs.Rows.{is_closed, is_open, is_pending, is_served, is_ours, row_for, are_spent, next_after}
use Rattle.link_rows.specs.Replies.{refuse, Reply, done}
use Rattle.link_rows.specs.declared.Row.{Row}
use Rattle.link_rows.specs.declared.Endpoint.{Endpoint}
use Rattle.link_rows.specs.declared.Record.{Record}
use Rattle.link_rows.specs.declared.Refusal.{Refusal}
use Rattle.link_rows.specs.declared.Refusal.TheVariants.{NotWhole, OutputShort, UnknownOpcode, UnknownIdentifier, CountNotPositive, OpenInOurHalf, OpenOnRowNotClosed, OnClosedRow, CloseackNotPending, AboveInput, CreditOverflow, QueueOverflow, OpenSessionsSpent}
use Rattle.link_replies.specs.Calls.{ready}
use Rattle.link_record_replies.specs.declared.Seen.{Seen}

-- the record's opcode
abbrev pub is : ℕ → Record → Bool
is op h = eqb h.opcode op

-- REQUEST and TRANSMIT add a count
abbrev pub has_count : Record → Bool
has_count h = is REQUEST h || is TRANSMIT h

-- the opcodes that there are
abbrev pub is_known : Record → Bool
is_known h = is OPEN h || is CLOSE h || is CLOSEACK h || has_count h

-- a signed count that is 0 or less
abbrev pub not_positive : ℕ → Bool
not_positive count = eqb count 0 || ltb most_credit count

-- the record's bytes
abbrev pub size_of : Record → ℕ
size_of h = cond (is TRANSMIT h) (long_length + h.count) (cond (is REQUEST h) long_length short_length)

-- what a record sees of the endpoint: its identifier's row, whether this end opens the identifier, the last session number given
abbrev pub seen_of : Endpoint → ℕ → Seen
seen_of e id = record { row = row_for e id; ours = is_ours e id; last = e.last }

-- a CLOSE on an open row is answered with a CLOSEACK
abbrev pub is_acked : Row → Record → Bool
is_acked row h = is CLOSE h && is_open row.status

-- the bytes of that CLOSEACK
abbrev pub ack_length : Row → Record → ℕ
ack_length row h = cond (is_acked row h) short_length 0

-- the session number that an accepted OPEN takes, after the last one given; other records open none
abbrev pub session_for : ℕ → Record → ℕ
session_for last h = cond (is OPEN h) (next_after last) 0

-- the head: 1 for the opcode, 20, 1 for the identifier, 21, 1 for the count, 22
unfoldable pub head_tests : {A : Type 0} → Record → Result A Refusal → Result A Refusal
head_tests h rest =
    refuse NotWhole (ltb h.available 1)
    (refuse UnknownOpcode (not (is_known h))
    (refuse NotWhole (ltb h.available short_length)
    (refuse UnknownIdentifier (not (is_served h.id))
    (refuse NotWhole (has_count h && ltb h.available long_length)
    (refuse CountNotPositive (has_count h && not_positive h.count)
    rest)))))

-- the row: 23 to 26 by its status and by whose half it is in
abbrev pub status_tests : {A : Type 0} → Seen → Record → Result A Refusal → Result A Refusal
status_tests seen h rest =
    refuse OpenInOurHalf (is OPEN h && seen.ours)
    (refuse OpenOnRowNotClosed (is OPEN h && not (is_closed seen.row.status))
    (refuse OnClosedRow ((is CLOSE h || has_count h) && is_closed seen.row.status)
    (refuse CloseackNotPending (is CLOSEACK h && not (is_pending seen.row.status))
    rest)))

-- 27 to 30 by the counts
abbrev pub count_tests : {A : Type 0} → Seen → Record → Result A Refusal → Result A Refusal
count_tests seen h rest =
    refuse AboveInput (is TRANSMIT h && ltb seen.row.input h.count)
    (refuse CreditOverflow (is REQUEST h && is_open seen.row.status && ltb most_credit (seen.row.output + h.count))
    (refuse QueueOverflow (is TRANSMIT h && is_open seen.row.status && ltb row_length (seen.row.unread + h.count))
    (refuse OpenSessionsSpent (is OPEN h && are_spent seen.last)
    rest)))

-- the row: 23 to 30
unfoldable pub row_tests : {A : Type 0} → Seen → Record → Result A Refusal → Result A Refusal
row_tests seen h rest = status_tests seen h (count_tests seen h rest)

-- 1 for the data, 13 for the CLOSEACK; else the record is accepted
unfoldable pub last_tests : Seen → Record → ℕ → Reply
last_tests seen h out_len =
    refuse NotWhole (is TRANSMIT h && ltb h.available (long_length + h.count))
    (refuse OutputShort (is_acked seen.row h && ltb out_len short_length)
    (done (session_for seen.last h) (size_of h) (ack_length seen.row h)))

-- the tests on a record after 2, 3 and 4, by what it sees
unfoldable pub seen_reply : Seen → Record → ℕ → Reply
seen_reply seen h out_len = head_tests h (row_tests seen h (last_tests seen h out_len))

-- and on a record that the endpoint receives
abbrev pub record_reply : Endpoint → Record → ℕ → Reply
record_reply e h out_len = seen_reply (seen_of e h.id) h out_len

-- a single receive
unfoldable pub receive_reply : Endpoint → ℕ → Record → ℕ → Reply
receive_reply e store_len h out_len = ready e store_len (record_reply e h out_len)
