-- What is claimed, on one page. Each record is a statement for all inputs; proofs/Proved proves it. The definitions named here are those that
-- the contracts of the calls cite, so that what is claimed of them holds of what runs: `reading` is what message_read::read answers, `writing` and
-- `written` what message_write::write answers and leaves in the output, for each of the eleven requests, and `step` a call of the link: what it answers and leaves.
use Rattle.std.specs.Prelude.{ℕ, ◌+◌, ◌≤◌, ◌<◌, ◌≡◌, ◌↔◌, Bool, true, false, not, cond, List, [], ◌++◌, Option, None, Some, Ok, Err, length, take, drop, eqb, ltb}
use Rattle.wire.specs.Numbers.{Bytes}
use Rattle.wire.specs.Reading.{refused, read_fields, read_end}
use Rattle.wire.specs.Replies.{number}
use Rattle.wire.specs.declared.Fault.{Fault}
use Rattle.wire.specs.declared.Fault.TheVariants as fault
use Rattle.wire.specs.declared.values.XidNumber.{XidNumber}
use Rattle.wire.specs.declared.values.XidNumber.TheVariants.{FormatId, GtridLength, BqualLength}
use Rattle.message_layout.specs.Roles.{Xid}
use Rattle.message_layout.specs.Table.{layout, versions_of, known, holds, served}
use Rattle.message_layout.specs.Message.{Message, ValidAt, payload, bytes_of_message, header_size, size_most, type_in, size_in, payload_in, message_in}
use Rattle.message_read.specs.Reading as reads
use Rattle.message_read.specs.Reading.{Reading, reading, type_of, used_of, place_of}
use Rattle.message_fields.specs.Contents.{has_bytes, has_number, is_xid, is_list, element_count, content_bytes, content_number, content_xid, no_element, content_count}
use Rattle.message_fields.specs.Fields.{correlation_part, part_of, part_number, part_bytes, correlation_answer, part_answer, number_answer, xid_answer, value_number, value_place}
use Rattle.message_lists.specs.Elements.{element_answer, count_of, element_part, element_reply, element_value}
use Rattle.message_choice.specs.Choice.{chosen, offers_in}
use Rattle.message_agree.specs.Contents.{content_in, content_element, offers_of}
use Rattle.message_places.specs.Places.{correlation_place, correlation_size, part_place, part_size, element_place, element_size}
use Rattle.message_lent.specs.Requests.{Request, message, RollbackRequest, rollback_request, RollbackReply, rollback_reply}
use Rattle.message_lent.specs.Lending.{RequestTyped, lend}
use Rattle.message_round_trip.specs.Every.{EveryWriter}
use Rattle.message_verdict.specs.Writing as write
use Rattle.message_verdict.specs.Writing.{agreeing, allowing, writing, written}
use Rattle.link_rows.specs.Limits.{OPEN, CLOSE, CLOSEACK, REQUEST, TRANSMIT, short_length, long_length, store_length}
use Rattle.link_rows.specs.Limits as limits
use Rattle.link_rows.specs.Rows.{fresh_endpoint, is_open, row_of, row_for, with_row}
use Rattle.link_rows.specs.Rules.{Rules}
use Rattle.link_rows.specs.Replies.{takes_down, number_of, session_of}
use Rattle.link_rows.specs.declared.Row.{Row}
use Rattle.link_rows.specs.declared.Endpoint.{Endpoint}
use Rattle.link_rows.specs.declared.Refusal.{Refusal}
use Rattle.link_rows.specs.declared.Refusal.TheVariants.{StoreLength}
use Rattle.link_rows.specs.Replies.{done}
use Rattle.link_replies.specs.Calls.{ready, open_reply, close_reply, request_reply, transmit_reply, read_reply}
use Rattle.link_record_replies.specs.Records.{receive_reply}
use Rattle.link_changes.specs.Changes.{opened, pending_row, closed_row, credited_row, fed_row, granted_row, spent_row, read_row, downed}
use Rattle.link_bytes.specs.Store.{zeros, clear_row, queue_data, take_front, front_of}
use Rattle.link_bytes.specs.Records.{head_of, data_of, short_record, long_record}
use Rattle.link_bytes.specs.Records as records
use Rattle.link_calls.specs.Back.{Begins, Counts, Carries}
use Rattle.link_calls.specs.Calls.{making, opening, closing, requesting, transmitting}
use Rattle.link_calls.specs.Calls as calls
use Rattle.link_receive.specs.Receive.{receiving}
use Rattle.link_receive.specs.Run.{Run, running, start_of}
use Rattle.link_run.specs.Singles.{singles, accepted_of, handled}
use Rattle.link_history.specs.Calls.{Call, Opening, Closing, Requesting, Transmitting, Receiving, Running, World, Step, step}
use Rattle.link_history.specs.Calls as list
use Rattle.link_history.specs.Statement.{number_in, NoCrossing}
use Rattle.boundary_message.specs.Answers.{no_xid_number, xid_asked}
use Rattle.boundary_link.specs.Mirror.{is_endpoint, endpoint_in, numbers_of, numbers_after}
use Rattle.boundary_link.specs.Promise as promise
use Rattle.cases.specs.Expected.{FourteenCases}
use Rattle.message_walk.specs.declared.Piece.{Piece}
use Rattle.message_walk.specs.declared.Position.{Position}
use Rattle.message_walk.specs.declared.Reason.{Reason}
use Rattle.message_walk.specs.Walk.{◌then◌, walk}
use Rattle.message_walk.specs.Reasons.{fault_of, reason_of}
use Rattle.message_walk.specs.Positions as steps
use Rattle.message_walk.specs.Positions.{start, step_at, walk_from}
use Rattle.message_explain.specs.Explaining.{explaining}
use Rattle.message_explain.specs.Truth.{name_of, True}
use Rattle.explain_line.specs.Parts.{reason_number, field_word}
use Rattle.message_layout.specs.declared.Source.{Source}
use Rattle.message_walk.specs.declared.FieldName.TheVariants as fields
use Rattle.message_walk.specs.Standing.{PieceOf}
use Rattle.text.specs.Text.{words}
use Rattle.claims.specs.Names.{called}

-- ---- demand 1: every call answers, and a refusal leaves what document 01 fixes

-- a message that is refused has no type, no length, no fields, no elements and no offers: every call gives the reading's number and place, with an empty
-- part or no value
pub record RefusedReading (v : ℕ) (m : List ℕ) (f : Fault) (p : ℕ) : Type 0 where
  pub type : type_of (reading v m) ≡ 0
  pub used : used_of (reading v m) ≡ 0
  pub place : place_of (reading v m) ≡ p
  pub correlation : correlation_part (reading v m) m ≡ []
  pub part : (r : ℕ) → (part_of (reading v m) r m ≡ []) × (part_number (reading v m) r m ≡ number f)
  pub element : (l n r : ℕ) → (element_part (reading v m) l n r m ≡ []) × (element_reply (reading v m) l n r m ≡ number f)
  pub number : (r : ℕ) → number_answer (reading v m) r m ≡ Err (refused f p)
  pub xid : (x : XidNumber) → xid_answer (reading v m) x m ≡ Err (refused f p)
  pub count : (l : ℕ) → count_of (reading v m) l m ≡ Err (refused f p)
  pub element_number : (l n r : ℕ) → element_value (reading v m) l n r m ≡ Err (refused f p)
  pub places : (r l n : ℕ) (x : XidNumber)
      → (value_place (number_answer (reading v m) r m) ≡ p)
      × (value_place (xid_answer (reading v m) x m) ≡ p)
      × (value_place (count_of (reading v m) l m) ≡ p)
      × (value_place (element_value (reading v m) l n r m) ≡ p)
  pub chosen : chosen (offers_in (reading v m) m) ≡ 0

-- after a writing that is refused the output is as it was, the length reported is 0, and the part has no bytes
pub record RefusedWriting (v : ℕ) (q : Request) (out : List ℕ) : Type 0 where
  pub output : written v q out ≡ out
  pub used : write.used_of (writing v q (length out)) ≡ 0
  pub part : write.part_of (writing v q (length out)) (written v q out) ≡ []

-- the output that a call is lent
abbrev pub lent_output : Call → List ℕ
lent_output (Opening id out) = out
lent_output (Closing id session out) = out
lent_output (Requesting id session amount out) = out
lent_output (Transmitting id session bytes out) = out
lent_output (list.Reading id session out) = out
lent_output (Receiving bytes out) = out
lent_output (Running n bytes out) = out

-- a call other than run
abbrev pub is_single : Call → Bool
is_single (Opening id out) = true
is_single (Closing id session out) = true
is_single (Requesting id session amount out) = true
is_single (Transmitting id session bytes out) = true
is_single (list.Reading id session out) = true
is_single (Receiving bytes out) = true
is_single (Running n bytes out) = false

-- a call of the link that is refused reports nothing else, writes nothing and leaves the store; numbers 1 to 14 leave the endpoint too, and
-- numbers 20 to 30 take it down
pub record RefusedCall (w : World) (c : Call) (why : Refusal) : Type 0 where
  pub session : session_of (step w c).answer.reply ≡ 0
  pub used : (step w c).answer.used ≡ 0
  pub written : (step w c).answer.written ≡ 0
  pub output : (step w c).out ≡ lent_output c
  pub store : (step w c).world.store ≡ w.store
  pub endpoint : (step w c).world.endpoint ≡ cond (takes_down why) (downed w.endpoint) w.endpoint

-- a call of run reports and leaves what the run r came to
pub record Reports (s : Step) (r : Run) : Type 0 where
  pub reply : s.answer.reply ≡ r.stop
  pub accepted : s.answer.accepted ≡ r.accepted
  pub used : s.answer.used ≡ r.used
  pub written : s.answer.written ≡ r.written
  pub world : s.world ≡ record { endpoint = r.endpoint; store = r.store }
  pub out : s.out ≡ r.out

-- demand 1. That every call ends and does nothing undefined, for all inputs, is what the prover shows of each function: no public call has a `requires`.
-- Making an endpoint over a store of another length is answered 2, leaves the store, and gives a fresh endpoint that is down. A run that is refused by 2, 3
-- or 4 changes nothing; for one that is stopped later see `run` below
pub record Total : Type 0 where
  pub reading : (v : ℕ) (m : List ℕ) (f : Fault) (p : ℕ) → reading v m ≡ Err (refused f p) → RefusedReading v m f p
  pub writing : (v : ℕ) (q : Request) (out : List ℕ) (f : Fault) → writing v q (length out) ≡ Err f → RefusedWriting v q out
  pub call : (w : World) (c : Call) (why : Refusal) → is_single c ≡ true → (step w c).answer.reply ≡ Err why → RefusedCall w c why
  pub make : (began : Bool) (store : List ℕ) → eqb (length store) store_length ≡ false
      → making began store ≡ record { reply = Err StoreLength; endpoint = downed (fresh_endpoint began); store = store; out = [] }
  pub run : (w : World) (n : ℕ) (bytes out : List ℕ) (why : Refusal) → ready w.endpoint (length w.store) (done 0 0 0) ≡ Err why
      → Reports (step w (Running n bytes out)) (start_of (Err why) w.endpoint w.store out)

-- ---- demand 2, messages

-- the reply to a reading and to a writing is the first test of document 01's order that refuses it, with that test's number; 44, 45 and 46 name the place at
-- which the fields from the front came to their first fault, which for a string is its size's (document 02's T-02, wire/specs/Reading)
pub record ExactTests (v : ℕ) : Type 0 where
  pub of_reading : (m : List ℕ) → reading v m
      ≡ reads.refuse (not (served v)) fault.NoSuchVersion
      (reads.refuse (ltb (length m) header_size) fault.NotWhole
      (reads.refuse (not (known (versions_of (type_in m)))) fault.UnknownType
      (reads.refuse (not (holds (versions_of (type_in m)) v)) fault.NotInVersion
      (reads.refuse (ltb size_most (size_in m)) fault.TooLarge
      (reads.refuse (ltb (length m) (header_size + size_in m)) fault.NotWhole
      (reads.answer (type_in m) (header_size + size_in m) (read_end (payload_in m) (read_fields (layout (type_in m)) (payload_in m) (Ok 0)))))))))
  pub of_writing : (q : Request) (room : ℕ) → writing v q room
      ≡ write.refuse (not (served v)) fault.NoSuchVersion
      (write.refuse (not (holds (versions_of q.kind) v)) fault.NotInVersion
      (write.refuse (not (agreeing q)) fault.ListsDiffer
      (write.refuse (not (allowing q)) fault.NotAllowed
      (write.refuse (ltb size_most (length (payload (message q)))) fault.TooLarge
      (write.refuse (ltb room (header_size + length (payload (message q)))) fault.OutputShort
      (Ok (header_size + length (payload (message q)))))))))

-- bytes m that are accepted at v hold the message x. What each call hands back is x's own value (`content_in r x` is what x holds under a role: its values
-- decide it, not its bytes)
pub record ExactValues (v : ℕ) (m : List ℕ) (x : Message) : Type 0 where
  pub correlation : correlation_part (reading v m) m ≡ x.correlation
  pub part : (r : ℕ) → part_of (reading v m) r m ≡ content_bytes (content_in r x)
  pub number : (r : ℕ) → number_answer (reading v m) r m ≡ content_number (content_in r x)
  pub xid : (k : XidNumber) → xid_answer (reading v m) k m ≡ content_xid k (content_in Xid x)
  pub count : (l : ℕ) → count_of (reading v m) l m ≡ content_count (content_in l x)
  pub element : (l i r : ℕ) → element_part (reading v m) l i r m ≡ content_element [] content_bytes i r (content_in l x)
  pub element_number : (l i r : ℕ) → element_value (reading v m) l i r m ≡ content_element (Err no_element) content_number i r (content_in l x)
  pub choice : chosen (offers_in (reading v m) m) ≡ chosen (offers_of x)

-- the number beside it: 0; 50 exactly where x has nothing of that kind under the role; 49 exactly where x has no such list, or the list no element i
pub record ExactNumbers (v : ℕ) (m : List ℕ) (x : Message) : Type 0 where
  pub part : (r : ℕ) → part_number (reading v m) r m ≡ cond (has_bytes (content_in r x)) 0 (number fault.NoField)
  pub of_number : (r : ℕ) → value_number (number_answer (reading v m) r m) ≡ cond (has_number (content_in r x)) 0 (number fault.NoField)
  pub xid : (k : XidNumber) → value_number (xid_answer (reading v m) k m) ≡ cond (is_xid (content_in Xid x)) 0 (number fault.NoField)
  pub count : (l : ℕ) → value_number (count_of (reading v m) l m) ≡ cond (is_list (content_in l x)) 0 (number fault.NoElement)
  pub element : (l i r : ℕ) → element_reply (reading v m) l i r m
      ≡ cond (ltb i (element_count (content_in l x))) (cond (content_element false has_bytes i r (content_in l x)) 0 (number fault.NoField)) (number fault.NoElement)
  pub element_number : (l i r : ℕ) → value_number (element_value (reading v m) l i r m)
      ≡ cond (ltb i (element_count (content_in l x))) (cond (content_element false has_number i r (content_in l x)) 0 (number fault.NoField)) (number fault.NoElement)

-- a part stands in the lent bytes at the place and with the length that are handed to C
pub record Stands (m : List ℕ) (place size : ℕ) (part : List ℕ) : Type 0 where
  pub there : take size (drop place m) ≡ part
  pub inside : place + size ≤ length m

-- the calls for parts answer bytes or a refusal; the bytes, the number and the place that are spoken of here are those of the answer
pub record AnsweredParts (v : ℕ) (m : List ℕ) : Type 0 where
  pub correlation : (part_bytes (correlation_answer (reading v m) m) ≡ correlation_part (reading v m) m)
      × (value_number (correlation_answer (reading v m) m) ≡ reads.number_of (reading v m))
      × (value_place (correlation_answer (reading v m) m) ≡ place_of (reading v m))
  pub part : (r : ℕ) → (part_bytes (part_answer (reading v m) r m) ≡ part_of (reading v m) r m)
      × (value_number (part_answer (reading v m) r m) ≡ part_number (reading v m) r m)
      × (value_place (part_answer (reading v m) r m) ≡ place_of (reading v m))
  pub element : (l i r : ℕ) → (part_bytes (element_answer (reading v m) l i r m) ≡ element_part (reading v m) l i r m)
      × (value_number (element_answer (reading v m) l i r m) ≡ element_reply (reading v m) l i r m)
      × (value_place (element_answer (reading v m) l i r m) ≡ place_of (reading v m))

-- of any bytes at any version: the correlation, the part under each role and the part under each role of each element stand where message_places says
pub record ExactPlaces (v : ℕ) (m : List ℕ) : Type 0 where
  pub correlation : Stands m (correlation_place (reading v m)) (correlation_size (reading v m)) (correlation_part (reading v m) m)
  pub part : (r : ℕ) → Stands m (part_place (reading v m) r m) (part_size (reading v m) r m) (part_of (reading v m) r m)
  pub element : (l i r : ℕ) → Stands m (element_place (reading v m) l i r m) (element_size (reading v m) l i r m) (element_part (reading v m) l i r m)

-- the n bytes that a writer wrote into out are accepted, with the values that were lent; the part handed back is the message, and no byte behind it was
-- touched
pub record ReadsBack (v : ℕ) (q : Request) (out : List ℕ) (n : ℕ) : Type 0 where
  pub accepted : reading v (written v q out) ≡ Ok (reads.accepted q.kind n)
  pub values : message_in (written v q out) ≡ message q
  pub part : write.part_of (writing v q (length out)) (written v q out) ≡ bytes_of_message (message q)
  pub behind : drop n (written v q out) ≡ drop n out

-- bytes m are accepted at version v, as a message of type t and length n, exactly when they are the encoding of a valid message and perhaps bytes
-- after it; accepted bytes encode again to themselves; a valid message is read back unchanged; what a writer accepted is read back; and what was
-- read is written again to the same bytes: for a message that is lent as it is, and for each of the eleven requests that a writer is lent
-- (message_round_trip/specs/Every). `Bytes` and `RequestTyped` say what the types of lent slices say; message_round_trip/src/writers promises the
-- writers' part of it without them
pub record ExactMessages (v : ℕ) : Type 0 where
  pub tests : ExactTests v
  pub accepted : (m : List ℕ) (t n : ℕ) → Bytes m
      → (reading v m ≡ Ok (reads.accepted t n))
      ↔ ((x : Message) × (rest : List ℕ) × ValidAt v x × (m ≡ bytes_of_message x ++ rest) × (t ≡ x.kind) × (n ≡ length (bytes_of_message x)))
  pub encoded : (m : List ℕ) (t n : ℕ) → Bytes m → reading v m ≡ Ok (reads.accepted t n) → bytes_of_message (message_in m) ≡ take n m
  pub read_back : (x : Message) (rest : List ℕ) → ValidAt v x → message_in (bytes_of_message x ++ rest) ≡ x
  pub values : (m : List ℕ) (t n : ℕ) → reading v m ≡ Ok (reads.accepted t n) → ExactValues v m (message_in m)
  pub numbers : (m : List ℕ) (t n : ℕ) → reading v m ≡ Ok (reads.accepted t n) → ExactNumbers v m (message_in m)
  pub parts : (m : List ℕ) → AnsweredParts v m
  pub places : (m : List ℕ) → ExactPlaces v m
  pub written_read : (q : Request) (out : List ℕ) (n : ℕ) → RequestTyped q → writing v q (length out) ≡ Ok n → ReadsBack v q out n
  pub read_written : (m : List ℕ) (t n : ℕ) → Bytes m → reading v m ≡ Ok (reads.accepted t n) → (out : List ℕ) → n ≤ length out
      → (writing v (lend (message_in m)) (length out) ≡ Ok n) × (written v (lend (message_in m)) out ≡ take n m ++ drop n out)
  pub writers : EveryWriter v

-- ---- demand 2, the link

-- the row of a record's identifier, and the endpoint with another row of an identifier
abbrev pub received : World → List ℕ → Row
received w bytes = row_for w.endpoint (head_of bytes).id

abbrev pub row_becomes : World → ℕ → Row → Endpoint
row_becomes w id row = with_row w.endpoint (row_of id) row

-- bytes at the front of an output, and no byte after them touched
abbrev pub put : List ℕ → List ℕ → List ℕ
put bytes out = records.written bytes out

-- what a call leaves: the endpoint, the store and the output
abbrev pub Leaves : Step → Endpoint → List ℕ → List ℕ → Type 0
Leaves r e store out = (r.world ≡ record { endpoint = e; store = store }) × (r.out ≡ out)

-- the reply to each call is the first test of document 01's table that refuses it, and else done
pub record ExactReplies (w : World) : Type 0 where
  pub opening : (id : ℕ) (out : List ℕ) → (step w (Opening id out)).answer.reply ≡ open_reply w.endpoint (length w.store) id (length out)
  pub close : (id s : ℕ) (out : List ℕ) → (step w (Closing id s out)).answer.reply ≡ close_reply w.endpoint (length w.store) id s (length out)
  pub request : (id s n : ℕ) (out : List ℕ) → (step w (Requesting id s n out)).answer.reply ≡ request_reply w.endpoint (length w.store) id s n (length out)
  pub transmit : (id s : ℕ) (bytes out : List ℕ)
      → (step w (Transmitting id s bytes out)).answer.reply ≡ transmit_reply w.endpoint (length w.store) id s (length bytes) (length out)
  pub read : (id s : ℕ) (out : List ℕ) → (step w (list.Reading id s out)).answer.reply ≡ read_reply w.endpoint (length w.store) id s (length out)
  pub receive : (bytes out : List ℕ) → (step w (Receiving bytes out)).answer.reply ≡ receive_reply w.endpoint (length w.store) (head_of bytes) (length out)

-- our calls, where they are answered 0: an opening takes the next session number, drops the row's bytes and writes OPEN; a close makes the row pending,
-- drops its bytes and writes CLOSE; a request raises the input count and writes REQUEST; a transmit lowers the output count and writes TRANSMIT
-- with its data; a read gives n bytes from the front of the unread ones and moves the rest there
pub record ExactCalls (w : World) : Type 0 where
  pub opening : (id : ℕ) (out : List ℕ) {a u n : ℕ} → (step w (Opening id out)).answer.reply ≡ done a u n
      → Leaves (step w (Opening id out)) (opened w.endpoint (row_of id)) (clear_row w.store (row_of id)) (put (short_record OPEN id) out)
  pub close : (id s : ℕ) (out : List ℕ) {a u n : ℕ} → (step w (Closing id s out)).answer.reply ≡ done a u n
      → Leaves (step w (Closing id s out)) (row_becomes w id (pending_row (row_for w.endpoint id))) (clear_row w.store (row_of id)) (put (short_record CLOSE id) out)
  pub request : (id s k : ℕ) (out : List ℕ) {a u n : ℕ} → (step w (Requesting id s k out)).answer.reply ≡ done a u n
      → Leaves (step w (Requesting id s k out)) (row_becomes w id (granted_row (row_for w.endpoint id) k)) w.store (put (long_record REQUEST id k) out)
  pub transmit : (id s : ℕ) (bytes out : List ℕ) {a u n : ℕ} → (step w (Transmitting id s bytes out)).answer.reply ≡ done a u n
      → Leaves (step w (Transmitting id s bytes out)) (row_becomes w id (spent_row (row_for w.endpoint id) (length bytes))) w.store (put (long_record TRANSMIT id (length bytes) ++ bytes) out)
  pub read : (id s : ℕ) (out : List ℕ) {a u n : ℕ} → (step w (list.Reading id s out)).answer.reply ≡ done a u n
      → Leaves (step w (list.Reading id s out)) (row_becomes w id (read_row (row_for w.endpoint id) n)) (take_front w.store (row_of id) (row_for w.endpoint id).unread n) (put (front_of w.store (row_of id) n) out)

-- records received, where they are answered 0, by their opcode: OPEN as our opening, with nothing written; CLOSE closes the row, and on an open one a
-- CLOSEACK is written; CLOSEACK closes it; REQUEST adds to an open row's output count; TRANSMIT lowers the input count, and an open row queues its data
pub record ExactRecords (w : World) (bytes out : List ℕ) : Type 0 where
  pub OPEN : {a u n : ℕ} → (step w (Receiving bytes out)).answer.reply ≡ done a u n → (head_of bytes).opcode ≡ limits.OPEN
      → Leaves (step w (Receiving bytes out)) (opened w.endpoint (row_of (head_of bytes).id)) (clear_row w.store (row_of (head_of bytes).id)) out
  pub CLOSE : {a u n : ℕ} → (step w (Receiving bytes out)).answer.reply ≡ done a u n → (head_of bytes).opcode ≡ limits.CLOSE
      → Leaves (step w (Receiving bytes out)) (row_becomes w (head_of bytes).id (closed_row (received w bytes))) w.store (cond (is_open (received w bytes).status) (put (short_record limits.CLOSEACK (head_of bytes).id) out) out)
  pub CLOSEACK : {a u n : ℕ} → (step w (Receiving bytes out)).answer.reply ≡ done a u n → (head_of bytes).opcode ≡ limits.CLOSEACK
      → Leaves (step w (Receiving bytes out)) (row_becomes w (head_of bytes).id (closed_row (received w bytes))) w.store out
  pub REQUEST : {a u n : ℕ} → (step w (Receiving bytes out)).answer.reply ≡ done a u n → (head_of bytes).opcode ≡ limits.REQUEST
      → Leaves (step w (Receiving bytes out)) (row_becomes w (head_of bytes).id (credited_row (received w bytes) (head_of bytes).count)) w.store out
  pub TRANSMIT : {a u n : ℕ} → (step w (Receiving bytes out)).answer.reply ≡ done a u n → (head_of bytes).opcode ≡ limits.TRANSMIT
      → Leaves (step w (Receiving bytes out)) (row_becomes w (head_of bytes).id (fed_row (received w bytes) (head_of bytes).count)) (cond (is_open (received w bytes).status) (queue_data w.store (row_of (head_of bytes).id) (received w bytes).unread (data_of (head_of bytes) bytes)) w.store) out

-- records read back: with anything behind it, the head, the length and the data that are found of a written record are what was written
pub record RecordsBack (id : ℕ) (behind : List ℕ) : Type 0 where
  pub OPEN : Begins (short_record limits.OPEN id ++ behind) limits.OPEN id short_length
  pub CLOSE : Begins (short_record limits.CLOSE id ++ behind) limits.CLOSE id short_length
  pub CLOSEACK : Begins (short_record limits.CLOSEACK id ++ behind) limits.CLOSEACK id short_length
  pub REQUEST : (n : ℕ) → n < 4294967296 → Counts (long_record limits.REQUEST id n ++ behind) limits.REQUEST id n long_length
  pub TRANSMIT : (bytes : List ℕ) → length bytes < 4294967296 → Carries ((long_record limits.TRANSMIT id (length bytes) ++ bytes) ++ behind) id bytes

-- so the other end finds in the output of our call, answered 0, the record of that identifier with the amount or the data, as long as is reported
pub record SentBack (w : World) (id : ℕ) (out : List ℕ) : Type 0 where
  pub opening : {a u n : ℕ} → (step w (Opening id out)).answer.reply ≡ done a u n → Begins (step w (Opening id out)).out OPEN id n
  pub close : (s : ℕ) {a u n : ℕ} → (step w (Closing id s out)).answer.reply ≡ done a u n → Begins (step w (Closing id s out)).out CLOSE id n
  pub request : (s k : ℕ) {a u n : ℕ} → (step w (Requesting id s k out)).answer.reply ≡ done a u n → Counts (step w (Requesting id s k out)).out REQUEST id k n
  pub transmit : (s : ℕ) (bytes : List ℕ) {a u n : ℕ} → (step w (Transmitting id s bytes out)).answer.reply ≡ done a u n
      → Carries (step w (Transmitting id s bytes out)).out id bytes × (n ≡ long_length + length bytes)

-- making an endpoint over a store of its length gives a fresh one and zeroes the store, and a fresh one is up and keeps the row rules; a run past 2, 3
-- and 4 is its single receives, one after another, and reports as many as were accepted; and every call keeps the row rules
pub record ExactLink (w : World) : Type 0 where
  pub make : (began : Bool) → length w.store ≡ store_length
      → making began w.store ≡ record { reply = done 0 0 0; endpoint = fresh_endpoint began; store = zeros (length w.store); out = [] }
  pub fresh : (began : Bool) → ((fresh_endpoint began).began ≡ began) × ((fresh_endpoint began).down ≡ false) × (Rules (fresh_endpoint began) ≡ true)
  pub replies : ExactReplies w
  pub calls : ExactCalls w
  pub records : (bytes out : List ℕ) → ExactRecords w bytes out
  pub records_back : (id : ℕ) → id < 65536 → (behind : List ℕ) → RecordsBack id behind
  pub sent_back : (id : ℕ) (out : List ℕ) → SentBack w id out
  pub run : (n : ℕ) (bytes out : List ℕ) → ready w.endpoint (length w.store) (done 0 0 0) ≡ done 0 0 0
      → Reports (step w (Running n bytes out)) (handled (start_of (done 0 0 0) w.endpoint w.store out) (singles n w.endpoint w.store bytes out))
  pub accepted : (n : ℕ) (bytes out : List ℕ)
      → (step w (Running n bytes out)).answer.accepted ≡ accepted_of (singles n w.endpoint w.store bytes out)
  pub rules : (c : Call) → Rules w.endpoint ≡ true → Rules (step w c).world.endpoint ≡ true

-- ---- what crosses to C

-- The exported message calls promise the definitions above themselves: number, type, length and place of `reading`; of a call for a number or a count
-- the number, value and place of its answer (`value_number`, `value_of`, `value_place`); of a call for a part its number and its place (`ExactPlaces`); the
-- version that is `chosen`; number and length of `writing`, and the output `written`. An xid's numbers are asked for by 0, 1 and 2
pub record ExactXid (a : Reading) (m : List ℕ) : Type 0 where
  pub format : xid_asked a 0 m ≡ xid_answer a FormatId m
  pub gtrid : xid_asked a 1 m ≡ xid_answer a GtridLength m
  pub bqual : xid_asked a 2 m ≡ xid_answer a BqualLength m
  pub other : (w : ℕ) → 2 < w → xid_asked a w m ≡ no_xid_number a

-- the endpoint that lent numbers stand for, with its store
abbrev pub standing : List ℕ → List ℕ → World
standing lent store = record { endpoint = endpoint_in lent; store = store }

-- an exported call of the link that returned n, and left these numbers, store and output, did what the step s says; the numbers are an endpoint's and stand
-- for its endpoint; where the numbers lent are no endpoint, it was answered 2 or 3 and changed nothing
pub record Crosses (s : Step) (lent lent_store lent_out : List ℕ) (n written' : ℕ) (numbers' store' out' : List ℕ) : Type 0 where
  pub number : n ≡ number_in s
  pub written : written' ≡ s.answer.written
  pub store : store' ≡ s.world.store
  pub out : out' ≡ s.out
  pub numbers : numbers' ≡ numbers_after lent s.world.endpoint
  pub endpoint : is_endpoint lent ≡ true → (is_endpoint numbers' ≡ true) × (endpoint_in numbers' ≡ s.world.endpoint)
  pub none : is_endpoint lent ≡ false → (n ≡ cond (eqb (length lent_store) store_length) 3 2) × (numbers' ≡ lent) × (store' ≡ lent_store) × (out' ≡ lent_out)

-- whatever keeps the promise of an exported call does what `step` says
pub record ExactBoundary (lent store out : List ℕ) (n written' : ℕ) (numbers' store' out' : List ℕ) : Type 0 where
  pub opening : (id session' : ℕ) → promise.Opens (opening (endpoint_in lent) store id out) lent n session' written' numbers' store' out'
      → let s : Step = step (standing lent store) (Opening id out) in
      Crosses s lent store out n written' numbers' store' out' × (session' ≡ session_of s.answer.reply)
  pub close : (id session : ℕ) → promise.Leaves (closing (endpoint_in lent) store id session out) lent n written' numbers' store' out'
      → Crosses (step (standing lent store) (Closing id session out)) lent store out n written' numbers' store' out'
  pub request : (id session amount : ℕ) → promise.Leaves (requesting (endpoint_in lent) store id session amount out) lent n written' numbers' store' out'
      → Crosses (step (standing lent store) (Requesting id session amount out)) lent store out n written' numbers' store' out'
  pub transmit : (id session : ℕ) (bytes : List ℕ) → promise.Leaves (transmitting (endpoint_in lent) store id session bytes out) lent n written' numbers' store' out'
      → Crosses (step (standing lent store) (Transmitting id session bytes out)) lent store out n written' numbers' store' out'
  pub read : (id session : ℕ) → promise.Leaves (calls.reading (endpoint_in lent) store id session out) lent n written' numbers' store' out'
      → Crosses (step (standing lent store) (list.Reading id session out)) lent store out n written' numbers' store' out'
  pub receive : (bytes : List ℕ) (session' used' : ℕ) → promise.Receives (receiving (endpoint_in lent) store bytes out) lent n session' used' written' numbers' store' out'
      → let s : Step = step (standing lent store) (Receiving bytes out) in
      Crosses s lent store out n written' numbers' store' out' × (session' ≡ session_of s.answer.reply) × (used' ≡ s.answer.used)
  pub run : (most : ℕ) (bytes : List ℕ) (accepted' used' : ℕ) → promise.Runs (running most (endpoint_in lent) store bytes out) lent n accepted' used' written' numbers' store' out'
      → let s : Step = step (standing lent store) (Running most bytes out) in
      Crosses s lent store out n written' numbers' store' out' × (accepted' ≡ s.answer.accepted) × (used' ≡ s.answer.used)
  -- making needs only room for an endpoint: with another count of numbers than 163 it is answered 2 or 3 and changes nothing
  pub make : (began : Bool) → promise.Makes began lent store n numbers' store'
      → (promise.is_whole lent ≡ true
      → (n ≡ number_of (making began store).reply)
      × (numbers' ≡ numbers_of (making began store).endpoint)
      × (is_endpoint numbers' ≡ true)
      × (endpoint_in numbers' ≡ (making began store).endpoint)
      × (store' ≡ (making began store).store))
      × (promise.is_whole lent ≡ false → (n ≡ cond (eqb (length store) store_length) 3 2) × (numbers' ≡ lent) × (store' ≡ store))

-- ---- document 02's T-08: why a message is refused

-- `explaining` is what message_explain::explain answers: its number is the reading's, and an accepted message has no reason. What it tells holds of the bytes
-- (message_explain/specs/Truth has what that is for each number; that every field before the one named is valid, and the place that reading answers, are
-- part of it), and nothing else does: a reason with another field, element or number is not true of them
pub record Explains (v : ℕ) (m : List ℕ) : Type 0 where
  pub number : reason_number (explaining v m) ≡ reads.number_of (reading v m)
  pub none : (t n : ℕ) → reading v m ≡ Ok (reads.accepted t n) → explaining v m ≡ None
  pub truth : True v m (explaining v m)
  pub only : (r : Option Reason) → True v m r → r ≡ explaining v m

-- the word that is put for a field of the walk, which stands where the table says, is document 003's (specs/Names); and the words before the payload
pub record Named : Type 0 where
  pub field : (s : List ℕ) (src : Source) (p : ℕ) (x : Piece) (o : PieceOf s src p x) → field_word (Some (name_of x)) ≡ called o
  pub header : field_word (Some fields.Header) ≡ words "header"
  pub payload : field_word (Some fields.Payload) ≡ words "payload"
  pub type : field_word (Some fields.HeaderType) ≡ words "header.type"
  pub size : field_word (Some fields.HeaderSize) ≡ words "header.size"

-- `step_at` is what message_walk's `Position::step` and the walker's step answer: from the start they go along the fields of the payload s one after the other, up
-- to the reason
pub record Walks (s : List ℕ) : Type 0 where
  pub start : (t : ℕ) → walk_from s (start t) ≡ walk s t
  pub field : (x next : Position) (y : Piece) → step_at s x ≡ steps.field y next → (walk_from s x ≡ y then walk_from s next) × (fault_of s y ≡ None)
  pub done : (x : Position) (r : Option Reason) → step_at s x ≡ steps.done r → reason_of s (walk_from s x) ≡ r

-- ---- document 02's T-03: the halves of an xid

-- the limit of each number of an xid: each half is at most 64; formatID has none
abbrev pub WithinLimit : XidNumber → ℕ → Type 0
WithinLimit FormatId n = Unit
WithinLimit GtridLength n = n ≤ 64
WithinLimit BqualLength n = n ≤ 64

-- a number of an xid that is handed back is within its limit, of any bytes at a version v; so are the two lengths that a writer was lent, where it answers 0
pub record Halves (v : ℕ) : Type 0 where
  pub read : (m : List ℕ) → Bytes m → (k : XidNumber) (n : ℕ) → xid_answer (reading v m) k m ≡ Ok n → WithinLimit k n
  pub request : (q : RollbackRequest) (room n : ℕ) → writing v (rollback_request q) room ≡ Ok n
      → WithinLimit GtridLength q.gtrid_length × WithinLimit BqualLength q.bqual_length
  pub reply : (q : RollbackReply) (room n : ℕ) → writing v (rollback_reply q) room ≡ Ok n
      → WithinLimit GtridLength q.gtrid_length × WithinLimit BqualLength q.bqual_length

-- ---- the three demands, the boundary, the fourteen cases, T-08 and T-03

-- demand 3 is link_history/specs/Statement's `NoCrossing`, in full: over every list of calls from a fresh endpoint, what `Holds` and `substitution` say there
pub record Claims : Type 0 where
  pub demand1 : Total
  pub demand2 : ((v : ℕ) → ExactMessages v) × ((w : World) → ExactLink w)
  pub demand3 : (began : Bool) (store : List ℕ) → length store ≡ store_length → NoCrossing began store
  pub xid : (a : Reading) (m : List ℕ) → ExactXid a m
  pub boundary : (lent store out : List ℕ) (n written' : ℕ) (numbers' store' out' : List ℕ) → ExactBoundary lent store out n written' numbers' store' out'
  pub cases : FourteenCases
  pub explained : (v : ℕ) (m : List ℕ) → Bytes m → Explains v m
  pub named : Named
  pub walked : (s : List ℕ) → Walks s
  pub halves : (v : ℕ) → Halves v
