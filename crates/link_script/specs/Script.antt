-- A script: calls in bytes, one entry after another. An entry is a head of 16 bytes and its data; numbers are big-endian.
--
--   byte 0        the kind: 1 opening, 2 close, 3 request, 4 transmit, 5 read, 6 single receive, 7 run
--   byte 1        not looked at
--   bytes 2, 3    the identifier
--   bytes 4-7     the session
--   bytes 8-11    the amount of a request, or the n of a run
--   bytes 12, 13  the length of the output that is lent; it is lent filled with zeros
--   bytes 14, 15  the length of the data
--   from byte 16  the data: that of a transmit, or the bytes that a receive or a run is lent
--
-- A call does not look at what it has no use for. The transcript has a record for each entry: a head of 20 bytes, then the call's
-- whole output.
--
--   byte 0        the kind
--   byte 1        the number of the reply; for a run the number that stopped it, else 0
--   bytes 2-5     the session that the reply reports
--   bytes 6-9     the records that a run accepted, else 0
--   bytes 10-13   the bytes used
--   bytes 14-17   the bytes written
--   bytes 18, 19  the length of the output
use Rattle.std.specs.Prelude.{ℕ, ◌+◌, ◌*◌, Bool, cond, ◌&&◌, List, ◌∷◌, ◌++◌, Option, Some, None, leb, eqb, length, take, drop, get_or}
use Rattle.link_rows.specs.Replies.{number_of, session_of}
use Rattle.link_bytes.specs.Records.{id_bytes, count_bytes}
use Rattle.link_history.specs.Calls.{Call, Opening, Closing, Requesting, Transmitting, Reading, Receiving, Running, Answer}
use Rattle.link_script.specs.declared.Kind.{Kind}
use Rattle.link_script.specs.declared.Kind.TheVariants.{Open, Close, Request, Transmit, Read, Receive, Run}
use Rattle.link_script.specs.declared.Entry.{Entry}

-- the bytes of an entry's head, and of a record's
abbrev pub entry_length : ℕ
entry_length = 16

abbrev pub record_length : ℕ
record_length = 20

-- numbers of two and of four bytes
abbrev pub two_bytes : ℕ → ℕ → ℕ
two_bytes a b = 256 * a + b

abbrev pub four_bytes : ℕ → ℕ → ℕ → ℕ → ℕ
four_bytes a b c d = 16777216 * a + 65536 * b + 256 * c + d

-- the head of an entry: how many bytes there are, of this entry and after it, and its numbers
pub record Head : Type 0 where
  pub available : ℕ
  pub kind : ℕ
  pub id : ℕ
  pub session : ℕ
  pub amount : ℕ
  pub room : ℕ
  pub size : ℕ

-- the head of the entry at the front of the bytes; a byte that is not there counts as 0
unfoldable pub entry_of : List ℕ → Head
entry_of bytes = record {
  available = length bytes;
  kind = get_or bytes 0 0;
  id = two_bytes (get_or bytes 2 0) (get_or bytes 3 0);
  session = four_bytes (get_or bytes 4 0) (get_or bytes 5 0) (get_or bytes 6 0) (get_or bytes 7 0);
  amount = four_bytes (get_or bytes 8 0) (get_or bytes 9 0) (get_or bytes 10 0) (get_or bytes 11 0);
  room = two_bytes (get_or bytes 12 0) (get_or bytes 13 0);
  size = two_bytes (get_or bytes 14 0) (get_or bytes 15 0);
}

-- its data
abbrev pub data_of : Head → List ℕ → List ℕ
data_of entry bytes = take entry.size (drop entry_length bytes)

-- the entry is taken: its kind is known, it is there whole, and the transcript has room for its record
unfoldable pub is_taken : Head → ℕ → Bool
is_taken entry left = (leb 1 entry.kind && leb entry.kind 7) && (leb (entry_length + entry.size) entry.available && leb (record_length + entry.room) left)

-- the call of an entry that is taken
unfoldable pub call_of : Head → List ℕ → List ℕ → Call
call_of entry bytes out =
    cond (eqb entry.kind 1) (Opening entry.id out)
    (cond (eqb entry.kind 2) (Closing entry.id entry.session out)
    (cond (eqb entry.kind 3) (Requesting entry.id entry.session entry.amount out)
    (cond (eqb entry.kind 4) (Transmitting entry.id entry.session bytes out)
    (cond (eqb entry.kind 5) (Reading entry.id entry.session out)
    (cond (eqb entry.kind 6) (Receiving bytes out)
    (Running entry.amount bytes out))))))

-- the head of the record of an entry and its answer
abbrev pub head_bytes : Head → Answer → List ℕ
head_bytes entry a = entry.kind ∷ number_of a.reply ∷ (count_bytes (session_of a.reply) ++ (count_bytes a.accepted ++ (count_bytes a.used ++ (count_bytes a.written ++ id_bytes entry.room))))

-- ---- the same with the kind as one of seven

abbrev pub kind_number : Kind → ℕ
kind_number Open = 1
kind_number Close = 2
kind_number Request = 3
kind_number Transmit = 4
kind_number Read = 5
kind_number Receive = 6
kind_number Run = 7

-- the kind of a number
abbrev pub kind_of : ℕ → Option Kind
kind_of n =
    cond (eqb n 1) (Some Open)
    (cond (eqb n 2) (Some Close)
    (cond (eqb n 3) (Some Request)
    (cond (eqb n 4) (Some Transmit)
    (cond (eqb n 5) (Some Read)
    (cond (eqb n 6) (Some Receive)
    (cond (eqb n 7) (Some Run) None))))))

-- the head of an entry of a known kind, where so many bytes are there
abbrev pub head_in : ℕ → Entry → Head
head_in available e = record { available = available; kind = kind_number e.kind; id = e.id; session = e.session; amount = e.amount; room = e.room; size = e.size }

-- an entry that is taken
abbrev pub entered : Head → Kind → Entry
entered h k = record { kind = k; id = h.id; session = h.session; amount = h.amount; room = h.room; size = h.size }

abbrev pub has_room : Head → ℕ → Bool
has_room h left = leb (entry_length + h.size) h.available && leb (record_length + h.room) left

abbrev pub taken_as : Option Kind → Head → ℕ → Option Entry
taken_as None h left = None
taken_as (Some k) h left = cond (has_room h left) (Some (entered h k)) None

abbrev pub taken : Head → ℕ → Option Entry
taken h left = taken_as (kind_of h.kind) h left
