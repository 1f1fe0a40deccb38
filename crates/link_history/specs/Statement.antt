-- Demand 3: what is claimed of every list of calls, from a fresh endpoint of either kind and its store.
use Rattle.std.specs.Prelude.{ℕ, zero, suc, ◌+◌, ◌≡◌, Bool, true, false, not, cond, ◌&&◌, ◌||◌, List, [], ◌∷◌, ◌++◌, leb, eqb, length, take, drop}
use Rattle.link_rows.specs.Limits.{OPEN, TRANSMIT, short_length, long_length}
use Rattle.link_rows.specs.Rows.{is_closed, is_open, is_served, row_of, row_for}
use Rattle.link_rows.specs.Replies.{number_of, session_of}
use Rattle.link_rows.specs.declared.Row.{Row}
use Rattle.link_rows.specs.declared.Endpoint.{Endpoint}
use Rattle.link_rows.specs.declared.Record.{Record}
use Rattle.link_record_replies.specs.Records.{is, has_count, is_known, not_positive, size_of}
use Rattle.link_bytes.specs.Records.{head_of}
use Rattle.link_bytes.specs.Store.{row_bytes}
use Rattle.link_history.specs.Calls.{Call, Opening, Closing, Requesting, Transmitting, Reading, Receiving, Running, World, Answer, Step, step, start, after}
use Rattle.link_history.specs.Ledger.{Table, Ledger, latest_of, blank, receives, note, ledger}

-- the number of a call's answer
abbrev pub number_in : Step → ℕ
number_in r = number_of r.answer.reply

-- a row and its bytes in the store show what the ledger has of an identifier: closed, open or pending; its latest session, 0 for none;
-- how many bytes of that session are unread; and those bytes, in order, at the front of the row
pub record Shown (l : Ledger) (id : ℕ) (row : Row) (bytes : List ℕ) : Type 0 where
  pub status : row.status ≡ l.table.status id
  pub latest : row.session ≡ latest_of l id
  pub count : row.unread ≡ length (l.account (latest_of l id)).unread
  pub unread : take row.unread bytes ≡ (l.account (latest_of l id)).unread

-- the session number that the reply to a call names, by the table before the call and the number of its answer: an accepted opening of
-- ours, and an accepted OPEN received by itself, the next one; every other reply none, which is 0. A run's reply names none: there the rows
-- show the latest sessions
abbrev pub names : Table → Call → ℕ → ℕ
names t (Opening id out) number = cond (eqb number 0) (t.last + 1) 0
names t (Closing id session out) number = 0
names t (Requesting id session amount out) number = 0
names t (Transmitting id session bytes out) number = 0
names t (Reading id session out) number = 0
names t (Receiving bytes out) number = cond (eqb number 0 && is OPEN (head_of bytes)) (t.last + 1) 0
names t (Running n bytes out) number = 0

-- the bytes that a call gave session s: a read that names it, as many from the front of its output as it reports written, which is 0
-- where it is refused. No other call gives a session bytes
abbrev pub gives : ℕ → Call → Step → List ℕ
gives s (Opening id out) r = []
gives s (Closing id session out) r = []
gives s (Requesting id session amount out) r = []
gives s (Transmitting id session bytes out) r = []
gives s (Reading id session out) r = cond (eqb session s) (take r.answer.written r.out) []
gives s (Receiving bytes out) r = []
gives s (Running n bytes out) r = []

-- and all calls of a list, in order
unfoldable pub given : ℕ → World → List Call → List ℕ
given s w [] = []
given s w (c ∷ cs) = gives s c (step w c) ++ given s (step w c).world cs

-- of an identifier's latest session: the amounts of our accepted requests are the counts of the accepted TRANSMITs and the input request
-- count that is left, so that no credit to receive is invented or lost
abbrev pub Credited : Ledger → ℕ → Row → Type 0
Credited l id row = (l.account (latest_of l id)).requested ≡ (l.account (latest_of l id)).transmitted + row.input

-- of an identifier's latest session: the counts of the REQUESTs accepted while it is open are the lengths of our accepted transmits and
-- the output request count that is left, so that no credit to send is invented or lost
abbrev pub Allowed : Ledger → ℕ → Row → Type 0
Allowed l id row = (l.account (latest_of l id)).granted ≡ (l.account (latest_of l id)).sent + row.output

-- what holds after every list of calls, where l is the list's ledger, w what the list left, and gave what the reads of each session gave.
-- As each beginning of a list is a list, it holds after each call
pub record Holds (l : Ledger) (w : World) (gave : ℕ → List ℕ) : Type 0 where
  -- the bytes that a session's reads gave, then those dropped, then those unread, are in order the data accepted for it while it was open
  pub bytes : (s : ℕ) → gave s ++ ((l.account s).dropped ++ (l.account s).unread) ≡ (l.account s).accepted
  -- the bytes that left a session's unread ones, by the ledger, are those that its reads put into their outputs
  pub left : (s : ℕ) → (l.account s).left ≡ gave s
  -- rows and store show the ledger, of each identifier served
  pub shown : (id : ℕ) → is_served id ≡ true → Shown l id (row_for w.endpoint id) (row_bytes w.store (row_of id))
  -- no bytes are unread elsewhere: a session that is no such identifier's latest, or was never given, has none
  pub gone : (s : ℕ) → ((id : ℕ) → is_served id ≡ true → latest_of l id ≡ s → ⊥) → (l.account s).unread ≡ []
  -- an identifier that is not served has no session: data for it is other sessions' data, whichever session is asked about
  pub unserved : (id : ℕ) → is_served id ≡ false → latest_of l id ≡ 0
  -- the last session number given is the ledger's
  pub last : w.endpoint.last ≡ l.table.last
  -- until a session ends, its credit to receive adds up, with the TRANSMITs that were discarded while it was pending
  pub credit : (id : ℕ) → is_served id ≡ true → is_closed (l.table.status id) ≡ false → Credited l id (row_for w.endpoint id)
  -- while a session is open, its credit to send adds up
  pub output : (id : ℕ) → is_served id ≡ true → is_open (l.table.status id) ≡ true → Allowed l id (row_for w.endpoint id)
  -- an identifier that is not open has no credit to send, whatever REQUESTs still come, and one that is closed none to receive
  pub unsent : (id : ℕ) → is_served id ≡ true → is_open (l.table.status id) ≡ false → (row_for w.endpoint id).output ≡ 0
  pub ended : (id : ℕ) → is_served id ≡ true → is_closed (l.table.status id) ≡ true → (row_for w.endpoint id).input ≡ 0
  -- the reply to the next call, whichever it is, names the ledger's session number
  pub named : (c : Call) → session_of (step w c).answer.reply ≡ names l.table c (number_in (step w c))

-- t is another session than s, or none
abbrev pub another : ℕ → ℕ → Bool
another s t = eqb t 0 || not (eqb t s)

-- a TRANSMIT with other sessions' data: all seven bytes before the data are there, its count is positive, and its identifier's latest
-- session, by the ledger before this record, is another than s, or none
abbrev pub is_others : ℕ → Ledger → Record → Bool
is_others s l h = is TRANSMIT h && leb long_length h.available && not (not_positive h.count) && another s (latest_of l h.id)

-- how many bytes the record at the front of lent bytes has, as far as its head says; fewer may be there
abbrev pub extent_of : Record → ℕ
extent_of h =
    -- an opcode that there is not: that byte alone
    cond (not (is_known h)) 1
    -- OPEN, CLOSE, CLOSEACK: opcode and identifier
    (cond (not (has_count h)) short_length
    -- TRANSMIT with a positive count: opcode, identifier, count and data
    (cond (is TRANSMIT h && not (not_positive h.count)) (long_length + h.count)
    -- REQUEST, and TRANSMIT with a count that is 0 or less: opcode, identifier and count
    long_length))

-- the bytes that may not differ for session s: the record at the front, without other sessions' data. The bytes behind the record are
-- nobody's data, and may differ too
unfoldable pub visible : ℕ → Ledger → List ℕ → List ℕ
visible s l bytes = take (cond (is_others s l (head_of bytes)) long_length (extent_of (head_of bytes))) bytes

-- two receives of a record that differ at most in the bytes that may
abbrev pub AlikeRecords : ℕ → Ledger → List ℕ → List ℕ → Type 0
AlikeRecords s l b d = visible s l b ≡ visible s l d

-- two runs that do: so many accepted records, each with the ledger before it, and then, where the number is not 0, the one that stopped
-- the run. What comes behind these is nobody's. A run answered 2, 3 or 4 counts its first record as received and refused
unfoldable pub AlikeRuns : ℕ → Ledger → ℕ → ℕ → List ℕ → List ℕ → Type 0
AlikeRuns s l zero number b d = eqb number 0 ≡ false → AlikeRecords s l b d
AlikeRuns s l (suc n) number b d = AlikeRecords s l b d × AlikeRuns s (receives 0 b l) n number (drop (size_of (head_of b)) b) (drop (size_of (head_of b)) d)

-- two calls that differ at most in other sessions' data and in nobody's; in their place stand any bytes of the same length. Number and
-- accepted count are those of the first call's answer
pub data Alike (s : ℕ) (l : Ledger) (number accepted : ℕ) : Call → Call → Type 0 where
  same : (c : Call) → Alike s l number accepted c c
  transmit : (id session : ℕ) (b d out : List ℕ) → another s session ≡ true → length b ≡ length d → Alike s l number accepted (Transmitting id session b out) (Transmitting id session d out)
  receive : (b d out : List ℕ) → length b ≡ length d → AlikeRecords s l b d → Alike s l number accepted (Receiving b out) (Receiving d out)
  run : (n : ℕ) (b d out : List ℕ) → length b ≡ length d → AlikeRuns s l accepted number b d → Alike s l number accepted (Running n b out) (Running n d out)

-- two lists of such calls, one by one; world and ledger are the first list's
pub data AlikeLists (s : ℕ) : World → Ledger → List Call → List Call → Type 0 where
  none : (w : World) (l : Ledger) → AlikeLists s w l [] []
  more : (w : World) (l : Ledger) (c d : Call) (cs ds : List Call) → Alike s l (number_in (step w c)) (step w c).answer.accepted c d → AlikeLists s (step w c).world (note w c l) cs ds → AlikeLists s w l (c ∷ cs) (d ∷ ds)

-- a read or transmit that names another session
abbrev pub names_another : ℕ → Call → Bool
names_another s (Opening id out) = false
names_another s (Closing id session out) = false
names_another s (Requesting id session amount out) = false
names_another s (Transmitting id session bytes out) = another s session
names_another s (Reading id session out) = another s session
names_another s (Receiving bytes out) = false
names_another s (Running n bytes out) = false

-- what is compared: all that a call reports, the endpoint that it hands back, which is numbers alone, and its whole output unless it is a
-- read or transmit that names another session. The store is not compared: it holds every session's bytes
pub record View : Type 0 where
  pub answer : Answer
  pub endpoint : Endpoint
  pub out : List ℕ

abbrev pub view : ℕ → Call → Step → View
view s c r = record { answer = r.answer; endpoint = r.world.endpoint; out = cond (names_another s c) [] r.out }

-- the views of a list's calls, in order
unfoldable pub views : ℕ → World → List Call → List View
views s w [] = []
views s w (c ∷ cs) = view s c (step w c) ∷ views s (step w c).world cs

-- demand 3, for a fresh endpoint that began the link or did not, and its store: what holds after every list of calls, and that for every
-- session s two lists that are alike for s give the same views
pub record NoCrossing (began : Bool) (store : List ℕ) : Type 0 where
  pub holds : (cs : List Call) → Holds (ledger (start began store) cs blank) (after (start began store) cs) (λ s. given s (start began store) cs)
  pub substitution : (s : ℕ) (cs ds : List Call) → AlikeLists s (start began store) blank cs ds → views s (start began store) cs ≡ views s (start began store) ds
