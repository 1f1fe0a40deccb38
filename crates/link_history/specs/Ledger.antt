-- The ledger of demand 3. It is fed of each call the arguments, but not endpoint and store, the number of the answer, and of a run
-- how many records were accepted. It sees no row and no byte of a store.
use Rattle.std.specs.Prelude.{ℕ, zero, suc, ◌+◌, min, cond, List, [], ◌∷◌, ◌++◌, leb, eqb, length, take, drop}
use Rattle.link_rows.specs.Limits.{OPEN, TRANSMIT}
use Rattle.link_rows.specs.Rows.{is_open}
use Rattle.link_rows.specs.Replies.{number_of}
use Rattle.link_rows.specs.declared.Status.{Status}
use Rattle.link_rows.specs.declared.Status.TheVariants.{Closed, Open, Pending}
use Rattle.link_rows.specs.declared.Record.{Record}
use Rattle.link_record_replies.specs.Records.{is, has_count, size_of}
use Rattle.link_bytes.specs.Records.{head_of, data_of}
use Rattle.link_history.specs.Calls.{Call, Opening, Closing, Requesting, Transmitting, Reading, Receiving, Running, World, step}

-- what is noted for a number, changed for one number
abbrev pub set_at : {A : Type 0} → (ℕ → A) → ℕ → A → ℕ → A
set_at f i x j = cond (eqb j i) x (f j)

-- the identifiers: how many session numbers were given, and each identifier's status and latest session (0 for none)
pub record Table : Type 0 where
  pub last : ℕ
  pub status : ℕ → Status
  pub latest : ℕ → ℕ

-- a session: the data accepted for it while open, in order; which of it left by reads, was dropped, or is unread; and beside the
-- steps, each way, the amounts of our accepted requests and the counts of the accepted TRANSMITs received for it; the counts of the
-- REQUESTs received and accepted while it is open, and the lengths of our accepted transmits
pub record Account : Type 0 where
  pub accepted : List ℕ
  pub left : List ℕ
  pub dropped : List ℕ
  pub unread : List ℕ
  pub requested : ℕ
  pub transmitted : ℕ
  pub granted : ℕ
  pub sent : ℕ

-- document 01's ledger: what it has of the identifiers, and of each session
pub record Ledger : Type 0 where
  pub table : Table
  pub account : ℕ → Account

-- all identifiers begin closed, with no session
abbrev pub no_account : Account
no_account = record { accepted = []; left = []; dropped = []; unread = []; requested = 0; transmitted = 0; granted = 0; sent = 0 }

unfoldable pub blank : Ledger
blank = record { table = record { last = 0; status = λ id. Closed; latest = λ id. 0 }; account = λ s. no_account }

-- an identifier's latest session
abbrev pub latest_of : Ledger → ℕ → ℕ
latest_of l id = l.table.latest id

-- an identifier is opened: it has the next session number
abbrev pub opens_at : Table → ℕ → Table
opens_at t id = record { last = t.last + 1; status = set_at t.status id Open; latest = set_at t.latest id (t.last + 1) }

-- an identifier's status changes
abbrev pub becomes : Table → ℕ → Status → Table
becomes t id s = record { last = t.last; status = set_at t.status id s; latest = t.latest }

-- all identifiers are closed
abbrev pub closes_all : Table → Table
closes_all t = record { last = t.last; status = λ id. Closed; latest = t.latest }

-- a session's unread bytes are dropped
abbrev pub drops : Account → Account
drops a = record { accepted = a.accepted; left = a.left; dropped = a.dropped ++ a.unread; unread = []; requested = a.requested; transmitted = a.transmitted; granted = a.granted; sent = a.sent }

-- data joins a session's accepted and unread bytes
abbrev pub joins : List ℕ → Account → Account
joins bytes a = record { accepted = a.accepted ++ bytes; left = a.left; dropped = a.dropped; unread = a.unread ++ bytes; requested = a.requested; transmitted = a.transmitted; granted = a.granted; sent = a.sent }

-- n bytes leave the front of a session's unread bytes
abbrev pub leaves : ℕ → Account → Account
leaves n a = record { accepted = a.accepted; left = a.left ++ take n a.unread; dropped = a.dropped; unread = drop n a.unread; requested = a.requested; transmitted = a.transmitted; granted = a.granted; sent = a.sent }

-- a request of n, and a TRANSMIT of n, are noted
abbrev pub asks : ℕ → Account → Account
asks n a = record { accepted = a.accepted; left = a.left; dropped = a.dropped; unread = a.unread; requested = a.requested + n; transmitted = a.transmitted; granted = a.granted; sent = a.sent }

abbrev pub counts : ℕ → Account → Account
counts n a = record { accepted = a.accepted; left = a.left; dropped = a.dropped; unread = a.unread; requested = a.requested; transmitted = a.transmitted + n; granted = a.granted; sent = a.sent }

-- a REQUEST of n received, and a transmit of n, are noted
abbrev pub gains : ℕ → Account → Account
gains n a = record { accepted = a.accepted; left = a.left; dropped = a.dropped; unread = a.unread; requested = a.requested; transmitted = a.transmitted; granted = a.granted + n; sent = a.sent }

abbrev pub spends : ℕ → Account → Account
spends n a = record { accepted = a.accepted; left = a.left; dropped = a.dropped; unread = a.unread; requested = a.requested; transmitted = a.transmitted; granted = a.granted; sent = a.sent + n }

-- one session's account changes
abbrev pub change : Ledger → ℕ → (Account → Account) → ℕ → Account
change l s f = set_at l.account s (f (l.account s))

-- opening, ours or theirs
unfoldable pub opens : ℕ → Ledger → Ledger
opens id l = record { table = opens_at l.table id; account = change l (latest_of l id) drops }

-- our close
unfoldable pub closes : ℕ → ℕ → Ledger → Ledger
closes id session l = record { table = becomes l.table id Pending; account = change l session drops }

-- CLOSE or CLOSEACK received
unfoldable pub shuts : ℕ → Ledger → Ledger
shuts id l = record { table = becomes l.table id Closed; account = l.account }

-- TRANSMIT received, for its identifier's latest session: the count is noted, and where the identifier is open the data comes behind what
-- that session accepted, and behind what is unread of it
unfoldable pub takes : ℕ → ℕ → List ℕ → Ledger → Ledger
takes id count bytes l = record {
  table = l.table;
  account = change l (latest_of l id) (λ a. counts count (cond (is_open (l.table.status id)) (joins bytes a) a));
}

-- reading, with an output of that length
unfoldable pub reads : ℕ → ℕ → Ledger → Ledger
reads session out_len l = record { table = l.table; account = change l session (λ a. leaves (min (length a.unread) out_len) a) }

-- beside these, our request and our transmit are noted, and a REQUEST received, which grants nothing unless its identifier is open
unfoldable pub requests : ℕ → ℕ → Ledger → Ledger
requests session amount l = record { table = l.table; account = change l session (asks amount) }

unfoldable pub transmits : ℕ → ℕ → Ledger → Ledger
transmits session n l = record { table = l.table; account = change l session (spends n) }

unfoldable pub grants : ℕ → ℕ → Ledger → Ledger
grants id count l = record { table = l.table; account = change l (latest_of l id) (gains (cond (is_open (l.table.status id)) count 0)) }

-- a record that breaks a rule closes all
unfoldable pub breaks : Ledger → Ledger
breaks l = record { table = closes_all l.table; account = l.account }

-- an accepted record: OPEN, TRANSMIT, REQUEST (no step, but noted), and else CLOSE or CLOSEACK
unfoldable pub accepts : Record → List ℕ → Ledger → Ledger
accepts h bytes l =
    cond (is OPEN h) (opens h.id l)
    (cond (is TRANSMIT h) (takes h.id h.count (data_of h bytes) l)
    (cond (has_count h) (grants h.id h.count l)
    (shuts h.id l)))

-- the record at the front of the bytes, answered with a number
unfoldable pub receives : ℕ → List ℕ → Ledger → Ledger
receives number bytes l = cond (eqb number 0) (accepts (head_of bytes) bytes l) (cond (leb 20 number) (breaks l) l)

-- a run: so many records answered 0, and where a number other than 0 stopped it, behind them the record with that number
unfoldable pub runs : ℕ → ℕ → List ℕ → Ledger → Ledger
runs zero number bytes l = cond (eqb number 0) l (receives number bytes l)
runs (suc n) number bytes l = runs n number (drop (size_of (head_of bytes)) bytes) (receives 0 bytes l)

-- a step where a call is answered 0
abbrev pub if_done : ℕ → (Ledger → Ledger) → Ledger → Ledger
if_done number f l = cond (eqb number 0) (f l) l

-- a call, with its number and, of a run, the accepted count
abbrev pub noted : Call → ℕ → ℕ → Ledger → Ledger
noted (Opening id out) number accepted l = if_done number (opens id) l
noted (Closing id session out) number accepted l = if_done number (closes id session) l
noted (Requesting id session amount out) number accepted l = if_done number (requests session amount) l
noted (Transmitting id session bytes out) number accepted l = if_done number (transmits session (length bytes)) l
noted (Reading id session out) number accepted l = if_done number (reads session (length out)) l
noted (Receiving bytes out) number accepted l = receives number bytes l
noted (Running n bytes out) number accepted l = runs accepted number bytes l

-- a call of a list
abbrev pub note : World → Call → Ledger → Ledger
note w c l = noted c (number_of (step w c).answer.reply) (step w c).answer.accepted l

-- the ledger of a list of calls
unfoldable pub ledger : World → List Call → Ledger → Ledger
ledger w [] l = l
ledger w (c ∷ cs) l = ledger (step w c).world cs (note w c l)
