-- The replies, with the number and the values of each.
use Rattle.std.specs.Prelude.{ℕ, Bool, true, false, leb, Result, Ok, Err}
use Rattle.link_rows.specs.declared.Refusal.{Refusal}
use Rattle.link_rows.specs.declared.Refusal.TheVariants.{NotWhole, StoreLength, RowRules, LinkDown, NotServed, OtherHalf, NotClosed, SessionsSpent, WrongSession, NotOpen, Empty, AboveRoom, AboveOutput, OutputShort, UnknownOpcode, UnknownIdentifier, CountNotPositive, OpenInOurHalf, OpenOnRowNotClosed, OnClosedRow, CloseackNotPending, AboveInput, CreditOverflow, QueueOverflow, OpenSessionsSpent}
use Rattle.link_rows.specs.declared.Done.{Done}

-- what a call or a record is answered: the values reported, or the refusal
abbrev pub Reply : Type 0
Reply = Result Done Refusal

-- answered 0, with the session number that was given, the bytes of the record received, the bytes written
abbrev pub done : (session used written : ℕ) → Reply
done session used written = Ok (record { session = session; used = used; written = written })

-- the number of each refusal, in the order of document 01's table
abbrev pub refusal_number : Refusal → ℕ
refusal_number NotWhole = 1
refusal_number StoreLength = 2
refusal_number RowRules = 3
refusal_number LinkDown = 4
refusal_number NotServed = 5
refusal_number OtherHalf = 6
refusal_number NotClosed = 7
refusal_number SessionsSpent = 14
refusal_number WrongSession = 8
refusal_number NotOpen = 9
refusal_number Empty = 10
refusal_number AboveRoom = 11
refusal_number AboveOutput = 12
refusal_number OutputShort = 13
refusal_number UnknownOpcode = 20
refusal_number UnknownIdentifier = 21
refusal_number CountNotPositive = 22
refusal_number OpenInOurHalf = 23
refusal_number OpenOnRowNotClosed = 24
refusal_number OnClosedRow = 25
refusal_number CloseackNotPending = 26
refusal_number AboveInput = 27
refusal_number CreditOverflow = 28
refusal_number QueueOverflow = 29
refusal_number OpenSessionsSpent = 30

-- the violations, numbered from 20 on, take the endpoint down
abbrev pub takes_down : Refusal → Bool
takes_down why = leb 20 (refusal_number why)

-- the number of a reply
abbrev pub number_of : Reply → ℕ
number_of (Ok d) = 0
number_of (Err why) = refusal_number why

-- the values reported: the session number that was given, the bytes of the record received, the bytes written. A refusal reports 0
abbrev pub session_of : Reply → ℕ
session_of (Ok d) = d.session
session_of (Err why) = 0

abbrev pub used_by : Reply → ℕ
used_by (Ok d) = d.used
used_by (Err why) = 0

abbrev pub written_by : Reply → ℕ
written_by (Ok d) = d.written
written_by (Err why) = 0

-- one line of the table: the refusal where the test holds, and else what follows
unfoldable pub refuse : {A : Type 0} → Refusal → Bool → Result A Refusal → Result A Refusal
refuse why true rest = Err why
refuse why false rest = rest

-- what a call leaves: one thing where it is answered 0, and another where it is refused
abbrev pub on_done : {A : Type 0} → Reply → A → A → A
on_done (Ok d) done refused = done
on_done (Err why) done refused = refused
