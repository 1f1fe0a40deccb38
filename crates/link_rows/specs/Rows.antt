-- Identifiers, rows, session numbers, and a fresh endpoint.
use Rattle.std.specs.Prelude.{ℕ, ◌+◌, ◌-◌, Bool, true, false, not, cond, ◌&&◌, ◌||◌, leb, ltb, get_or, set, replicate}
use Rattle.link_rows.specs.Limits.{row_count, last_session}
use Rattle.link_rows.specs.declared.Status.{Status}
use Rattle.link_rows.specs.declared.Status.TheVariants.{Closed, Open, Pending}
use Rattle.link_rows.specs.declared.Row.{Row}
use Rattle.link_rows.specs.declared.Endpoint.{Endpoint}

-- the identifiers served: 0 to 15, and 0x8000 to 0x800F
unfoldable pub is_served : ℕ → Bool
is_served id = ltb id 16 || (leb 0x8000 id && ltb id 0x8010)

-- the high half: the identifiers with the high bit set
abbrev pub is_high : ℕ → Bool
is_high id = leb 0x8000 id

-- the row of a served identifier: 0 to 15 for the low ones, 16 to 31 for the high ones
unfoldable pub row_of : ℕ → ℕ
row_of id = cond (is_high id) (id - 0x8000 + 16) id

-- the half that an end opens: the end that began the link the high one, the other end the low one
unfoldable pub opens_half : Bool → ℕ → Bool
opens_half began id = cond began (is_high id) (not (is_high id))

abbrev pub is_ours : Endpoint → ℕ → Bool
is_ours e id = opens_half e.began id

-- a row's status is one of three
abbrev pub is_closed : Status → Bool
is_closed Closed = true
is_closed Open = false
is_closed Pending = false

abbrev pub is_open : Status → Bool
is_open Closed = false
is_open Open = true
is_open Pending = false

abbrev pub is_pending : Status → Bool
is_pending Closed = false
is_pending Open = false
is_pending Pending = true

-- a fresh row: closed, with no session
abbrev pub fresh_row : Row
fresh_row = record { status = Closed; session = 0; input = 0; output = 0; unread = 0 }

-- the row of a number; a fresh one past the last
abbrev pub row_at : Endpoint → ℕ → Row
row_at e r = get_or e.rows r fresh_row

-- the row of an identifier
abbrev pub row_for : Endpoint → ℕ → Row
row_for e id = row_at e (row_of id)

-- the endpoint with another row at a number
abbrev pub with_row : Endpoint → ℕ → Row → Endpoint
with_row e r row = record { began = e.began; down = e.down; last = e.last; rows = set e.rows r row }

-- the session numbers are spent once the last one is given
abbrev pub are_spent : ℕ → Bool
are_spent last = leb last_session last

abbrev pub is_spent : Endpoint → Bool
is_spent e = are_spent e.last

-- the session number after the last one given; 0 where they are spent
unfoldable pub next_after : ℕ → ℕ
next_after last = cond (are_spent last) 0 (last + 1)

-- the endpoint's next session number
abbrev pub next_session : Endpoint → ℕ
next_session e = next_after e.last

-- a fresh endpoint: up, no session number given, every row fresh
unfoldable pub fresh_endpoint : Bool → Endpoint
fresh_endpoint began = record { began = began; down = false; last = 0; rows = replicate row_count fresh_row }
