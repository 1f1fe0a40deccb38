-- What calls and records do to a row and to the endpoint, in document 01's order. No byte of data is known here.
use Rattle.std.specs.Prelude.{ℕ, ◌+◌, ◌-◌, true, cond, map, set}
use Rattle.link_rows.specs.Rows.{is_open, next_session}
use Rattle.link_rows.specs.declared.Status.TheVariants.{Closed, Open, Pending}
use Rattle.link_rows.specs.declared.Row.{Row}
use Rattle.link_rows.specs.declared.Endpoint.{Endpoint}

-- a row that is opened, by us or by the other end
abbrev pub opened_row : ℕ → Row
opened_row session = record { status = Open; session = session; input = 0; output = 0; unread = 0 }

-- its endpoint: row r takes the next session number
unfoldable pub opened : Endpoint → ℕ → Endpoint
opened e r = record { began = e.began; down = e.down; last = next_session e; rows = set e.rows r (opened_row (next_session e)) }

-- our close: nothing is unread, and we may send nothing more; what was granted can still arrive
abbrev pub pending_row : Row → Row
pending_row r = record { status = Pending; session = r.session; input = r.input; output = 0; unread = 0 }

-- a CLOSE or CLOSEACK: no credit either way is left; what is unread can still be read
abbrev pub closed_row : Row → Row
closed_row r = record { status = Closed; session = r.session; input = 0; output = 0; unread = r.unread }

-- a REQUEST of n: on an open row we may send n bytes more; on a pending row it has no effect
abbrev pub credited_row : Row → ℕ → Row
credited_row r n = record { status = r.status; session = r.session; input = r.input; output = cond (is_open r.status) (r.output + n) r.output; unread = r.unread }

-- a TRANSMIT of n: n granted bytes are used up; on an open row they are now unread
abbrev pub fed_row : Row → ℕ → Row
fed_row r n = record { status = r.status; session = r.session; input = r.input - n; output = r.output; unread = cond (is_open r.status) (r.unread + n) r.unread }

-- our request: n bytes more are granted
abbrev pub granted_row : Row → ℕ → Row
granted_row r n = record { status = r.status; session = r.session; input = r.input + n; output = r.output; unread = r.unread }

-- our transmit: n bytes of our credit are used up
abbrev pub spent_row : Row → ℕ → Row
spent_row r n = record { status = r.status; session = r.session; input = r.input; output = r.output - n; unread = r.unread }

-- our read: n bytes fewer are unread
abbrev pub read_row : Row → ℕ → Row
read_row r n = record { status = r.status; session = r.session; input = r.input; output = r.output; unread = r.unread - n }

-- the endpoint taken down: every row as after a CLOSE
unfoldable pub downed : Endpoint → Endpoint
downed e = record { began = e.began; down = true; last = e.last; rows = map closed_row e.rows }
