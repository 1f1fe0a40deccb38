-- What this crate's private functions ask of, and promise to, their callers. No contract of a public call cites it.
use Rattle.std.specs.Prelude.{ℕ, ◌+◌, ◌<◌, ◌≡◌, true, false, ◌&&◌, List, ltb, length, set}
use Rattle.link_rows.specs.Limits.{REQUEST, TRANSMIT, row_count, row_length, store_length, most_credit}
use Rattle.link_rows.specs.Rows.{is_open, is_served, row_of}
use Rattle.link_rows.specs.Rules.{Rules}
use Rattle.link_rows.specs.declared.Row.{Row}
use Rattle.link_rows.specs.declared.Endpoint.{Endpoint}
use Rattle.link_rows.specs.declared.Record.{Record}
use Rattle.link_record_replies.specs.Records.{is}

-- the tests 2, 3 and 4 pass
pub record Ready (e : Endpoint) (store : List ℕ) : Type 0 where
  pub whole : length store ≡ store_length
  pub rules : Rules e ≡ true
  pub up : e.down ≡ false

-- the tests 27, 28 and 29 pass: the record's count fits the row
pub record Fits (r : Row) (h : Record) : Type 0 where
  pub granted : (is TRANSMIT h && ltb r.input h.count) ≡ false
  pub credit : (is REQUEST h && is_open r.status && ltb most_credit (r.output + h.count)) ≡ false
  pub queue : (is TRANSMIT h && is_open r.status && ltb row_length (r.unread + h.count)) ≡ false

-- a number of a row, that of the identifier where it has one
pub record Place (id r : ℕ) : Type 0 where
  pub within : r < row_count
  pub same : is_served id ≡ true → r ≡ row_of id

-- the endpoint with a row and the last session number stored
abbrev pub placed : Endpoint → ℕ → Row → ℕ → Endpoint
placed e r row last = record { began = e.began; down = e.down; last = last; rows = set e.rows r row }
