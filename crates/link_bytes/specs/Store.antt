-- The store: 32 rows of 1,024 bytes, one after another. A row's unread bytes come first in it.
use Rattle.std.specs.Prelude.{ℕ, ◌+◌, ◌-◌, ◌*◌, Bool, ◌&&◌, List, ◌++◌, leb, ltb, eqb, length, take, drop, replicate}
use Rattle.link_rows.specs.Limits.{row_count, row_length, store_length}

-- in a whole store, row r has this many bytes
abbrev pub in_row : ℕ → ℕ → ℕ → Bool
in_row store_len r n = eqb store_len store_length && (ltb r row_count && leb n row_length)

-- a row's bytes
abbrev pub row_bytes : List ℕ → ℕ → List ℕ
row_bytes store r = take row_length (drop (row_length * r) store)

-- the store with other bytes in a row
abbrev pub set_bytes : List ℕ → ℕ → List ℕ → List ℕ
set_bytes store r part = take (row_length * r) store ++ (part ++ drop row_length (drop (row_length * r) store))

-- zero bytes
abbrev pub zeros : ℕ → List ℕ
zeros n = replicate n 0

-- a row that is dropped: its 1,024 bytes are zero
unfoldable pub clear_row : List ℕ → ℕ → List ℕ
clear_row store r = set_bytes store r (zeros row_length)

-- bytes in a row from a place on
abbrev pub put_at : List ℕ → ℕ → List ℕ → List ℕ
put_at row at bytes = take at row ++ (bytes ++ drop (at + length bytes) row)

-- data joins a row's unread bytes
unfoldable pub queue_data : List ℕ → ℕ → ℕ → List ℕ → List ℕ
queue_data store r unread bytes = set_bytes store r (put_at (row_bytes store r) unread bytes)

-- n unread bytes leave a row: the other unread ones move to the front, and the n places behind them are zeroed
abbrev pub leave : List ℕ → ℕ → ℕ → List ℕ
leave row unread n = take (unread - n) (drop n row) ++ (zeros n ++ drop unread row)

unfoldable pub take_front : List ℕ → ℕ → ℕ → ℕ → List ℕ
take_front store r unread n = set_bytes store r (leave (row_bytes store r) unread n)

-- the bytes that leave
abbrev pub front_of : List ℕ → ℕ → ℕ → List ℕ
front_of store r n = take n (row_bytes store r)
