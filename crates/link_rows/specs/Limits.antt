-- The opcodes and limits of document 01, by name. In the code they are constants of the record type.
use Rattle.std.specs.Prelude.{ℕ}

abbrev pub OPEN : ℕ
OPEN = 0xE1

abbrev pub CLOSE : ℕ
CLOSE = 0xE2

abbrev pub CLOSEACK : ℕ
CLOSEACK = 0xE3

abbrev pub REQUEST : ℕ
REQUEST = 0xE4

abbrev pub TRANSMIT : ℕ
TRANSMIT = 0xE5

-- the bytes of a record without a count, and of one with a count, less its data
abbrev pub short_length : ℕ
short_length = 3

abbrev pub long_length : ℕ
long_length = 7

-- the rows
abbrev pub row_count : ℕ
row_count = 32

-- the last session number that there is
abbrev pub last_session : ℕ
last_session = 4294967295

-- the bytes of a row, and of the store
abbrev pub row_length : ℕ
row_length = 1024

abbrev pub store_length : ℕ
store_length = 32768

-- the greatest count of a record, and the greatest output request count
abbrev pub most_credit : ℕ
most_credit = 2147483647
