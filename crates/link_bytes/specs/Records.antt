-- The bytes of records: the head of one that is received, and those that are written. Numbers are big-endian.
use Rattle.std.specs.Prelude.{ℕ, ◌+◌, ◌*◌, ◌/◌, ◌%◌, cond, List, [], ◌∷◌, ◌++◌, leb, length, take, drop, get_or}
use Rattle.link_rows.specs.Limits.{long_length}
use Rattle.link_rows.specs.declared.Record.{Record}

-- numbers of two and of four bytes at a place; a byte that is not there counts as 0
abbrev pub two_at : List ℕ → ℕ → ℕ
two_at bytes i = 256 * get_or bytes i 0 + get_or bytes (i + 1) 0

abbrev pub four_at : List ℕ → ℕ → ℕ
four_at bytes i = 16777216 * get_or bytes i 0 + 65536 * get_or bytes (i + 1) 0 + 256 * get_or bytes (i + 2) 0 + get_or bytes (i + 3) 0

-- the head of the record at the front of lent bytes; a byte that is not there counts as 0, and no test looks at it
unfoldable pub head_of : List ℕ → Record
head_of bytes = record {
  available = length bytes;
  opcode = get_or bytes 0 0;
  id = 256 * get_or bytes 1 0 + get_or bytes 2 0;
  count = 16777216 * get_or bytes 3 0 + 65536 * get_or bytes 4 0 + 256 * get_or bytes 5 0 + get_or bytes 6 0;
}

-- the data of a TRANSMIT
abbrev pub data_of : Record → List ℕ → List ℕ
data_of h bytes = take h.count (drop long_length bytes)

-- an identifier's two bytes, and a count's four
abbrev pub id_bytes : ℕ → List ℕ
id_bytes id = id / 256 % 256 ∷ id % 256 ∷ []

abbrev pub count_bytes : ℕ → List ℕ
count_bytes n = n / 16777216 % 256 ∷ n / 65536 % 256 ∷ n / 256 % 256 ∷ n % 256 ∷ []

-- a record without a count: OPEN, CLOSE or CLOSEACK
abbrev pub short_record : ℕ → ℕ → List ℕ
short_record opcode id = opcode ∷ id_bytes id

-- a record with a count: REQUEST, or TRANSMIT before its data
abbrev pub long_record : ℕ → ℕ → ℕ → List ℕ
long_record opcode id n = opcode ∷ (id_bytes id ++ count_bytes n)

-- an output with bytes written at its front; no byte after them is touched
abbrev pub written : List ℕ → List ℕ → List ℕ
written bytes out = bytes ++ drop (length bytes) out

-- the same where the bytes fit; else the output stays as it is
abbrev pub fitted : List ℕ → List ℕ → List ℕ
fitted bytes out = cond (leb (length bytes) (length out)) (written bytes out) out
