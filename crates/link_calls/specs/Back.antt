-- A record read back: what the head at the front of bytes is found to be, and how many bytes the record has.
use Rattle.std.specs.Prelude.{ℕ, ◌+◌, ◌≡◌, List, length}
use Rattle.link_rows.specs.Limits.{TRANSMIT, long_length}
use Rattle.link_record_replies.specs.Records.{size_of}
use Rattle.link_bytes.specs.Records.{head_of, data_of}

-- the bytes begin with a record of opcode op on identifier i, of n bytes
pub record Begins (bytes : List ℕ) (op i n : ℕ) : Type 0 where
  pub opcode : (head_of bytes).opcode ≡ op
  pub id : (head_of bytes).id ≡ i
  pub size : size_of (head_of bytes) ≡ n

-- and with count c
pub record Counts (bytes : List ℕ) (op i c n : ℕ) : Type 0 where
  pub begins : Begins bytes op i n
  pub count : (head_of bytes).count ≡ c

-- the bytes begin with a TRANSMIT on identifier i, of the data d
pub record Carries (bytes : List ℕ) (i : ℕ) (d : List ℕ) : Type 0 where
  pub counts : Counts bytes TRANSMIT i (length d) (long_length + length d)
  pub carried : data_of (head_of bytes) bytes ≡ d
