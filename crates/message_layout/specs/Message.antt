-- A whole message: its header, the parts of its bytes, its validity at an agreed version, and its bytes.
use Rattle.std.specs.Prelude.{ℕ, ◌≤◌, ◌≡◌, true, List, [], ◌∷◌, ◌++◌, length, take, drop}
use Rattle.wire.specs.Numbers.{Bytes, number_at}
use Rattle.wire.specs.Layout.{◌is◌, one, Fields}
use Rattle.wire.specs.declared.Item.TheVariants.{Raw}
use Rattle.wire.specs.Values.{FieldVals, FieldsValid, encode}
use Rattle.wire.specs.Decoding.{decode}
use Rattle.wire.specs.declared.Width.TheVariants.{U64}
use Rattle.message_layout.specs.Table.{any_number, layout, versions_of, holds, served}

-- the header: the type, the 16 bytes of the correlation, and the size of the payload; type and size are 64-bit numbers
abbrev pub header : Fields
header = "header.type" is one (any_number U64) ∷ "header.correlation" is one (Raw 16) ∷ "header.size" is one (any_number U64) ∷ []

-- how many bytes a header has
abbrev pub header_size : ℕ
header_size = 32

-- how large a payload may be: with its header such a message has 65,536 bytes
abbrev pub size_most : ℕ
size_most = 65504

-- ---- messages

-- a message: its type, its correlation, and the values of its fields
pub record Message : Type 0 where
  pub kind : ℕ
  pub correlation : List ℕ
  pub values : FieldVals (layout kind)

-- its payload
abbrev pub payload : Message → List ℕ
payload x = encode (layout x.kind) x.values

-- its bytes: the header, and the payload
unfoldable pub bytes_of_message : Message → List ℕ
bytes_of_message x = encode header ((x.kind, (x.correlation, (length (payload x), tt)))) ++ payload x

-- it is valid at an agreed version v: v is served and holds its type, its correlation is 16 bytes, its fields are valid, and it is not too large
pub record ValidAt (v : ℕ) (x : Message) : Type 0 where
  pub version : served v ≡ true
  pub held : holds (versions_of x.kind) v ≡ true
  pub correlated : (length x.correlation ≡ 16) × Bytes x.correlation
  pub fields : FieldsValid (layout x.kind) x.values
  pub small : length (payload x) ≤ size_most

-- ---- the parts of bytes

-- header.type
abbrev pub type_in : List ℕ → ℕ
type_in m = number_at 8 m 0

-- header.correlation
abbrev pub correlation_in : List ℕ → List ℕ
correlation_in m = take 16 (drop 8 m)

-- header.size
abbrev pub size_in : List ℕ → ℕ
size_in m = number_at 8 m 24

-- the payload: as many bytes after the header as header.size says
abbrev pub payload_in : List ℕ → List ℕ
payload_in m = take (size_in m) (drop header_size m)

-- the message of type t and correlation c whose fields the payload p holds
abbrev pub message_from : ℕ → List ℕ → List ℕ → Message
message_from t c p = record { kind = t; correlation = c; values = decode (layout t) p 0 }

-- the message that bytes hold, if they are accepted
abbrev pub message_in : List ℕ → Message
message_in m = message_from (type_in m) (correlation_in m) (payload_in m)
