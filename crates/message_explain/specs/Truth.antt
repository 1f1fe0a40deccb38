-- What a reason says of the bytes m at the agreed version v, for each of its forms. It is proved of every reason given (proofs/Truth), and that no other
-- reason has it (proofs/Only).
use Rattle.std.specs.Prelude.{ℕ, ◌+◌, ◌-◌, ◌≤◌, ◌<◌, ◌≡◌, Bool, true, false, cond, ◌&&◌, List, length, Option, None, Some, Ok, Err, eqb}
use Rattle.wire.specs.Numbers.{number_at}
use Rattle.wire.specs.Layout.{size}
use Rattle.wire.specs.Values.{allowed}
use Rattle.wire.specs.Reading.{refused}
use Rattle.wire.specs.declared.Fault.TheVariants.{NotWhole, NoSuchVersion, UnknownType, NotInVersion, TooLarge, RunsPast, NotAllowed, BytesAfter}
use Rattle.wire.specs.declared.Item.TheVariants.{Raw, Num, Str}
use Rattle.wire.specs.declared.Width.{Width}
use Rattle.wire.specs.declared.Limits.{Limits}
use Rattle.message_layout.specs.Table.{versions_of, known, holds, served, entries_from, entry_at}
use Rattle.message_layout.specs.Message.{header_size, size_most, type_in, size_in, payload_in}
use Rattle.message_layout.specs.declared.Kind.{Kind}
use Rattle.message_layout.specs.declared.Kind.TheVariants as kind
use Rattle.message_layout.specs.declared.Source.{Source}
use Rattle.message_layout.specs.declared.Field.{Field}
use Rattle.message_read.specs.Reading.{accepted as accepts, reading}
use Rattle.message_walk.specs.declared.FieldName.{FieldName}
use Rattle.message_walk.specs.declared.FieldName.TheVariants as field
use Rattle.message_walk.specs.declared.Form.TheVariants as form
use Rattle.message_walk.specs.declared.Piece.{Piece}
use Rattle.message_walk.specs.declared.Detail.TheVariants.{Room, Value, Left}
use Rattle.message_walk.specs.declared.Reason.{Reason}
use Rattle.message_walk.specs.Walk.{Walk, end, ◌then◌, size_of, walk}
use Rattle.message_walk.specs.Reasons.{reason, Passes}
use Rattle.message_walk.specs.Standing.{Stands}

-- the walk of the payload comes to the field x over fields that are valid, and x stands where the table says
pub record First (m : List ℕ) (x : Piece) : Type 0 where
  pub rest : Walk
  pub earlier : Passes (payload_in m) (walk (payload_in m) (type_in m)) (x then rest)
  pub table : Stands (payload_in m) (type_in m) x

-- the name of a field of the walk
abbrev pub name_of : Piece → FieldName
name_of x = field.Piece x.source x.field x.piece

-- a kind of field that is a string
abbrev pub string_kind : Kind → Bool
string_kind (kind.One (Raw n)) = false
string_kind (kind.One (Num w l)) = false
string_kind (kind.One Str) = true
string_kind (kind.List e) = false
string_kind (kind.Optional e) = false
string_kind kind.Xid = false

-- a field of the table that is a string
abbrev pub is_string : Option Field → Bool
is_string None = false
is_string (Some f) = string_kind f.kind

-- piece j of field k of a layout is the data of a string: its piece 1, behind the size
abbrev pub is_string_data : Source → ℕ → ℕ → Bool
is_string_data src k j = is_string (entry_at (entries_from src) k) && eqb j 1

-- the place that 44 has for a field on the wire: its own; for a string's data that of the size, the eight bytes in front of it (document 02's T-02)
abbrev pub answered_at : Piece → ℕ
answered_at x = cond (is_string_data x.source x.field x.piece) (x.place - 8) x.place

-- each form has the reading's number, and of 44, 45 and 46 its place too
pub data True (v : ℕ) (m : List ℕ) : Option Reason → Type 0 where
  -- no reason: the message is accepted
  accepted : (t n : ℕ) → reading v m ≡ Ok (accepts t n) → True v m None
  -- 40: the value is the version, which is not served
  version : reading v m ≡ Err (refused NoSuchVersion 0) → served v ≡ false → True v m (Some (reason NoSuchVersion None None (Value v)))
  -- 1: the header needs 32 bytes, or the payload as many as header.size says, and fewer are there
  header : reading v m ≡ Err (refused NotWhole 0) → length m < header_size → True v m (Some (reason NotWhole (Some field.Header) None (Room header_size (length m))))
  payload : reading v m ≡ Err (refused NotWhole 0) → (had : ℕ) → header_size + had ≡ length m → had < size_in m
      → True v m (Some (reason NotWhole (Some field.Payload) None (Room (size_in m) had)))
  -- 41 and 42: the value is header.type, which is unknown, or is not in the version
  unknown : reading v m ≡ Err (refused UnknownType 0) → known (versions_of (type_in m)) ≡ false
      → True v m (Some (reason UnknownType (Some field.HeaderType) None (Value (type_in m))))
  other_version : reading v m ≡ Err (refused NotInVersion 0) → holds (versions_of (type_in m)) v ≡ false
      → True v m (Some (reason NotInVersion (Some field.HeaderType) None (Value (type_in m))))
  -- 43: the value is header.size, which is too large
  large : reading v m ≡ Err (refused TooLarge 0) → size_most < size_in m → True v m (Some (reason TooLarge (Some field.HeaderSize) None (Value (size_in m))))
  -- 44: the first field at fault; needed is its size, and had are the payload's bytes from its first one on, fewer than that
  short : (x : Piece) → reading v m ≡ Err (refused RunsPast (answered_at x)) → First m x
      → (had : ℕ) → x.place + had ≡ length (payload_in m) → had < size_of x.form
      → True v m (Some (reason RunsPast (Some (name_of x)) x.index (Room (size_of x.form) had)))
  -- 45: the first field at fault, a number that lies in the payload; the value is what stands there, and it is not allowed
  value : (x : Piece) → reading v m ≡ Err (refused NotAllowed x.place) → First m x
      → (w : Width) (l : Limits) → x.form ≡ form.Number w l → x.place + size w ≤ length (payload_in m)
      → allowed l (number_at (size w) (payload_in m) x.place) ≡ false
      → True v m (Some (reason NotAllowed (Some (name_of x)) x.index (Value (number_at (size w) (payload_in m) x.place))))
  -- 46: every field is valid, and bytes are left behind the last, from p on
  left : (p n : ℕ) → reading v m ≡ Err (refused BytesAfter p) → Passes (payload_in m) (walk (payload_in m) (type_in m)) (end p)
      → p + n ≡ length (payload_in m) → 0 < n → True v m (Some (reason BytesAfter None None (Left n)))
