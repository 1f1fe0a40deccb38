-- Document 02's T-08: why a message m is refused at the agreed version v.
use Rattle.std.specs.Prelude.{ℕ, ◌-◌, cond, List, length, Option, None, Some, Ok, Err, ltb}
use Rattle.wire.specs.declared.Fault.{Fault}
use Rattle.wire.specs.declared.Fault.TheVariants.{NotWhole, NoSuchVersion, UnknownType, NotInVersion, TooLarge, RunsPast, NotAllowed, BytesAfter, OutputShort, ListsDiffer, NoElement, NoField}
use Rattle.message_layout.specs.Message.{header_size, type_in, size_in, payload_in}
use Rattle.message_read.specs.Reading.{Reading, opening}
use Rattle.message_walk.specs.Walk.{walk}
use Rattle.message_walk.specs.Reasons.{reason, reason_of}
use Rattle.message_walk.specs.declared.FieldName.{FieldName}
use Rattle.message_walk.specs.declared.FieldName.TheVariants as field
use Rattle.message_walk.specs.declared.Detail.{Detail}
use Rattle.message_walk.specs.declared.Detail.TheVariants.{Room, Value}
use Rattle.message_walk.specs.declared.Reason.{Reason}

-- a reason that lies in front of the payload
abbrev pub before : Fault → Option FieldName → Detail → Reason
before f n d = reason f n None d

-- 1: the header, which needs 32 bytes, or the payload, which needs as many as header.size says
abbrev pub not_whole : List ℕ → Reason
not_whole m =
    cond (ltb (length m) header_size) (before NotWhole (Some field.Header) (Room header_size (length m)))
    (before NotWhole (Some field.Payload) (Room (size_in m) (length m - header_size)))

-- the faults of the tests before the fields: 40 with the version, 1, 41 and 42 with header.type, 43 with header.size; those tests give no other
abbrev pub header_reason : Fault → ℕ → List ℕ → Option Reason
header_reason NoSuchVersion v m = Some (before NoSuchVersion None (Value v))
header_reason NotWhole v m = Some (not_whole m)
header_reason UnknownType v m = Some (before UnknownType (Some field.HeaderType) (Value (type_in m)))
header_reason NotInVersion v m = Some (before NotInVersion (Some field.HeaderType) (Value (type_in m)))
header_reason TooLarge v m = Some (before TooLarge (Some field.HeaderSize) (Value (size_in m)))
header_reason RunsPast v m = None
header_reason NotAllowed v m = None
header_reason BytesAfter v m = None
header_reason OutputShort v m = None
header_reason ListsDiffer v m = None
header_reason NoElement v m = None
header_reason NoField v m = None

-- the reason beside what the tests before the fields say: theirs, or the first fault of the payload's walk
abbrev pub because : Reading → ℕ → List ℕ → Option Reason
because (Err r) v m = header_reason r.fault v m
because (Ok a) v m = reason_of (payload_in m) (walk (payload_in m) a.kind)

unfoldable pub explaining : ℕ → List ℕ → Option Reason
explaining v m = because (opening v m) v m
