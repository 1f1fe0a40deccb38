-- Reading a whole message m at the agreed version v: document 01's tests, in its order.
use Rattle.std.specs.Prelude.{ℕ, ◌+◌, ◌-◌, Bool, not, cond, List, [], length, take, drop, ltb, Result, Ok, Err}
use Rattle.wire.specs.Reading.{Outcome, refused, read_fields, read_end}
use Rattle.wire.specs.Replies.{number}
use Rattle.wire.specs.declared.Refused.{Refused}
use Rattle.wire.specs.declared.Fault.{Fault}
use Rattle.wire.specs.declared.Fault.TheVariants.{NotWhole, NoSuchVersion, UnknownType, NotInVersion, TooLarge}
use Rattle.message_layout.specs.Table.{layout, versions_of, known, holds, served}
use Rattle.message_layout.specs.Message.{header_size, size_most, type_in, size_in, payload_in}
use Rattle.message_read.specs.declared.Accepted.{Accepted}

-- what reading a message comes to: its type and how many bytes it has, or why it is refused
abbrev pub Reading : Type 0
Reading = Result Accepted Refused

-- a type, and a length
abbrev pub accepted : ℕ → ℕ → Accepted
accepted t n = record { kind = t; used = n }

-- a test that refuses, without a place, or the tests after it
abbrev pub refuse : Bool → Fault → Reading → Reading
refuse test fault rest = cond test (Err (refused fault 0)) rest

-- what the payload's reading says of a message of type t and that many bytes
unfoldable pub answer : ℕ → ℕ → Outcome → Reading
answer t used (Ok e) = Ok (accepted t used)
answer t used (Err r) = Err r

-- the tests of header.size: 43; 1 for the payload. `rest` is what comes after them
abbrev pub size_tested : List ℕ → Reading → Reading
size_tested m rest =
    refuse (ltb size_most (size_in m)) TooLarge
    (refuse (ltb (length m) (header_size + size_in m)) NotWhole rest)

-- the tests before the fields, in document 01's order: 40; 1 for the header; 41; 42; those of the size. `rest` is what comes after them
abbrev pub tested : ℕ → List ℕ → Reading → Reading
tested v m rest =
    refuse (not (served v)) NoSuchVersion
    (refuse (ltb (length m) header_size) NotWhole
    (refuse (not (known (versions_of (type_in m)))) UnknownType
    (refuse (not (holds (versions_of (type_in m)) v)) NotInVersion
    (size_tested m rest))))

-- what they say of a message: its type, and how many bytes it has by its header; or the refusal
unfoldable pub opening : ℕ → List ℕ → Reading
opening v m = tested v m (Ok (accepted (type_in m) (header_size + size_in m)))

-- and then the fields from the front; last 46
unfoldable pub reading : ℕ → List ℕ → Reading
reading v m =
    tested v m
    (answer (type_in m) (header_size + size_in m) (read_end (payload_in m) (read_fields (layout (type_in m)) (payload_in m) (Ok 0))))

-- the payload of a message that was read with that answer: what stands between its header and its end; none where it is refused
abbrev pub payload_of : Reading → List ℕ → List ℕ
payload_of (Ok a) m = take (a.used - header_size) (drop header_size m)
payload_of (Err r) m = []

-- ---- document 01's number and values for each answer

-- the number: 0, or the fault's
abbrev pub number_of : Reading → ℕ
number_of (Ok a) = 0
number_of (Err r) = number r.fault

-- the type, 0 at a refusal
abbrev pub type_of : Reading → ℕ
type_of (Ok a) = a.kind
type_of (Err r) = 0

-- the used length, 0 at a refusal
abbrev pub used_of : Reading → ℕ
used_of (Ok a) = a.used
used_of (Err r) = 0

-- the place, 0 for numbers without one
abbrev pub place_of : Reading → ℕ
place_of (Ok a) = 0
place_of (Err r) = r.place
