-- What is wrong with a field of a payload s at p that is refused, by its shape, and the reason from it. Private functions promise it; no contract of a
-- public call cites it.
use Rattle.std.specs.Prelude.{ℕ, ◌+◌, ◌-◌, cond, List, length, Option, None, Some, Result, Ok, Err, ltb}
use Rattle.wire.specs.Numbers.{number_at}
use Rattle.wire.specs.Layout.{size, gtrid_most, bqual_most}
use Rattle.wire.specs.declared.Fault.TheVariants.{RunsPast, NotAllowed}
use Rattle.wire.specs.declared.Width.{Width}
use Rattle.wire.specs.declared.Width.TheVariants.{U64}
use Rattle.message_layout.specs.declared.Source.{Source}
use Rattle.message_layout.specs.declared.Source.TheVariants as source
use Rattle.payload_read.specs.declared.InList.{InList}
use Rattle.payload_read.specs.declared.Shape.{Shape}
use Rattle.payload_read.specs.declared.Shape.TheVariants as shape
use Rattle.payload_read.specs.declared.Stop.{Stop}
use Rattle.message_walk.specs.declared.FieldName.TheVariants.{Piece}
use Rattle.message_walk.specs.declared.Detail.TheVariants.{Room, Value}
use Rattle.message_walk.specs.declared.Reason.{Reason}
use Rattle.message_walk.specs.Walk.{index_of}
use Rattle.message_walk.specs.Reasons.{reason}
use Rattle.message_explain.specs.declared.stops.Told.{Told}

-- piece j, which has n bytes, is short: h are there; or its value v is not allowed
abbrev pub short : ℕ → ℕ → ℕ → Told
short j n h = record { piece = j; fault = RunsPast; detail = Room n h }

abbrev pub not_allowed : ℕ → ℕ → Told
not_allowed j v = record { piece = j; fault = NotAllowed; detail = Value v }

-- piece j, which is a number of width w; or it is short
abbrev pub number_in : ℕ → Width → List ℕ → ℕ → Result ℕ Told
number_in j w s p = cond (ltb (length s - p) (size w)) (Err (short j (size w) (length s - p))) (Ok (number_at (size w) s p))

-- goes on from a piece that is not at fault; and what is wrong behind it
abbrev pub and_then : Result ℕ Told → (ℕ → Result ℕ Told) → Result ℕ Told
and_then (Ok n) next = next n
and_then (Err t) next = Err t

abbrev pub or_told : Result ℕ Told → (ℕ → Told) → Told
or_told (Ok n) next = next n
or_told (Err t) next = t

-- a number: its bytes, or else its value
abbrev pub number_told : Width → List ℕ → ℕ → Told
number_told w s p = or_told (number_in 0 w s p) (not_allowed 0)

-- a string: its size, or else its data
abbrev pub str_told : List ℕ → ℕ → Told
str_told s p = or_told (number_in 0 U64 s p) (λ n. short 1 n (length s - (p + 8)))

-- a length of an xid, which is piece j and at most m
abbrev pub length_in : ℕ → ℕ → List ℕ → ℕ → Result ℕ Told
length_in j m s p = and_then (number_in j U64 s p) (λ n. cond (ltb m n) (Err (not_allowed j n)) (Ok n))

-- an xid: its formatID, its two lengths, which say how many bytes its data has, or else that
abbrev pub xid_data : List ℕ → ℕ → Result ℕ Told
xid_data s p =
    and_then (number_in 0 U64 s p)
    (λ f. and_then (length_in 1 gtrid_most s (p + 8)) (λ g. and_then (length_in 2 bqual_most s (p + 16)) (λ b. Ok (g + b))))

abbrev pub xid_told : List ℕ → ℕ → Told
xid_told s p = or_told (xid_data s p) (λ n. short 3 n (length s - (p + 24)))

-- a field of that shape
abbrev pub told_of : Shape → List ℕ → ℕ → Told
told_of (shape.Bytes n) s p = short 0 n (length s - p)
told_of (shape.Number w) s p = number_told w s p
told_of shape.Str s p = str_told s p
told_of shape.Xid s p = xid_told s p

-- the reason that names field k of a layout
abbrev pub told_reason : Source → ℕ → Option ℕ → Told → Reason
told_reason src k i t = reason t.fault (Some (Piece src k t.piece)) i t.detail

-- where a field is: in an element, or in the layout src with the number i
abbrev pub source_in : Source → Option InList → Source
source_in src None = src
source_in src (Some l) = source.Element l.element

abbrev pub index_in : Option ℕ → Option InList → Option ℕ
index_in i None = i
index_in i (Some l) = index_of l.count l.left

-- the reason at a field that is refused
abbrev pub refused_at : Source → Option ℕ → List ℕ → Stop → Reason
refused_at src i s x = told_reason (source_in src x.within) x.field (index_in i x.within) (told_of x.shape s x.start)
