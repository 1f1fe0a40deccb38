-- What reading a payload s comes to from where passing over its fields stops.
use Rattle.std.specs.Prelude.{ℕ, List, Ok, Err}
use Rattle.wire.specs.Layout.{size}
use Rattle.wire.specs.Reading.{Outcome, refused, and_then, read_bytes, read_string, read_xid}
use Rattle.wire.specs.declared.Fault.TheVariants.{NotAllowed}
use Rattle.payload_read.specs.declared.Shape.{Shape}
use Rattle.payload_read.specs.declared.Shape.TheVariants as shape
use Rattle.payload_read.specs.Stops.{Passed}

-- a field at p that is refused; it is meant of no other. So a number whose bytes are there is one whose value is not allowed
abbrev pub shape_outcome : Shape → List ℕ → ℕ → Outcome
shape_outcome (shape.Bytes n) s p = read_bytes n s (Ok p)
shape_outcome (shape.Number w) s p = and_then (read_bytes (size w) s (Ok p)) (λ q. Err (refused NotAllowed p))
shape_outcome shape.Str s p = read_string s (Ok p)
shape_outcome shape.Xid s p = read_xid s (Ok p)

-- behind the last field, or the refusal of the one where it stops
unfoldable pub outcome_of : List ℕ → Passed → Outcome
outcome_of s (Ok p) = Ok p
outcome_of s (Err x) = shape_outcome x.shape s x.start
