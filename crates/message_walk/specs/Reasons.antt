-- Document 02's T-08 for a payload s: the first field of the walk that is at fault, with what is wrong with it; or the bytes behind the last one.
use Rattle.std.specs.Prelude.{ℕ, ◌+◌, ◌-◌, ◌≡◌, Bool, true, cond, List, length, Option, None, Some, leb, eqb}
use Rattle.wire.specs.Numbers.{number_at}
use Rattle.wire.specs.Layout.{size}
use Rattle.wire.specs.Values.{allowed}
use Rattle.wire.specs.declared.Fault.{Fault}
use Rattle.wire.specs.declared.Fault.TheVariants.{RunsPast, NotAllowed, BytesAfter}
use Rattle.message_walk.specs.declared.Form.{Form}
use Rattle.message_walk.specs.declared.Form.TheVariants.{Bytes, Number}
use Rattle.message_walk.specs.declared.Piece.{Piece}
use Rattle.message_walk.specs.declared.FieldName.{FieldName}
use Rattle.message_walk.specs.declared.FieldName.TheVariants as name
use Rattle.message_walk.specs.declared.Detail.{Detail}
use Rattle.message_walk.specs.declared.Detail.TheVariants.{Room, Value, Left}
use Rattle.message_walk.specs.declared.Reason.{Reason}
use Rattle.message_walk.specs.Walk.{Walk, end, ◌then◌, size_of}

-- the number that stands there; 0 for bytes, which are not judged
abbrev pub value_at : Form → List ℕ → ℕ → ℕ
value_at (Bytes n) s p = 0
value_at (Number w l) s p = number_at (size w) s p

-- the value is allowed
abbrev pub allows : Form → ℕ → Bool
allows (Bytes n) v = true
allows (Number w l) v = allowed l v

-- a refusal: its fault, the field and its element's number, if they are named, and what is wrong
abbrev pub reason : Fault → Option FieldName → Option ℕ → Detail → Reason
reason f n i d = record { fault = f; field = n; index = i; detail = d }

-- one that names a field on the wire
abbrev pub at : Piece → Fault → Detail → Reason
at x f d = reason f (Some (name.Piece x.source x.field x.piece)) x.index d

-- 44, with its size and the bytes from its first one on, where it does not lie in the payload; 45, with its value, where that is not allowed
abbrev pub fault_of : List ℕ → Piece → Option Reason
fault_of s x =
    cond (leb (x.place + size_of x.form) (length s))
    (cond (allows x.form (value_at x.form s x.place)) None (Some (at x NotAllowed (Value (value_at x.form s x.place)))))
    (Some (at x RunsPast (Room (size_of x.form) (length s - x.place))))

-- 46, with the bytes left over, where the walk does not end with the payload
abbrev pub left_over : List ℕ → ℕ → Option Reason
left_over s p = cond (eqb p (length s)) None (Some (reason BytesAfter None None (Left (length s - p))))

-- from w the walk comes to u, and no field between is at fault
pub data Passes (s : List ℕ) : Walk → Walk → Type 0 where
  here : {w : Walk} → Passes s w w
  over : {x : Piece} {w u : Walk} → fault_of s x ≡ None → Passes s w u → Passes s (x then w) u

-- a fault, or what comes after
abbrev pub or_else : Option Reason → Option Reason → Option Reason
or_else None rest = rest
or_else (Some r) rest = Some r

-- the first fault of a walk
unfoldable pub reason_of : List ℕ → Walk → Option Reason
reason_of s (end p) = left_over s p
reason_of s (x then w) = or_else (fault_of s x) (reason_of s w)
