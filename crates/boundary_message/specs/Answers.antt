-- The number of an xid that a caller of the C boundary asks for by a number of its own: 0, 1 or 2 (SOOTLARK_FORMAT_ID and so on).
use Rattle.std.specs.Prelude.{ℕ, cond, List, eqb, Ok, Err}
use Rattle.wire.specs.declared.values.XidNumber.TheVariants.{FormatId, GtridLength, BqualLength}
use Rattle.message_read.specs.Reading.{Reading}
use Rattle.message_fields.specs.Contents.{Value, no_field}
use Rattle.message_fields.specs.Fields.{xid_answer}

-- an xid has no such number
abbrev pub no_xid_number : Reading → Value
no_xid_number (Ok a) = Err no_field
no_xid_number (Err r) = Err r

-- the number of an xid that w asks for
unfoldable pub xid_asked : Reading → ℕ → List ℕ → Value
xid_asked a w m =
    cond (eqb w 0) (xid_answer a FormatId m)
    (cond (eqb w 1) (xid_answer a GtridLength m)
    (cond (eqb w 2) (xid_answer a BqualLength m)
    (no_xid_number a)))
