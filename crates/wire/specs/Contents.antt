-- What is handed back of an xid: its data, and its numbers.
use Rattle.std.specs.Prelude.{ℕ, List, []}
use Rattle.wire.specs.Values.{Xid, null, branch}
use Rattle.wire.specs.declared.values.XidNumber.{XidNumber}
use Rattle.wire.specs.declared.values.XidNumber.TheVariants.{FormatId, GtridLength, BqualLength}

-- the data of an xid; document 01: one with formatID 0 has no data
abbrev pub data_of : Xid → List ℕ
data_of null = []
data_of (branch f g b d) = d

-- the numbers of an xid; document 01: one with formatID 0 has lengths 0
abbrev pub xid_number : XidNumber → Xid → ℕ
xid_number n null = 0
xid_number FormatId (branch f g b d) = f
xid_number GtridLength (branch f g b d) = g
xid_number BqualLength (branch f g b d) = b
