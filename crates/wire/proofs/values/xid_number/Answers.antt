use native.Mathlib.Omega.{arith}
use lib.ListN.{length}
use Prim.Native.Nat.{◌<◌}
use Rattle.wire.proofs.Slices.{number_inside, number_null, number_format, number_gtrid, number_bqual}
use Rattle.wire.proofs.values.xid_number.Goals as goal

pub returns-then-format-eq0 : goal.returns-then-format-eq0
returns-then-format-eq0 c = search number_null

pub overflow_add-at : goal.overflow_add-at
overflow_add-at c = let h : c.args.at < length c.args.s.now = search number_inside in omega (arith, c.well_formed)

pub overflow_add-at-in-BqualLength : goal.overflow_add-at-in-BqualLength
overflow_add-at-in-BqualLength c = let h : c.args.at < length c.args.s.now = search number_inside in omega (arith, c.well_formed)

pub overflow_add-at-in-BqualLength-2 : goal.overflow_add-at-in-BqualLength-2
overflow_add-at-in-BqualLength-2 c = let h : c.args.at < length c.args.s.now = search number_inside in omega (arith, c.well_formed)

pub returns-in-FormatId : goal.returns-in-FormatId
returns-in-FormatId c = search number_format

pub returns-in-GtridLength : goal.returns-in-GtridLength
returns-in-GtridLength c = search number_gtrid

pub returns-in-BqualLength : goal.returns-in-BqualLength
returns-in-BqualLength c = search number_bqual
