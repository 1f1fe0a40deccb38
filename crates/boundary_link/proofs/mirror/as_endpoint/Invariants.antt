use Rattle.std.proofs.Common.{◌≡◌, ◌++◌, drop, take, map}
use lib.ListN.{replicate}
use Rattle.link_rows.specs.Rows.{fresh_row}
use Rattle.boundary_link.specs.Mirror.{row_in, rows_in}
use Rattle.boundary_link.proofs.mirror.as_endpoint.Given as goal

abbrev pub invariant-loop-i : goal.invariant-loop-i
invariant-loop-i l = l.rows ≡ take l.i (map row_in (rows_in l.numbers)) ++ drop l.i (replicate 32 fresh_row)
