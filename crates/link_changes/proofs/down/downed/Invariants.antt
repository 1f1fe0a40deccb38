use Rattle.std.proofs.Common.{◌≡◌, ◌++◌, map, take, drop}
use Rattle.link_changes.specs.Changes.{closed_row}
use Rattle.link_changes.proofs.down.downed.Given as goal

abbrev pub invariant-loop-i : goal.invariant-loop-i
invariant-loop-i l = l.rows ≡ take l.i (map closed_row l.fn.e.rows) ++ drop l.i l.fn.e.rows
