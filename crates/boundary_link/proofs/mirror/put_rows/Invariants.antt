use Rattle.std.proofs.Common.{◌≡◌, ◌++◌, ◌+◌, ◌*◌, drop, take, map}
use Rattle.boundary_link.specs.Mirror.{row_numbers, joined}
use Rattle.boundary_link.proofs.mirror.put_rows.Given as goal

abbrev pub invariant-loop-i : goal.invariant-loop-i
invariant-loop-i l = l.numbers ≡ take (3 + 5 * l.i) (take 3 l.initial.numbers ++ joined (map row_numbers l.rows)) ++ drop (3 + 5 * l.i) l.initial.numbers
