use Rattle.std.proofs.Common.{◌≡◌, ◌++◌, take, drop}
use Rattle.link_bytes.proofs.parts.shift.Given as goal

abbrev pub invariant-loop-i : goal.invariant-loop-i
invariant-loop-i l = l.s ≡ take l.i (drop l.n l.initial.s) ++ drop l.i l.initial.s
