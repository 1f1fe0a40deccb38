use Rattle.std.proofs.Common.{◌≡◌, ◌++◌, map, take, drop, replicate}
use Rattle.link_rows.specs.Rules.{session}
use Rattle.link_rows.proofs.rules.sessions.Given as goal

abbrev pub invariant-loop-i : goal.invariant-loop-i
invariant-loop-i l = l.ids ≡ take l.i (map session l.fn.rows) ++ drop l.i (replicate 32 0)
