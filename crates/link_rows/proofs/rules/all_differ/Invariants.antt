use Rattle.std.proofs.Common.{◌≡◌, ◌&&◌, drop}
use Rattle.link_rows.specs.Rules.{distinct}
use Rattle.link_rows.proofs.rules.all_differ.Given as goal

abbrev pub invariant-loop-i : goal.invariant-loop-i
invariant-loop-i l = distinct l.ids ≡ (l.ok && distinct (drop l.i l.ids))
