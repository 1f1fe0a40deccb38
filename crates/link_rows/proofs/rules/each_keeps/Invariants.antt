use Rattle.std.proofs.Common.{◌≡◌, ◌&&◌, drop}
use Rattle.link_rows.specs.Rules.{every, row_keeps}
use Rattle.link_rows.proofs.rules.each_keeps.Given as goal

abbrev pub invariant-loop-r : goal.invariant-loop-r
invariant-loop-r l = every (row_keeps l.last l.down) l.rows ≡ (l.ok && every (row_keeps l.last l.down) (drop l.r-index l.rows))
