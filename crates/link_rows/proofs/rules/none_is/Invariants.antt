use Rattle.std.proofs.Common.{◌≡◌, ◌&&◌, not, eqb, drop}
use Rattle.link_rows.specs.Rules.{every}
use Rattle.link_rows.proofs.rules.none_is.Given as goal

abbrev pub invariant-loop-y : goal.invariant-loop-y
invariant-loop-y l = every (λ y. not (eqb y l.s)) l.ids ≡ (l.ok && every (λ y. not (eqb y l.s)) (drop l.y-index l.ids))
