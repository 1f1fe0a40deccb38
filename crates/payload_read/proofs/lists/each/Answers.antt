use Rattle.std.proofs.Common.{rules, ◌≡◌}
use Rattle.std.specs.Prelude.{Ok}
use native.Mathlib.Omega.{arith}
use Rattle.payload_read.specs.Stops.{Passed, stop_elements}
use Rattle.payload_read.proofs.Passing.{passed_all, passed-one, stopped}
use Rattle.payload_read.proofs.lists.each.Goals as goal

pub returns-in_err-place : goal.returns-in_err-place
unfolding stop_elements
returns-in_err-place c = search (rules, stopped)

pub loop-i-preserved : goal.loop-i-preserved
loop-i-preserved c =
    let whole : ◌≡◌ {A = Passed} c.element.result (Ok c.in_ok-place.place) = search rules in
    passed-one _ _ _ _ _ _ c.loop-i.invariant (omega arith) _ c.element.ensures _ whole

pub returns : goal.returns
returns c = passed_all _ _ _ _ _ _ c.loop-i.invariant (omega arith)
