use mathlib.Core.Path.{◌≡◌}
use Prim.Native.Nat.{◌-◌}
use Rattle.payload_read.specs.Stops.{stop_elements}
use Rattle.payload_read.proofs.lists.each.Given as goal

abbrev pub invariant-loop-i : goal.invariant-loop-i
invariant-loop-i l = stop_elements l.kind l.n (l.n - l.i-counter) l.s l.place ≡ stop_elements l.kind l.n l.n l.s l.at
