use Rattle.message_lent.specs.Lent.{sum}
use lib.Dec.{eqb}
use lib.ListN.{drop}
use mathlib.Core.Path.{◌≡◌}
use Rattle.message_lent.proofs.tests.sums_to.Given as goal

abbrev pub invariant-loop-n : goal.invariant-loop-n
invariant-loop-n l = eqb (sum (drop l.n-index l.lengths)) l.left ≡ eqb (sum l.lengths) l.bytes
