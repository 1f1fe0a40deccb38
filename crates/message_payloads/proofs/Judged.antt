-- Tests that are always met: a list is as long as itself, and numbers that are not judged are allowed.
use Prim.Native.Nat.{ℕ}
use mathlib.Core.Path.{◌≡◌, refl}
use mathlib.Core.Bool.{true}
use mathlib.Core.List.{List, [], ◌∷◌}
use lib.Dec.{eqb}
use borrow.Author.Tests.{eq-eqb}
use Rattle.wire.specs.Layout.{at_most}
use Rattle.wire.specs.declared.Width.{Width}
use Rattle.message_layout.specs.Table.{any_value}
use Rattle.message_lent.specs.Lent.{judged, all_judged}

pub self_test : (n : ℕ) → eqb n n ≡ true
self_test n = eq-eqb n n refl

pub unjudged : (w : Width) (ns : List ℕ) → all_judged w (at_most any_value) ns ≡ true
unfolding all_judged judged
unjudged w [] = refl
unjudged w (n ∷ ns) = unjudged w ns
