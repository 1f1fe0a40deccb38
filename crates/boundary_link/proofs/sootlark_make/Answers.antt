use mathlib.Core.Path.{refl, ◌∙◌}
use borrow.Author.Tests.{eq-eqb, ne_eqb}
use Rattle.boundary_link.proofs.sootlark_make.Goals as goal

pub returns-then-endpoint-ne-NUMBERS : goal.returns-then-endpoint-ne-NUMBERS
returns-then-endpoint-ne-NUMBERS c = let h = ne_eqb _ _ c.if-endpoint-ne-NUMBERS.true in
    record { number = rw h c.unmade.ensures; numbers = rw h refl; store = rw h refl }

pub returns : goal.returns
returns c =
    let h = eq-eqb _ _ c.if-endpoint-ne-NUMBERS.false in
    let m = c.make-a.ensures in
    record { number = rw (h, ← m.reply) (c.into.ensures ∙ c.number.ensures); numbers = rw (h, ← m.endpoint) c.put.ensures; store = rw h m.store }
