use mathlib.Core.Path.{refl, sym, ◌∙◌}
use Rattle.boundary_link.specs.Mirror.{numbers_after}
use Rattle.boundary_link.proofs.Whole.{whole_length}
use Rattle.boundary_link.proofs.mirror.save.Goals as goal

pub put-requires : goal.put-requires
put-requires c = whole_length _ (sym c.requires ∙ c.if-whole.true)

pub returns-then-whole : goal.returns-then-whole
unfolding numbers_after
returns-then-whole c = rw (← c.requires, c.if-whole.true) c.put.ensures

pub returns-else-whole : goal.returns-else-whole
unfolding numbers_after
returns-else-whole c = rw (← c.requires, c.if-whole.false) refl
