use mathlib.Core.Path.{sym, ◌∙◌}
use Rattle.boundary_link.specs.Mirror.{endpoint_in}
use Rattle.boundary_link.proofs.Whole.{whole_length}
use Rattle.boundary_link.proofs.mirror.load.Goals as goal

pub as_endpoint-requires : goal.as_endpoint-requires
as_endpoint-requires c = whole_length _ (sym c.requires ∙ c.if-whole.true)

pub returns-then-whole : goal.returns-then-whole
unfolding endpoint_in
returns-then-whole c = rw (← c.requires, c.if-whole.true) c.as_endpoint.ensures

pub returns-else-whole : goal.returns-else-whole
unfolding endpoint_in
returns-else-whole c = rw (← c.requires, c.if-whole.false) c.broken.ensures
