use Rattle.std.proofs.Common.{refl, ◌∙◌}
use Rattle.boundary_link.specs.Mirror.{numbers_of}
use Rattle.boundary_link.proofs.Fives.{flag_byte}
use Rattle.boundary_link.proofs.mirror.put.Goals as goal

pub returns : goal.returns
unfolding numbers_of
returns c = c.put_rows.ensures ∙ rw (c.copy_from_slice.ensures.after, c.from.ensures, c.from-2.ensures, flag_byte c.args.e.began, flag_byte c.args.e.down) refl
