use Rattle.std.proofs.Common.{arith, ◌∙◌}
use Rattle.link_play.proofs.put_ran.Goals as goal

pub returns : goal.returns
returns c = rw (c.from-stopped.ensures ∙ c.number.ensures) at (c.put_two_numbers.ensures.line (omega arith))
