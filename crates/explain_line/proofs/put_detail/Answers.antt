use Rattle.text.proofs.Chain.{chain}
use Rattle.explain_line.specs.Lines.{detail_part}
use Rattle.explain_line.proofs.put_detail.Goals as goal

pub returns-in-Room-clause-put : goal.returns-in-Room-clause-put
unfolding detail_part
returns-in-Room-clause-put c = rw c.in-Room.is (search chain)
