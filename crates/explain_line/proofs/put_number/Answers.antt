use Rattle.text.proofs.Chain.{chain}
use Rattle.explain_line.proofs.put_number.Goals as goal

pub returns-clause-put : goal.returns-clause-put
returns-clause-put c = search chain
