use Rattle.explain_line.proofs.Laws.{line_put}
use Rattle.explain_line.proofs.put_reason.Goals as goal

pub returns : goal.returns
returns c = search line_put
