use Rattle.roundtrip_report.proofs.Laws.{answered}
use Rattle.roundtrip_report.proofs.put_answer.Goals as goal

pub returns : goal.returns
returns c = search answered
