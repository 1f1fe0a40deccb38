use Rattle.text.proofs.Chain.{chain}
use Rattle.roundtrip_report.proofs.put_outcome.Goals as goal

pub returns : goal.returns
returns c = search chain
