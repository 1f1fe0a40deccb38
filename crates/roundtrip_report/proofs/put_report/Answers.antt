use Rattle.std.proofs.Common.{refl, arith}
use Rattle.roundtrip_report.proofs.Laws.{reported}
use Rattle.roundtrip_report.proofs.put_report.Goals as goal

pub returns : goal.returns
returns c = reported _ _ _ refl refl _ _ _ _ _ _ _ c.is_read.ensures c.same.ensures c.put_head.ensures c.put_outcome.ensures (grind arith)
