use Rattle.std.proofs.Common.{refl, arith}
use Rattle.roundtrip_report.proofs.Laws.{put_whole}
use Rattle.roundtrip_report.proofs.put_large.Goals as goal

pub returns : goal.returns
returns c = put_whole _ _ _ refl refl _ c.text.ensures c.number.ensures c.put_answer.ensures c.text-2.ensures (grind arith)
