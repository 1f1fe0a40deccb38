use Rattle.text.proofs.Decimal.{put_small, put_more}
use Rattle.text.proofs.+put_decimal.Goals.{then-n-lt10, else-n-lt10}
use Rattle.text.proofs.+put_decimal.Goals as goal

pub returns : goal.returns
returns t c = elim c.if-n-lt10.branch [
  | then-n-lt10 w ↦ put_small _ w.if-n-lt10.true (rw (w.out-is, w.at-is) at c.put_text.ensures)
  | else-n-lt10 w ↦ put_more _ w.if-n-lt10.false w.put_decimal-at.ensures (rw (w.out-is, w.at-is) at c.put_text.ensures)
]
