use Rattle.std.proofs.Common.{rules}
use Rattle.message_put.proofs.Chain.{past, fitting, cut_off}
use Rattle.message_put.proofs.puts.put_run.Goals as goal

pub returns-then-out-at : goal.returns-then-out-at
returns-then-out-at c = past _ _ _ _ (search rules) c.if-out-at.true c.saturating_add.ensures

pub returns-then-s-room : goal.returns-then-s-room
returns-then-s-room c = fitting _ _ _ _ _ (search rules) (search rules) (search rules) c.copy.ensures

pub returns : goal.returns
returns c =
    cut_off _ _ _ _ _ _ (search rules) (search rules) (search rules) (search rules) c.copy-2.ensures c.saturating_add-2.ensures
