use Rattle.message_put.proofs.Chain.{then, none}
use Rattle.message_put.proofs.Rows.{xid_null, xid_branch}
use Rattle.message_put.proofs.puts.put_xid.Goals as goal

pub returns-then-x-eq0 : goal.returns-then-x-eq0
returns-then-x-eq0 c = search xid_null

pub returns : goal.returns
returns c =
    xid_branch _ _ _ _ c.if-x-eq0.false (then c.put_number-p.ensures (then c.put_number-p-2.ensures (then c.put_number-p-3.ensures (then c.put_run.ensures none))))
