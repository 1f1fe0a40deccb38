use Rattle.std.proofs.Common.{rules}
use Rattle.message_write.proofs.Finish.{refused, done}
use Rattle.message_write.proofs.write.Goals as goal

pub returns-in_err-used : goal.returns-in_err-used
returns-in_err-used g c =
    refused _ _ _ _ _ _ c.kind.ensures c.put-size.ensures _ c.agrees-agree.ensures c.is_allowed-allowed.ensures c.judge.ensures c.in_err-used.was (search rules)

pub returns : goal.returns
returns g c =
    done _ _ _ _ _ _ c.kind.ensures c.put-size.ensures _ _ _ c.agrees-agree.ensures c.is_allowed-allowed.ensures c.judge.ensures c.in_ok-used.was c.kind-2.ensures c.correlation.ensures c.put_header-at.ensures c.put.ensures
