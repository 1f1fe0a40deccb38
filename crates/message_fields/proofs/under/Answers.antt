use Rattle.message_fields.proofs.Answers.{under_is}
use Rattle.message_fields.proofs.under.Goals as goal

pub returns : goal.returns
returns c =
    let s = c.payload_of-bytes in
    let f = c.find-found in
    under_is c.args.version c.args.message.now c.read.result c.read.ensures c.in_ok-accepted.accepted c.in_ok-accepted.was s.result.now s.ensures c.args.role f.result f.ensures
