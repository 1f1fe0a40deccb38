use Rattle.message_read.specs.Reading.{reading}
use Rattle.message_choice.proofs.Choosing.{offers_refused}
use Rattle.message_choice.proofs.choose_version.Goals as goal

pub returns-in-Err : goal.returns-in-Err
returns-in-Err c = offers_refused c.args.message.now (reading c.args.version c.args.message.now) _ c.in-Err.ensures
