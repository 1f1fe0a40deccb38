use Rattle.message_read.proofs.Order.{not_served, header-short, type_unknown, not_held, in_version}
use Rattle.message_read.proofs.open_message.Goals as goal

pub returns-then-not-is_served : goal.returns-then-not-is_served
returns-then-not-is_served c = search not_served

pub returns-then-message-lt-HEADER : goal.returns-then-message-lt-HEADER
returns-then-message-lt-HEADER c = search header-short

pub returns-in_default : goal.returns-in_default
returns-in_default c = search type_unknown

pub returns-then-not-holds : goal.returns-then-not-holds
returns-then-not-holds c = search not_held

pub returns : goal.returns
returns c = search in_version
