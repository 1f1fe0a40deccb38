use mathlib.Core.Bool.{and-true}
use Rattle.message_layout.specs.Table.{layout, entries_of, items_of}
use Rattle.message_lent.specs.Lent.{judged, column_allowed, columns_allowed, item_allowed, field_allowed, all_allowed}
use Rattle.message_lent.specs.Lists.{messages}
use Rattle.message_lent.specs.Requests.{dequeue_reply}
use Rattle.message_verdict.specs.Writing.{allowing}
use Rattle.message_payloads.proofs.Judged.{unjudged}
use Rattle.message_payloads.proofs.work.DequeueReplyRequest.is_allowed.Goals as goal

pub returns : goal.returns
unfolding dequeue_reply layout entries_of items_of messages allowing all_allowed field_allowed item_allowed columns_allowed column_allowed judged
returns c = simp (unjudged, and-true)
