use mathlib.Core.Bool.{and-true}
use Rattle.message_layout.specs.Table.{layout, entries_of}
use Rattle.message_lent.specs.Lent.{judged, column_allowed, columns_allowed, item_allowed, field_allowed, all_allowed}
use Rattle.message_lent.specs.Requests.{service_reply}
use Rattle.message_verdict.specs.Writing.{allowing}
use Rattle.message_payloads.proofs.work.ServiceReplyRequest.is_allowed.Goals as goal

pub returns : goal.returns
unfolding service_reply layout entries_of allowing all_allowed field_allowed item_allowed columns_allowed column_allowed judged
returns c = rw (← c.self.view_is, c.number_allowed.ensures, c.at_most.ensures) (simp (and-true))
