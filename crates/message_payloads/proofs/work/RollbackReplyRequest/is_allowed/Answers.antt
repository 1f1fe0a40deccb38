use mathlib.Core.Bool.{and-true}
use Rattle.message_layout.specs.Table.{layout, entries_of}
use Rattle.message_lent.specs.Lent.{judged, column_allowed, columns_allowed, item_allowed, field_allowed, all_allowed}
use Rattle.message_lent.specs.Requests.{rollback_reply}
use Rattle.message_verdict.specs.Writing.{allowing}
use Rattle.message_payloads.proofs.work.RollbackReplyRequest.is_allowed.Goals as goal

pub returns : goal.returns
unfolding rollback_reply layout entries_of allowing all_allowed field_allowed item_allowed columns_allowed column_allowed judged
returns c = rw (← c.self.view_is, c.is_allowed.ensures) (simp (and-true))
