use mathlib.Core.Bool.{and_assoc, and-true}
use Rattle.message_layout.specs.Table.{layout, entries_of, items_of}
use Rattle.message_lent.specs.Lent.{judged, column_allowed, columns_allowed, item_allowed, field_allowed, all_allowed}
use Rattle.message_lent.specs.Lists.{services, queues}
use Rattle.message_lent.specs.Requests.{discovery_reply}
use Rattle.message_verdict.specs.Writing.{allowing}
use Rattle.message_payloads.proofs.Judged.{unjudged}
use Rattle.message_payloads.proofs.discovery.DiscoveryReplyRequest.is_allowed.Goals as goal

pub returns : goal.returns
unfolding discovery_reply layout entries_of items_of services queues allowing all_allowed field_allowed item_allowed columns_allowed column_allowed judged
returns c = rw (← c.self.view_is, c.all_allowed.ensures, c.all_allowed-2.ensures, c.all_allowed-3.ensures, c.at_most.ensures, c.at_most-2.ensures, c.at_most-3.ensures) (simp (unjudged, and_assoc, and-true))
