use mathlib.Core.Bool.{and_assoc, and-true}
use Rattle.message_layout.specs.Table.{layout, entries_of, items_of}
use Rattle.message_lent.specs.Lent.{column_agrees, columns_agree, item_agrees, agrees, all_agree}
use Rattle.message_lent.specs.Lists.{services, queues}
use Rattle.message_lent.specs.Requests.{discovery_reply}
use Rattle.message_verdict.specs.Writing.{agreeing}
use Rattle.message_payloads.proofs.discovery.DiscoveryReplyRequest.agrees.Goals as goal

pub returns : goal.returns
unfolding discovery_reply layout entries_of items_of services queues agreeing all_agree agrees item_agrees columns_agree column_agrees
returns c = rw (← c.self.view_is, c.ids_agree.ensures, c.is_id.ensures, c.agrees.ensures, c.agrees-2.ensures) (simp (and_assoc, and-true))
