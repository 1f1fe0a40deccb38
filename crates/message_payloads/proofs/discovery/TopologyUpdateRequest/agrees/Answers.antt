use mathlib.Core.Bool.{and_assoc, and-true}
use Rattle.message_layout.specs.Table.{layout, entries_of, items_of}
use Rattle.message_lent.specs.Lent.{column_agrees, columns_agree, item_agrees, agrees, all_agree}
use Rattle.message_lent.specs.Lists.{domains}
use Rattle.message_lent.specs.Requests.{topology_update}
use Rattle.message_verdict.specs.Writing.{agreeing}
use Rattle.message_payloads.proofs.discovery.TopologyUpdateRequest.agrees.Goals as goal

pub returns : goal.returns
unfolding topology_update layout entries_of items_of domains agreeing all_agree agrees item_agrees columns_agree column_agrees
returns c = rw (← c.self.view_is, c.ids_agree.ensures, c.agrees.ensures) (simp (and_assoc, and-true))
