use mathlib.Core.Bool.{and_assoc, and-true}
use Rattle.message_layout.specs.Table.{layout, entries_of, items_of}
use Rattle.message_lent.specs.Lent.{column_agrees, columns_agree, item_agrees, agrees, all_agree}
use Rattle.message_lent.specs.Lists.{versions}
use Rattle.message_lent.specs.Requests.{connect_request}
use Rattle.message_verdict.specs.Writing.{agreeing}
use Rattle.message_payloads.proofs.Judged.{self_test}
use Rattle.message_payloads.proofs.connect_request.ConnectRequestRequest.agrees.Goals as goal

pub returns : goal.returns
unfolding connect_request layout entries_of items_of versions agreeing all_agree agrees item_agrees columns_agree column_agrees
returns c = rw (← c.self.view_is, c.ids_agree.ensures, c.is_id.ensures) (simp (self_test, and_assoc, and-true))
