use Rattle.wire.specs.Values.{encode_items, encode_item}
use Rattle.message_layout.specs.Table.{items_of}
use Rattle.message_lent.specs.Lent.{firsts, first}
use Rattle.message_lent.specs.Lists.{services}
use Rattle.message_put.proofs.Chain.{then, none}
use Rattle.message_put.proofs.lists.ServicesPutFirst.put_nth.Goals as goal

pub returns : goal.returns
unfolding items_of services firsts first encode_items encode_item
returns c = rw (← c.nth.ensures, ← c.nth-2.ensures, ← c.nth-3.ensures, ← c.nth-4.ensures, ← c.nth-5.ensures) (then c.put_string-p.ensures (then c.put_string-p-2.ensures (then c.put_number-p.ensures (then c.put_number-p-2.ensures (then c.put_number.ensures none)))))
