use Rattle.wire.specs.Values.{encode_items, encode_item}
use Rattle.message_layout.specs.Table.{items_of}
use Rattle.message_lent.specs.Lent.{firsts, first}
use Rattle.message_lent.specs.Lists.{domains}
use Rattle.message_put.proofs.Chain.{then, none}
use Rattle.message_put.proofs.lists.DomainsPutFirst.put_nth.Goals as goal

pub returns : goal.returns
unfolding items_of domains firsts first encode_items encode_item
returns c = rw (← c.front.ensures, ← c.nth.ensures) (then c.put_bytes-p.ensures (then c.put_string.ensures none))
