use Rattle.wire.specs.Decoding.{after_item, after_items}
use Rattle.message_layout.specs.Table.{items_of}
use Rattle.message_lists.proofs.Steps.{then_string, text_element}
use Rattle.message_lists.proofs.skip.skip.Goals as goal

pub returns-in-Version : goal.returns-in-Version
unfolding items_of after_items after_item
returns-in-Version c = rw c.in-Version.is c.within.ensures

pub returns-in-ServiceName : goal.returns-in-ServiceName
returns-in-ServiceName c = text_element c.args.kind c.args.s.now c.after_string.result c.in-ServiceName.is c.after_string.ensures

pub returns-in-Domain : goal.returns-in-Domain
unfolding items_of after_items after_item
returns-in-Domain c = rw c.in-Domain.is (then_string c.args.s.now _ c.within-in-Domain.result c.after_string-in-Domain.result c.within-in-Domain.ensures c.after_string-in-Domain.ensures)
