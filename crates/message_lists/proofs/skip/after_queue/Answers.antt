use Rattle.std.proofs.Common.{◌+◌, arith}
use Rattle.wire.specs.Decoding.{after_item, after_items}
use Rattle.message_layout.specs.Table.{items_of}
use Rattle.message_lists.proofs.Steps.{then_bytes}
use Rattle.message_lists.proofs.skip.after_queue.Goals as goal

pub returns : goal.returns
unfolding items_of after_items after_item
returns c = let s = c.args.s.now in
    let e = then_bytes s _ c.after_string-name.result c.within.result c.after_string-name.ensures 18 c.within.ensures in
    omega arith
