use Rattle.std.proofs.Common.{◌+◌, arith}
use Rattle.wire.specs.Decoding.{after_item, after_items}
use Rattle.message_layout.specs.Table.{items_of}
use Rattle.message_lists.proofs.Steps.{then_bytes, then_string}
use Rattle.message_lists.proofs.skip.after_message.Goals as goal

pub returns : goal.returns
unfolding items_of after_items after_item
returns c = let s = c.args.s.now in
    let e1 = c.within-id.ensures in
    let e2 = then_string s _ c.within-id.result c.after_string-properties.result e1 c.after_string-properties.ensures in
    let e3 = then_string s _ c.after_string-properties.result c.after_string-reply.result e2 c.after_string-reply.ensures in
    let e4 = then_bytes s _ c.after_string-reply.result c.within-available.result e3 8 c.within-available.ensures in
    let e5 = then_string s _ c.within-available.result c.after_string-data_type.result e4 c.after_string-data_type.ensures in
    let e6 = then_string s _ c.after_string-data_type.result c.after_string-data.result e5 c.after_string-data.ensures in
    let e7 = then_bytes s _ c.after_string-data.result c.within.result e6 16 c.within.ensures in
    omega arith
