use Rattle.std.proofs.Common.{◌+◌, arith}
use Rattle.wire.specs.Decoding.{after_item, after_items}
use Rattle.message_layout.specs.Table.{items_of}
use Rattle.message_lists.proofs.Steps.{then_bytes, then_string}
use Rattle.message_lists.proofs.skip.after_service.Goals as goal

pub returns : goal.returns
unfolding items_of after_items after_item
returns c = let s = c.args.s.now in
    let e1 = c.after_string-name.ensures in
    let e2 = then_string s _ c.after_string-name.result c.after_string-category.result e1 c.after_string-category.ensures in
    let e3 = then_bytes s _ c.after_string-category.result c.within.result e2 18 c.within.ensures in
    omega arith
