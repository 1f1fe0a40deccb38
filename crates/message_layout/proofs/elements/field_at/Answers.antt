use Rattle.message_layout.specs.Table.{entries_from}
use Rattle.message_layout.proofs.Places.{row_entry, got}
use Rattle.message_layout.proofs.elements.field_at.Goals as goal

pub returns : goal.returns
returns c =
    let h = got c.row_of.result.now c.args.k c.get.result c.get.ensures.lookup.3 in
    let e = row_entry (entries_from c.args.source) c.args.k in
    cc
