use Rattle.std.proofs.Common.{rules, length, drop}
use Rattle.message_layout.specs.Table.{items_of}
use Rattle.message_layout.specs.declared.Element.TheVariants.{Version}
use Rattle.message_lent.specs.Lent.{value_lent}
use Rattle.message_lent.specs.Lists.{list_bytes, versions}
use Rattle.message_put.proofs.Chain.{ends}
use Rattle.message_put.proofs.Rows.{going_none, going_all}
use Rattle.message_put.proofs.Versions.{versions_more, versions-counted}
use Rattle.message_put.proofs.lists.put_versions.Goals as goal

pub returns-then-out-p : goal.returns-then-out-p
returns-then-out-p c =
    versions-counted _ c.put_number-p.ensures c.if-out-p.true (ends _ _ _ (search rules) c.saturating_add.ensures)

pub loop-number-init : goal.loop-number-init
loop-number-init c = going_none _ _ _ _ _

pub loop-number-preserved : goal.loop-number-preserved
loop-number-preserved c =
    versions_more _ _ c.loop-number.invariant c.loop-number-test.true c.put_number-p-in-loop-number.ensures

pub returns : goal.returns
unfolding list_bytes value_lent versions
returns c = let ns = c.args.numbers.now in
    let i = c.loop-number.number-index in
    going_all (items_of Version) (length ns) (versions ns).1 i (versions (drop i ns)).1 c.put_number-p.ensures c.loop-number.invariant (search rules)
