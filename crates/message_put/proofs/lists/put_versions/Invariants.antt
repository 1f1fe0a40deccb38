use Rattle.message_layout.specs.Table.{items_of}
use Rattle.message_layout.specs.declared.Element.TheVariants.{Version}
use Rattle.message_lent.specs.Lists.{versions}
use lib.ListN.{length, drop}
use Rattle.message_put.proofs.Rows.{Going}
use Rattle.message_put.proofs.lists.put_versions.Given as goal

abbrev pub invariant-loop-number : goal.invariant-loop-number
invariant-loop-number l = Going (items_of Version) (length l.numbers) (versions l.numbers).1 l.initial.out l.initial.p l.number-index (versions (drop l.number-index l.numbers)).1 l.out l.p
