use Rattle.std.proofs.Common.{refl}
use Rattle.message_layout.specs.Table.{items_of}
use Rattle.message_lent.specs.Lent.{rests, rest}
use Rattle.message_lent.specs.Lists.{services}
use Rattle.message_lent.proofs.Stepping.{drop_next}
use Rattle.message_lent.proofs.columns.ServicesColumns.after.Goals as goal

pub returns : goal.returns
unfolding items_of services rests rest
returns c =
    let s = c.args.self.now in
    let i = c.args.i in
    rw (c.after_nth.ensures.lengths, c.after_nth.ensures.run, c.after_nth-2.ensures.lengths, c.after_nth-2.ensures.run, drop_next s.names.lengths.now i, drop_next s.categories.lengths.now i, drop_next s.modes.now i, drop_next s.timeouts.now i, drop_next s.hops.now i) refl
