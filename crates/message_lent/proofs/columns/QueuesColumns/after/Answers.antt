use Rattle.std.proofs.Common.{refl}
use Rattle.message_layout.specs.Table.{items_of}
use Rattle.message_lent.specs.Lent.{rests, rest}
use Rattle.message_lent.specs.Lists.{queues}
use Rattle.message_lent.proofs.Stepping.{drop_next}
use Rattle.message_lent.proofs.columns.QueuesColumns.after.Goals as goal

pub returns : goal.returns
unfolding items_of queues rests rest
returns c =
    let s = c.args.self.now in
    let i = c.args.i in
    rw (c.after_nth.ensures.lengths, c.after_nth.ensures.run, drop_next s.names.lengths.now i, drop_next s.counts.now i, drop_next s.delays.now i, drop_next s.enqueues.now i, drop_next s.dequeues.now i) refl
