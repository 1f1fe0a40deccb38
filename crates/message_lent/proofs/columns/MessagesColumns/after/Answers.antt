use Rattle.std.proofs.Common.{refl}
use Rattle.message_layout.specs.Table.{items_of}
use Rattle.message_lent.specs.Lent.{rests, rest}
use Rattle.message_lent.specs.Lists.{messages}
use Rattle.message_lent.proofs.Stepping.{drop_next}
use Rattle.message_lent.proofs.columns.MessagesColumns.after.Goals as goal

pub returns : goal.returns
unfolding items_of messages rests rest
returns c =
    let s = c.args.self.now in
    let i = c.args.i in
    rw (c.after_nth.ensures.lengths, c.after_nth.ensures.run, c.after_nth-2.ensures.lengths, c.after_nth-2.ensures.run, c.after_nth-3.ensures.lengths, c.after_nth-3.ensures.run, c.after_nth-4.ensures.lengths, c.after_nth-4.ensures.run, c.after.ensures, drop_next s.properties.lengths.now i, drop_next s.replies.lengths.now i, drop_next s.types.lengths.now i, drop_next s.contents.lengths.now i, drop_next s.availables.now i, drop_next s.redelivereds.now i, drop_next s.timestamps.now i) refl
