use Rattle.std.proofs.Common.{rules}
use Rattle.message_read.specs.Passing.{passing}
use Rattle.message_read.proofs.Passing.{opened-header, opened_inside}
use Rattle.message_read.proofs.pass_message.Goals as goal

pub returns-in_err-opened : goal.returns-in_err-opened
unfolding passing
returns-in_err-opened c = rw (← c.open_message.ensures, c.in_err-opened.was) (search rules)

pub slice_bounds-payload-count : goal.slice_bounds-payload-count
slice_bounds-payload-count c = opened-header _ _ _ c.open_message.ensures _ c.in_ok-opened.was

pub slice_bounds-payload-start : goal.slice_bounds-payload-start
slice_bounds-payload-start c = opened-header _ _ _ c.open_message.ensures _ c.in_ok-opened.was

pub slice_bounds-payload-end : goal.slice_bounds-payload-end
slice_bounds-payload-end c = opened_inside _ _ _ c.open_message.ensures _ c.in_ok-opened.was

pub returns : goal.returns
unfolding passing
returns c = search rules
