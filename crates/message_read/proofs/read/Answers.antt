use Rattle.std.proofs.Common.{rules}
use Rattle.message_read.specs.Reading.{answer}
use Rattle.message_read.proofs.Passing.{behind-header, in_message_lem, not_passed, fields_read}
use Rattle.message_read.proofs.read.Goals as goal

pub returns-in_err-tested : goal.returns-in_err-tested
returns-in_err-tested c = search (rules, not_passed)

pub slice_bounds-payload-count : goal.slice_bounds-payload-count
slice_bounds-payload-count c = behind-header _ _ _ c.pass_message.ensures _ c.in_ok-tested.was

pub slice_bounds-payload-start : goal.slice_bounds-payload-start
slice_bounds-payload-start c = behind-header _ _ _ c.pass_message.ensures _ c.in_ok-tested.was

pub slice_bounds-payload-end : goal.slice_bounds-payload-end
slice_bounds-payload-end c = in_message_lem _ _ _ c.pass_message.ensures _ c.in_ok-tested.was

pub returns-in_err-end_field : goal.returns-in_err-end_field
unfolding answer
returns-in_err-end_field c =
    let e = fields_read _ _ _ c.pass_message.ensures _ c.in_ok-tested.was _ _ c.stop_outcome.ensures c.end_field.ensures in
    let w = rw c.in_err-end_field.was at e in search (rules, w)

pub returns : goal.returns
unfolding answer
returns c =
    let e = fields_read _ _ _ c.pass_message.ensures _ c.in_ok-tested.was _ _ c.stop_outcome.ensures c.end_field.ensures in
    rw c.in_ok-end_field.was at e
