use Rattle.std.proofs.Common.{◌∙◌, ap, Some}
use Rattle.message_lists.proofs.Steps.{count_listed}
use Rattle.message_lists.proofs.elements.count_in.Goals as goal

pub returns-in-Some-List : goal.returns-in-Some-List
returns-in-Some-List c =
    let l = c.in-Some-List in
    count_listed c.args.held.bytes.now c.args.held.found l.field-0-0 l.place (l.is ∙ ap Some (rw l.is at l.field-0-is)) c.number_at.result c.number_at.ensures
