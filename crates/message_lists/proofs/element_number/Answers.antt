use Rattle.std.proofs.Common.{◌∙◌, rules}
use Rattle.message_read.specs.Reading.{reading}
use Rattle.message_fields.specs.Contents.{content_number}
use Rattle.message_lists.proofs.Steps.{element_none, element_some, value_from}
use Rattle.message_lists.proofs.element_number.Goals as goal

pub returns-in_err-element_under : goal.returns-in_err-element_under
returns-in_err-element_under c =
    let a = c.args in
    let u = c.in_ok-under in
    let h =
    element_none content_number a.n a.role u.field-0.bytes.now u.field-0.found _ c.in_err-element_under.ensures
    ∙ value_from a.message.now a.list a.n a.role u.field-0.bytes.now u.field-0.found (reading a.version a.message.now) u.ensures in
    search (rules, h)

pub returns : goal.returns
returns c =
    let a = c.args in
    let u = c.in_ok-under in
    let e = c.in_ok-element_under in
    c.number.ensures
    ∙ element_some content_number a.n a.role u.field-0.bytes.now u.field-0.found e.field-0.bytes.now e.field-0.found e.ensures
    ∙ value_from a.message.now a.list a.n a.role u.field-0.bytes.now u.field-0.found (reading a.version a.message.now) u.ensures
