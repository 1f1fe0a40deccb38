use Rattle.std.proofs.Common.{◌∙◌, rules}
use Rattle.message_read.specs.Reading.{reading}
use Rattle.message_fields.specs.Contents.{content_part}
use Rattle.message_lists.proofs.Steps.{element_none, element_some, part_from}
use Rattle.message_lists.proofs.element_part.Goals as goal

pub returns-in_err-element_under : goal.returns-in_err-element_under
returns-in_err-element_under c =
    let a = c.args in
    let u = c.in_ok-held in
    let h =
    element_none content_part a.n a.role u.held.bytes.now u.held.found _ c.in_err-element_under.ensures
    ∙ part_from a.message.now a.list a.n a.role u.held.bytes.now u.held.found (reading a.version a.message.now) (search rules) in
    search (rules, h)

pub returns : goal.returns
returns c =
    let a = c.args in
    let u = c.in_ok-held in
    let e = c.in_ok-element_under in
    c.part.ensures
    ∙ element_some content_part a.n a.role u.held.bytes.now u.held.found e.field-0.bytes.now e.field-0.found e.ensures
    ∙ part_from a.message.now a.list a.n a.role u.held.bytes.now u.held.found (reading a.version a.message.now) (search rules)
