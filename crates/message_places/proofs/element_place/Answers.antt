use Rattle.std.proofs.Common.{◌∙◌, rules}
use Rattle.message_read.specs.Reading.{reading}
use Rattle.message_places.proofs.Steps.{place_none, place_some, from_within, placed_from}
use Rattle.message_places.proofs.element_place.Goals as goal

pub returns-in_err-element : goal.returns-in_err-element
returns-in_err-element c =
    let a = c.args in
    let u = c.in_ok-held in
    let h =
    place_none a.n a.role u.held.bytes.now u.held.found _ c.in_err-element.ensures
    ∙ placed_from a.message.now a.list a.n a.role u.held.bytes.now u.held.found (reading a.version a.message.now) u.ensures in
    search (rules, h)

pub overflow_sub-base : goal.overflow_sub-base
overflow_sub-base c =
    let a = c.args in
    let u = c.in_ok-held in
    let e = c.in_ok-element in
    from_within a.n a.role u.held.bytes.now u.held.found e.element.bytes.now e.element.found e.ensures

pub returns : goal.returns
returns c =
    let a = c.args in
    let u = c.in_ok-held in
    let e = c.in_ok-element in
    c.place_in.ensures
    ∙ place_some a.n a.role u.held.bytes.now u.held.found e.element.bytes.now e.element.found e.ensures
    ∙ placed_from a.message.now a.list a.n a.role u.held.bytes.now u.held.found (reading a.version a.message.now) u.ensures
