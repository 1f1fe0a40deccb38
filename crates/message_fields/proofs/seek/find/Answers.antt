use Rattle.std.proofs.Common.{ap, sym, ◌∙◌, Some}
use Rattle.message_fields.proofs.Seeking.{walk_all, walk_found, walk_refused}
use Rattle.message_fields.proofs.seek.find.Goals as goal

pub returns-then-role-field : goal.returns-then-role-field
returns-then-role-field c =
    let r = c.row_of-field-items in
    let l = c.loop-field in
    ap Some c.found_at.ensures ∙ walk_found c.args.role c.args.source r.result.now r.ensures c.args.s.now l.field-index l.at l.invariant _ c.loop-field-test.true c.if-role-field.true

pub returns-in_err-at : goal.returns-in_err-at
returns-in_err-at c =
    let r = c.row_of-field-items in
    let l = c.loop-field in
    c.from_residual.ensures ∙ walk_refused c.args.role c.args.source r.result.now r.ensures c.args.s.now l.field-index l.at l.invariant _ c.loop-field-test.true c.if-role-field.false c.kind_field.result c.kind_field.ensures (sym c.ok.ensures.value ∙ c.in_err-at.was)

pub returns : goal.returns
returns c =
    let r = c.row_of-field-items in
    let l = c.loop-field in
    walk_all c.args.role c.args.source r.result.now r.ensures c.args.s.now l.field-index l.at l.invariant c.loop-field-test.false
