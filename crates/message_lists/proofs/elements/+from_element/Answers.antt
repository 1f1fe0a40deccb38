use Rattle.std.proofs.Common.{◌≡◌, ◌-◌, length, take, drop, arith, ◌∙◌}
use Rattle.message_layout.specs.Table.{items_of}
use Rattle.message_lists.proofs.Steps.{first-from, none-from, none-after, next-from}
use Rattle.message_lists.proofs.elements.+from_element.Goals as goal

pub returns-then-n-eq0 : goal.returns-then-n-eq0
returns-then-n-eq0 t c = first-from c.args.n (items_of c.args.kind) c.args.elements.now c.if-n-eq0.true

pub returns-then-end-elements : goal.returns-then-end-elements
returns-then-end-elements t c =
    let is = items_of c.args.kind in
    let s = c.args.elements.now in
    let p = c.skip-end.result in
    none-from (c.args.n - 1) is (take (length s - p) (drop p s)) (none-after s p c.if-end-elements.true)
    ∙ next-from c.args.n is s c.if-n-eq0.false p c.skip-end.ensures

pub returns : goal.returns
returns t c =
    c.from_element.ensures ∙ next-from c.args.n (items_of c.args.kind) c.args.elements.now c.if-n-eq0.false c.skip-end.result c.skip-end.ensures
