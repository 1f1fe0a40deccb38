use Rattle.std.proofs.Common.{rules, arith}
use Rattle.wire.proofs.Slices.{number_inside, data_null, data_is}
use Rattle.wire.proofs.values.xid_data.Goals as goal

pub returns-then-number_at-eq0 : goal.returns-then-number_at-eq0
returns-then-number_at-eq0 c = data_null _ _ _ c.number_at.ensures c.if-number_at-eq0.true

pub overflow_add-at : goal.overflow_add-at
overflow_add-at c =
    let inside = number_inside 8 c.args.s.now c.args.at _ c.number_at.ensures c.if-number_at-eq0.false in
    omega (arith, inside, c.well_formed)

pub overflow_add-at-2 : goal.overflow_add-at-2
overflow_add-at-2 c =
    let inside = number_inside 8 c.args.s.now c.args.at _ c.number_at.ensures c.if-number_at-eq0.false in
    omega (arith, inside, c.well_formed)

pub overflow_add-at-3 : goal.overflow_add-at-3
overflow_add-at-3 c =
    let inside = number_inside 8 c.args.s.now c.args.at _ c.number_at.ensures c.if-number_at-eq0.false in
    omega (arith, inside, c.well_formed)

pub overflow_add-at-4 : goal.overflow_add-at-4
overflow_add-at-4 c =
    let inside = number_inside 8 c.args.s.now c.args.at _ c.number_at.ensures c.if-number_at-eq0.false in
    omega (arith, inside, c.well_formed)

pub returns : goal.returns
returns c = search (rules, data_is)
