use Rattle.std.proofs.Common.{◌+◌}
use Rattle.message_choice.proofs.Choosing.{walk_from, walk_all, walk_stop, walk_next}
use Rattle.message_choice.proofs.choose_counted.Goals as goal

pub loop-init : goal.loop-init
loop-init c = walk_from c.number_at-count.result c.args.s.now (c.args.place + 8) c.within.result c.within.ensures

pub loop-preserved : goal.loop-preserved
loop-preserved c =
    let l = c.loop in
    walk_next c.number_at-count.result l.counter l.best _ l.rest.now l.invariant c.loop-test.true c.if-rest-lt8.false c.number_at.result c.better-best.result c.number_at.ensures c.better-best.ensures

pub returns-after-loop : goal.returns-after-loop
returns-after-loop c =
    let l = c.loop in
    rw (← c.number_at-count.ensures) (walk_all c.number_at-count.result l.counter l.best _ l.rest.now l.invariant c.loop-test.false)

pub returns-then-rest-lt8 : goal.returns-then-rest-lt8
returns-then-rest-lt8 c =
    let l = c.loop in
    rw (← c.number_at-count.ensures) (walk_stop c.number_at-count.result l.counter l.best _ l.rest.now l.invariant c.if-rest-lt8.true)
