use Rattle.std.proofs.Common.{refl, length, arith, rules}
use Rattle.link_bytes.proofs.Lent.{tail_back}
use Rattle.link_receive.proofs.Runs.{tested, lent_next, at_end, at_refusal, at_more, fits}
use Rattle.link_receive.proofs.records.records.Goals as goal

pub returns-in-Err : goal.returns-in-Err
returns-in-Err c = let l = c.loop-accepted in
    let m = tested l.accepted c.args.n l.used (length c.args.bytes.now) c.loop-accepted-test.true in
    let f = at_refusal _ _ _ _ l.invariant m.0 m.1 _ _ _ _ (lent_next _ _ c.in-Err.ensures) (tail_back l.written l.out c.step.new.out) refl in
    rw f (record { accepted = refl; used = refl; written = refl; stop = refl; endpoint = refl; store = refl; out = refl })

pub overflow_add-used : goal.overflow_add-used
overflow_add-used c = let l = c.loop-accepted in
    let m = tested l.accepted c.args.n l.used (length c.args.bytes.now) c.loop-accepted-test.true in
    let f = fits _ _ _ _ l.invariant m.0 m.1 _ _ _ _ (lent_next _ _ c.in-Ok.ensures) (tail_back l.written l.out c.step.new.out) refl in
    omega (arith, f.0, c.well_formed)

pub overflow_add-written : goal.overflow_add-written
overflow_add-written c = let l = c.loop-accepted in
    let m = tested l.accepted c.args.n l.used (length c.args.bytes.now) c.loop-accepted-test.true in
    let f = fits _ _ _ _ l.invariant m.0 m.1 _ _ _ _ (lent_next _ _ c.in-Ok.ensures) (tail_back l.written l.out c.step.new.out) refl in
    omega (arith, f.1, l.invariant.out_long, c.well_formed)

pub loop-accepted-preserved : goal.loop-accepted-preserved
loop-accepted-preserved c = let l = c.loop-accepted in
    let m = tested l.accepted c.args.n l.used (length c.args.bytes.now) c.loop-accepted-test.true in
    at_more _ _ _ _ l.invariant m.0 m.1 _ _ _ _ (lent_next _ _ c.in-Ok.ensures) (tail_back l.written l.out c.step.new.out) refl

pub returns : goal.returns
returns c = rw (at_end _ _ _ _ c.loop-accepted.invariant c.loop-accepted-test.false) (record { accepted = refl; used = refl; written = refl; stop = search rules; endpoint = refl; store = refl; out = refl })
