use Rattle.std.proofs.Common.{◌≡◌, ◌+◌, ◌-◌, ◌∙◌, refl, arith, length, take, drop}
use borrow.Rule.Slice.PartMut.{put_mid}
use Rattle.link_rows.proofs.Front.{tail_lent}
use Rattle.link_bytes.proofs.Lent.{tail_back}
use Rattle.link_script.specs.Play.{playing}
use lib.ListN.{take-append-drop}
use Rattle.link_script.proofs.Turns.{at_end, at_stop, at_more, fits}
use Rattle.link_script.proofs.play_script.Goals as goal

pub perform-played-requires : goal.perform-played-requires
perform-played-requires c = let l = c.loop in
    rw (tail_lent l.played.used c.args.script.now, tail_lent l.played.written l.transcript) (fits _ _ _ _ _ l.invariant (omega arith) c.taken.result c.taken.ensures c.in-Some.entry c.in-Some.is)

pub loop-preserved : goal.loop-preserved
loop-preserved c = let l = c.loop in
    let p = c.perform-played in
    let g = rw (tail_lent l.played.used c.args.script.now, tail_lent l.played.written l.transcript) at p.ensures in
    let e : c.args.n - (l.counter + 1) ≡ c.args.n - l.counter - 1 = omega arith in
    rw e (at_more _ _ _ _ _ l.invariant (omega arith) c.taken.result c.taken.ensures c.in-Some.entry c.in-Some.is _ p.new.store p.new.out _ g (tail_back l.played.written l.transcript p.new.out) (omega arith) (omega arith))

pub returns-in_default : goal.returns-in_default
unfolding playing
returns-in_default c =
    let l = c.loop in
    let f = at_stop _ _ _ _ _ l.invariant (omega arith) c.taken.result c.taken.ensures c.in_default.is in
    let t : put_mid l.played.written (length l.transcript - l.played.written) l.transcript (take (length l.transcript - l.played.written) (drop l.played.written l.transcript)) ≡ l.transcript =
    tail_back l.played.written l.transcript _ ∙ rw (tail_lent l.played.written l.transcript) (take-append-drop l.played.written l.transcript) in
    rw (f, t) (record { entries = refl; used = refl; written = refl; endpoint = refl; store = refl; transcript = refl })

pub returns-after-loop : goal.returns-after-loop
unfolding playing
returns-after-loop c = let f = at_end _ _ _ _ _ c.loop.invariant (omega arith) in
    rw f (record { entries = refl; used = refl; written = refl; endpoint = refl; store = refl; transcript = refl })
