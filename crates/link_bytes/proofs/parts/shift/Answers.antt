use Rattle.std.proofs.Common.{◌≡◌, ◌+◌, ◌-◌, length, drop, get_or, arith, refl}
use Rattle.std.proofs.lemmas.List.{length-drop}
use lib.Seq.{get_or-drop}
use Rattle.link_rows.proofs.Front.{front_more, front_read}
use Rattle.link_bytes.proofs.parts.shift.Goals as goal

pub loop-i-preserved : goal.loop-i-preserved
loop-i-preserved c =
    let g = c.args in
    let i = c.loop-i.i in
    let from = drop g.n g.s.now in
    let long : length from ≡ length g.s.now - g.n = length-drop g.n g.s.now in
    let e : i + g.n ≡ g.n + i = omega arith in
    let read : get_or c.loop-i.s (i + g.n) 0 ≡ get_or from i 0 =
    rw (c.loop-i.invariant, front_read 0 from g.s.now i (i + g.n) (omega arith) (omega arith) (omega arith), get_or-drop, e) refl in
    front_more 0 from g.s.now c.loop-i.s i _ c.loop-i.invariant read (omega arith) (omega arith)
