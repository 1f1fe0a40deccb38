use Rattle.std.proofs.Common.{◌≡◌, ◌∙◌, ◌+◌, ◌*◌, ◌-◌, refl, arith, length, take}
use lib.Seq.{length-take-le, drop-drop}
use Rattle.boundary_link.proofs.Fives.{rows_more, rows_end}
use Rattle.boundary_link.proofs.mirror.put_rows.Goals as goal

pub loop-i-preserved : goal.loop-i-preserved
loop-i-preserved c =
    let g = c.args.numbers.now in
    let l = c.loop-i in
    let k : length (take 3 g) ≡ 3 = length-take-le 3 g (omega (arith, c.requires)) in
    let s : 3 + 5 * l.i + 5 - (3 + 5 * l.i) ≡ 5 = omega arith in
    let e = rows_more (take 3 g) g l.numbers c.args.rows.now l.i _ k (omega arith) refl l.invariant in
    rw (s, c.copy_from_slice.ensures.after, c.row_numbers.ensures, drop-drop 5 (3 + 5 * l.i) l.numbers) e

pub returns : goal.returns
returns c = let g = c.args.numbers.now in
    c.loop-i.invariant ∙ rows_end (take 3 g) g c.args.rows.now c.loop-i.i (omega arith) (length-take-le 3 g (omega arith)) (omega arith) (omega arith)
