use Rattle.std.proofs.Common.{◌≡◌, ◌/◌, length, drop, arith, length-drop}
use Rattle.link_rows.proofs.Front.{tail_lent}
use Rattle.boundary_link.proofs.Fives.{chunks_fives}
use Rattle.boundary_link.proofs.mirror.rows_in.Goals as goal

pub returns : goal.returns
returns c =
    let g = c.args.numbers.now in
    let n : length (drop 3 g) / 5 ≡ 32 = omega (arith, length-drop 3 g) in
    rw (tail_lent 3 g, n, chunks_fives) at c.as_chunks.ensures.front
