use Rattle.std.proofs.Common.{◌≡◌, ◌≤◌, ◌∙◌, refl, sym, ap, arith, length, drop, map, get_or, []}
use mathlib.Core.List.{append-nil}
use lib.ListN.{replicate, length-map, get_or-map, drop_of_length-le}
use lib.Seq.{take_all}
use Rattle.link_rows.specs.Rows.{fresh_row}
use Rattle.link_rows.proofs.Front.{front_more}
use Rattle.boundary_link.specs.Mirror.{row_in, rows_in, as_endpoint}
use Rattle.boundary_link.proofs.Fives.{fives-length}
use Rattle.boundary_link.proofs.mirror.as_endpoint.Goals as goal

pub bounds-rows-i : goal.bounds-rows-i
bounds-rows-i c = omega (arith, ap length c.rows_in-five-items.ensures, fives-length 32 (drop 3 c.args.numbers.now))

pub loop-i-preserved : goal.loop-i-preserved
loop-i-preserved c =
    let g = c.args.numbers.now in
    let l = c.loop-i in
    let r = c.rows_in-five-items.ensures in
    let k = fives-length 32 (drop 3 g) in
    let e : c.row_in.result ≡ get_or (map row_in (rows_in g)) l.i (row_in []) = rw r at c.row_in.ensures ∙ sym (get_or-map row_in (rows_in g) l.i []) in
    front_more (row_in []) (map row_in (rows_in g)) (replicate 32 fresh_row) l.rows l.i c.row_in.result l.invariant e (omega (arith, length-map (rows_in g) row_in, k, ap length r)) (omega (arith, ap length r, k))

pub returns : goal.returns
unfolding as_endpoint
returns c =
    let g = c.args.numbers.now in
    let l = c.loop-i in
    let k = fives-length 32 (drop 3 g) in
    let m : length (map row_in (rows_in g)) ≤ l.i = omega (arith, length-map (rows_in g) row_in, k, ap length c.rows_in-five-items.ensures) in
    rw (l.invariant, take_all l.i (map row_in (rows_in g)) m, drop_of_length-le (replicate 32 fresh_row) {i = l.i} (omega (arith, k, ap length c.rows_in-five-items.ensures)), append-nil) refl
