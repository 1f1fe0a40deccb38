use Rattle.std.proofs.Common.{arith, rules, ◌<◌, ◌≡◌, ◌∙◌, sym, map, length}
use Rattle.std.proofs.lemmas.List.{length-map, get_or-map}
use Rattle.link_rows.proofs.Front.{front_more}
use Rattle.link_rows.specs.Rows.{fresh_row}
use Rattle.link_changes.specs.Changes.{closed_row}
use Rattle.link_changes.proofs.down.downed.Goals as goal

pub loop-i-preserved : goal.loop-i-preserved
loop-i-preserved c =
    let rows = c.args.e.rows in
    let i = c.loop-i.i in
    let below : i < length rows = omega arith in
    let mapped : i < length (map closed_row rows) = omega (arith, length-map rows closed_row) in
    let at = c.closed_row.ensures ∙ sym (get_or-map closed_row rows i fresh_row (closed_row fresh_row) below) in
    front_more (closed_row fresh_row) (map closed_row rows) rows c.loop-i.rows i c.closed_row.result c.loop-i.invariant at mapped below
