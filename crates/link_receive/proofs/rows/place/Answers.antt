use mathlib.Core.Path.{◌≡◌, sym, ◌∙◌}
use mathlib.Core.Bool.{true}
use Rattle.link_rows.specs.Rows.{is_served}
use Rattle.link_rows.proofs.Laws.{served-row}
use Rattle.link_receive.proofs.rows.place.Goals as goal

pub returns-then-is_served : goal.returns-then-is_served
returns-then-is_served c =
    let t : is_served c.args.id ≡ true = sym c.is_served.ensures ∙ c.if-is_served.true in
    record { within = rw c.row_of.ensures (served-row c.args.id t); same = λ s. c.row_of.ensures }
