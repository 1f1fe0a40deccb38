use Rattle.std.proofs.Common.{rules, refl, sym, ◌∙◌}
use Rattle.wire.specs.Layout.{at_most, gtrid_most}
use Rattle.wire.specs.declared.Width.TheVariants.{U64}
use Rattle.wire.specs.Reading.{read_halves, read_items, read_item, read_number, read_bytes}
use Rattle.wire.proofs.Parts.{sum_fits, number_accepted}
use Rattle.wire.proofs.fields.halves_field.Goals as goal

pub overflow_add-g : goal.overflow_add-g
overflow_add-g c =
    record {
      fits =
          sum_fits _ _ _ _ c.number_field.ensures _ c.in_ok-second.was _ c.number_at-g.ensures
          _ _ c.number_field-2.ensures _ c.in_ok-data.was _ c.number_at-b.ensures refl;
    }

pub returns-in_err-second : goal.returns-in_err-second
unfolding read_halves read_items read_item read_bytes read_number
returns-in_err-second c = search rules

pub returns-in_err-data : goal.returns-in_err-data
unfolding read_halves read_items read_item read_bytes
returns-in_err-data c = search rules

pub returns : goal.returns
unfolding read_halves read_items read_item
returns c =
    let e = (number_accepted U64 (at_most gtrid_most) c.args.s.now c.args.at _ (sym c.number_field.ensures ∙ c.in_ok-second.was)).0 in
    rw (← c.number_field.ensures, c.in_ok-second.was, ← c.number_field-2.ensures, c.in_ok-data.was, ← e, ← c.number_at-g.ensures, ← c.number_at-b.ensures) c.bytes_field.ensures
