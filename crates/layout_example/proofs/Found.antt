-- The layout's fields are found where they stand: wire's theorem of where the fields of any layout end, at this one.
use Prim.Native.Nat.{ℕ, ◌≤◌}
use mathlib.Core.Path.{◌≡◌, refl}
use mathlib.Core.List.{List, [], ◌∷◌}
use lib.ListN.{length}
use Rattle.wire.specs.Numbers.{number_at}
use Rattle.wire.specs.Decoding.{after_item, after_field, item_at, field_at, decode}
use Rattle.wire.specs.Reading.{read_field, read_fields}
use Rattle.std.specs.Prelude.{Some, Ok}
use Rattle.wire.proofs.Ends.{first_field, end_accepted}
use Rattle.message_layout.specs.Table.{field_of, fields_of}
use Rattle.message_fields.specs.Fields.{sought}
use Rattle.message_fields.specs.declared.Found.TheVariants.{Number}
use Rattle.layout_example.specs.Example.{Part, State, start, part, state, example, example_fields, example_reading}
use Rattle.layout_example.specs.Exact.{state_of, ExampleFound}

module _ (s : List ℕ) (e : ℕ) (h : example_reading s ≡ Ok e) where
  -- the part stands at 2
  at_part : (read_field (field_of start.kind) s (Ok 0) ≡ Ok 2) × (2 ≤ length s) × (read_fields (fields_of (part ∷ state ∷ [])) s (Ok 2) ≡ Ok (length s))
  unfolding read_fields after_field after_item
  at_part = first_field s (field_of start.kind) (fields_of (part ∷ state ∷ [])) 0 (length s) (end_accepted s (read_fields example_fields s (Ok 0)) e h).0

  -- the field behind it stands where the part ends
  at-state : read_field (field_of part.kind) s (Ok 2) ≡ Ok (after_field (field_of part.kind) s 2)
  unfolding read_fields
  at-state = (first_field s (field_of part.kind) (fields_of (state ∷ [])) 2 (length s) at_part.2).0

  flag : sought Part example s (Ok 0) ≡ Some (Number (number_at 1 s 2))
  unfolding sought
  flag = rw at_part.0 refl

  behind : sought State example s (Ok 0) ≡ Some (Number (state_of (decode example_fields s 0)))
  unfolding sought decode field_at item_at after_field after_item
  behind = rw (at_part.0, at-state) refl

pub example-found : ExampleFound
example-found = record { flag = flag; behind = behind }
