-- What holds of the layout: it is read exactly as its values say, and its fields are found where they stand.
use Rattle.std.specs.Prelude.{ℕ, ◌≡◌, ◌↔◌, ◌⊎◌, List, [], ◌∷◌, length, Some, Ok}
use Rattle.wire.specs.Numbers.{Bytes, number_at}
use Rattle.wire.specs.Values.{Vals, FieldVals, FieldsValid, encode}
use Rattle.wire.specs.Decoding.{decode}
use Rattle.message_layout.specs.Table.{items_of}
use Rattle.message_layout.specs.declared.Element.TheVariants.{Version}
use Rattle.message_fields.specs.Fields.{sought}
use Rattle.message_fields.specs.declared.Found.TheVariants.{Number}
use Rattle.layout_example.specs.Example.{Part, State, example, example_fields, example_reading}

-- the values of its fields
abbrev pub ExampleValues : Type 0
ExampleValues = FieldVals example_fields

abbrev pub ExampleValid : ExampleValues → Type 0
ExampleValid v = FieldsValid example_fields v

-- their bytes
abbrev pub example_bytes : ExampleValues → List ℕ
example_bytes v = encode example_fields v

-- the value of the part that follows the flag
abbrev pub part_of : ExampleValues → List (Vals (items_of Version))
part_of v = v.1.0

-- the value of the field behind it
abbrev pub state_of : ExampleValues → ℕ
state_of v = v.1.1.0

pub record ExampleExact : Type 0 where
  -- bytes are accepted, to the place e, exactly when they are those of valid values and e is their end
  pub accepted : (s : List ℕ) (e : ℕ) → Bytes s
      → (example_reading s ≡ Ok e) ↔ ((v : ExampleValues) × ExampleValid v × (s ≡ example_bytes v) × (e ≡ length s))
  -- the bytes of valid values give these values back
  pub read_back : (v : ExampleValues) → ExampleValid v → decode example_fields (example_bytes v) 0 ≡ v
  -- accepted bytes are the bytes of the values that they give
  pub written_back : (s : List ℕ) (e : ℕ) → Bytes s → example_reading s ≡ Ok e → example_bytes (decode example_fields s 0) ≡ s
  -- the part of valid values is nothing, or one element
  pub part : (v : ExampleValues) → ExampleValid v → (part_of v ≡ []) ⊎ ((w : Vals (items_of Version)) × (part_of v ≡ w ∷ []))

-- finding a field of the layout in accepted bytes s: where the fields before it end, as `sought` finds those of a message
pub record ExampleFound : Type 0 where
  -- under the part's role stands its flag
  pub flag : (s : List ℕ) (e : ℕ) → example_reading s ≡ Ok e → sought Part example s (Ok 0) ≡ Some (Number (number_at 1 s 2))
  -- under the role of the field behind the part stands that field's value, whether the part is there or not
  pub behind : (s : List ℕ) (e : ℕ) → example_reading s ≡ Ok e → sought State example s (Ok 0) ≡ Some (Number (state_of (decode example_fields s 0)))
