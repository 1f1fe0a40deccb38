-- A layout for trying the part that follows a flag, which no message has yet. Its roles and its names are our own.
use Rattle.std.specs.Prelude.{ℕ, List, [], ◌∷◌, Ok}
use Rattle.wire.specs.Layout.{Fields}
use Rattle.wire.specs.Reading.{Outcome, read_fields, read_end}
use Rattle.wire.specs.declared.Width.TheVariants.{U8}
use Rattle.message_layout.specs.Table.{Entered, field, bytes, number, optional, up_to, fields_of}
use Rattle.message_layout.specs.declared.Element.TheVariants.{Version}

-- the roles
abbrev pub Start : ℕ
Start = 100

abbrev pub Part : ℕ
Part = 101

abbrev pub State : ℕ
State = 102

-- two bytes
abbrev pub start : Entered
start = field Start "example.start" (bytes 2)

-- a flag, and where that is 1 a u64
abbrev pub part : Entered
part = field Part "example.part" (optional Version)

-- a u8 of at most 3
abbrev pub state : Entered
state = field State "example.state" (number (up_to U8 3))

abbrev pub example : List Entered
example = start ∷ part ∷ state ∷ []

-- its fields
abbrev pub example_fields : Fields
example_fields = fields_of example

-- reading the bytes s, which have to be those fields and nothing more
abbrev pub example_reading : List ℕ → Outcome
example_reading s = read_end s (read_fields example_fields s (Ok 0))
