-- The layout on bytes, derived by hand from its fields: two bytes; a flag, and where that is 1 a u64; a u8 of at most 3. The program run_example runs
-- the code on the same bytes.
use Prim.Native.Nat.{ℕ}
use mathlib.Core.Path.{◌≡◌, refl}
use mathlib.Core.List.{List, [], ◌∷◌}
use Rattle.std.specs.Prelude.{Ok, Err}
use Rattle.wire.specs.Numbers.{be_from, be, bytes_of}
use Rattle.wire.specs.Values.{allowed, encode_item, encode_items, encode_elements, encode_field, encode}
use Rattle.wire.specs.Decoding.{after_item, after_items, after_elements, after_field, item_at, items_at, elements_at, field_at, decode}
use Rattle.wire.specs.Reading.{Outcome, refused, room, read_bytes, read_number, read_item, read_items, read_elements, read_list, read_field, read_fields, read_end}
use Rattle.wire.specs.declared.Fault.TheVariants.{RunsPast, NotAllowed, BytesAfter}
use Rattle.message_layout.specs.Table.{items_of}
use Rattle.layout_example.specs.Example.{example_fields, example_reading}
use Rattle.layout_example.specs.Exact.{ExampleValues, example_bytes}

-- ---- what reading comes to

-- bytes, and what reading them comes to
record Example : Type 0 where
  input : List ℕ
  outcome : Outcome

abbrev gives : List ℕ → Outcome → Example
gives s o = record { input = s; outcome = o }

-- flag 0: the part is absent
abbrev absent : List ℕ
absent = 7 ∷ 8 ∷ 0 ∷ 3 ∷ []

-- flag 1: the part is there
abbrev there : List ℕ
there = 7 ∷ 8 ∷ 1 ∷ 0 ∷ 0 ∷ 0 ∷ 0 ∷ 0 ∷ 0 ∷ 0x12 ∷ 0x34 ∷ 3 ∷ []

abbrev examples : List Example
examples =
    -- flag 0: the state follows the flag
    gives absent (Ok 4)
    -- flag 1: the state follows the number
    ∷ gives there (Ok 12)
    -- flag 2, with a number and a state behind it: 45 at the flag
    ∷ gives (7 ∷ 8 ∷ 2 ∷ 0 ∷ 0 ∷ 0 ∷ 0 ∷ 0 ∷ 0 ∷ 0x12 ∷ 0x34 ∷ 3 ∷ []) (Err (refused NotAllowed 2))
    -- flag 2, with nothing behind it: 45 at the flag all the same
    ∷ gives (7 ∷ 8 ∷ 2 ∷ []) (Err (refused NotAllowed 2))
    -- the largest flag: 45 at the flag
    ∷ gives (7 ∷ 8 ∷ 255 ∷ 3 ∷ []) (Err (refused NotAllowed 2))
    -- no flag: 44 where it should be
    ∷ gives (7 ∷ 8 ∷ []) (Err (refused RunsPast 2))
    -- flag 1, with seven bytes behind it: 44 at the number
    ∷ gives (7 ∷ 8 ∷ 1 ∷ 0 ∷ 0 ∷ 0 ∷ 0 ∷ 0 ∷ 0 ∷ 0x12 ∷ []) (Err (refused RunsPast 3))
    -- flag 1, with nothing behind it: 44 at the number
    ∷ gives (7 ∷ 8 ∷ 1 ∷ []) (Err (refused RunsPast 3))
    -- flag 0, with nothing behind it: 44 at the state
    ∷ gives (7 ∷ 8 ∷ 0 ∷ []) (Err (refused RunsPast 3))
    -- flag 1, with the number and nothing behind that: 44 at the state
    ∷ gives (7 ∷ 8 ∷ 1 ∷ 0 ∷ 0 ∷ 0 ∷ 0 ∷ 0 ∷ 0 ∷ 0x12 ∷ 0x34 ∷ []) (Err (refused RunsPast 11))
    -- state 4 where the part is absent: 45 at the state
    ∷ gives (7 ∷ 8 ∷ 0 ∷ 4 ∷ []) (Err (refused NotAllowed 3))
    -- a byte too many where the part is absent: 46 at that byte
    ∷ gives (7 ∷ 8 ∷ 0 ∷ 3 ∷ 9 ∷ []) (Err (refused BytesAfter 4))
    -- a byte too many where it is there: 46 at that byte
    ∷ gives (7 ∷ 8 ∷ 1 ∷ 0 ∷ 0 ∷ 0 ∷ 0 ∷ 0 ∷ 0 ∷ 0x12 ∷ 0x34 ∷ 3 ∷ 9 ∷ []) (Err (refused BytesAfter 12))
    ∷ []

-- reading each of them
abbrev each_read : List Example → List Example
each_read [] = []
each_read (x ∷ xs) = gives x.input (example_reading x.input) ∷ each_read xs

as_stated : each_read examples ≡ examples
unfolding be_from be allowed room read_bytes read_number read_item read_items read_elements read_list read_field read_fields read_end items_of
as_stated = refl

-- ---- the values of the bytes that are accepted, and back

-- no element where the part is absent
abbrev absent_values : ExampleValues
absent_values = (7 ∷ 8 ∷ [], ([], (3, tt)))

-- one element where it is there
abbrev there_values : ExampleValues
unfolding items_of
there_values = (7 ∷ 8 ∷ [], ((0x1234, tt) ∷ [], (3, tt)))

values_read : (decode example_fields absent 0 ≡ absent_values) × (decode example_fields there 0 ≡ there_values)
unfolding be_from be items_of after_item after_items after_elements after_field item_at items_at elements_at field_at decode
values_read = (refl, refl)

values_written : (example_bytes absent_values ≡ absent) × (example_bytes there_values ≡ there)
unfolding bytes_of items_of encode_item encode_items encode_elements encode_field encode
values_written = (refl, refl)
