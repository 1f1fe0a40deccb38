-- The rows of the code: the fields of a layout in order.
use Rattle.std.specs.Prelude.{ℕ, List, [], ◌∷◌}
use Rattle.message_layout.specs.Table.{Entered, row_field}
use Rattle.message_layout.specs.declared.Field.{Field}

-- the fields of a layout, as the code has them
abbrev pub row_of : List Entered → List Field
row_of [] = []
row_of (e ∷ es) = row_field e ∷ row_of es

-- the most fields that a layout has: as many as 3102, a message of request T-01 that is not in the table yet. No layout of document 003 has more, a part behind a flag counted as one
abbrev pub places : ℕ
places = 9
