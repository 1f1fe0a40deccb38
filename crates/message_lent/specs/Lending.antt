-- What the types of a writer's arguments say of what is lent, and how the values of a message are lent.
use Rattle.std.specs.Prelude.{ℕ, ◌^◌, ◌<◌, ◌≡◌, List, [], ◌∷◌, ◌++◌, map, length, get_or}
use Rattle.wire.specs.Numbers.{Bytes}
use Rattle.wire.specs.Layout.{size, Field, one, many, xid, Items, Fields}
use Rattle.wire.specs.declared.Item.{Item}
use Rattle.wire.specs.declared.Item.TheVariants.{Raw, Num, Str}
use Rattle.wire.specs.Values.{Xid, null, branch, Val, Vals, FieldVal, FieldVals}
use Rattle.message_layout.specs.Table.{any_value, layout}
use Rattle.message_layout.specs.Message.{Message}
use Rattle.message_lent.specs.Lent.{Column, Columns, LentXid, lent_xid, Lent, Lents}
use Rattle.message_lent.specs.Requests.{Request}

-- ---- what the types say

-- a slice of bytes
abbrev pub Slice : List ℕ → Type 0
Slice s = (length s < 256 ^ 8) × Bytes s

-- a slice of bytes; a number that is not judged is lent at its width
abbrev pub ItemTyped : (i : Item) → Val i → Type 0
ItemTyped (Raw n) v = Slice v
ItemTyped (Num w l) v = l.most ≡ any_value → v < 256 ^ size w
ItemTyped Str v = Slice v

abbrev pub ColumnTyped : (i : Item) → Column i → Type 0
ColumnTyped (Raw n) run = Slice run
ColumnTyped (Num w l) ns = l.most ≡ any_value → (i : ℕ) → get_or ns i 0 < 256 ^ size w
ColumnTyped Str c = Slice c.1

abbrev pub ColumnsTyped : (is : Items) → Columns is → Type 0
ColumnsTyped [] cs = Unit
ColumnsTyped (i ∷ is) cs = ColumnTyped i.kind cs.0 × ColumnsTyped is cs.1

abbrev pub Typed : (f : Field) → Lent f → Type 0
Typed (one i) l = ItemTyped i l
Typed (many w m is) l = (m ≡ any_value → l.0 < 256 ^ size w) × ColumnsTyped is l.1
Typed xid l = (l.format < 256 ^ 8) × Slice l.bytes

abbrev pub AllTyped : (fs : Fields) → Lents fs → Type 0
AllTyped [] l = Unit
AllTyped (f ∷ fs) l = Typed f.kind l.0 × AllTyped fs l.1

abbrev pub RequestTyped : Request → Type 0
RequestTyped q = Slice q.correlation × AllTyped (layout q.kind) q.lent

-- ---- values as they are lent

-- strings joined to one run
unfoldable pub joined : List (List ℕ) → List ℕ
joined [] = []
joined (s ∷ ss) = s ++ joined ss

-- an item of all elements
unfoldable pub lend_column : (i : Item) → List (Val i) → Column i
lend_column (Raw n) vs = joined vs
lend_column (Num w l) vs = vs
lend_column Str vs = (map length vs, joined vs)

unfoldable pub lend_columns : (is : Items) → List (Vals is) → Columns is
lend_columns [] vs = tt
lend_columns (i ∷ is) vs = (lend_column i.kind (map (λ v. v.0) vs), lend_columns is (map (λ v. v.1) vs))

unfoldable pub lend_xid : Xid → LentXid
lend_xid null = lent_xid 0 0 0 []
lend_xid (branch f g b d) = lent_xid f g b d

unfoldable pub lend_field : (f : Field) → FieldVal f → Lent f
lend_field (one i) v = v
lend_field (many w m is) vs = (length vs, lend_columns is vs)
lend_field xid x = lend_xid x

unfoldable pub lend_fields : (fs : Fields) → FieldVals fs → Lents fs
lend_fields [] v = tt
lend_fields (f ∷ fs) v = (lend_field f.kind v.0, lend_fields fs v.1)

-- a message as it is lent
abbrev pub lend : Message → Request
lend x = record { kind = x.kind; correlation = x.correlation; lent = lend_fields (layout x.kind) x.values }
