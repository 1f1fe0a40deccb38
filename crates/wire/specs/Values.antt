-- What a layout's fields can hold, which values are valid, and the bytes of a value. Nothing here knows how bytes are read.
use Rattle.std.specs.Prelude.{ℕ, ◌+◌, ◌^◌, ◌<◌, ◌≤◌, ◌≡◌, Bool, true, ◌||◌, ◌&&◌, List, [], ◌∷◌, ◌++◌, length, leb}
use Rattle.wire.specs.Numbers.{Bytes, bytes_of}
use Rattle.wire.specs.Layout.{size, at_most, Field, one, many, xid, Items, Fields, gtrid_most, bqual_most, halves}
use Rattle.wire.specs.declared.Limits.{Limits}
use Rattle.wire.specs.declared.Item.{Item}
use Rattle.wire.specs.declared.Item.TheVariants.{Raw, Num, Str}

-- ---- values

-- an xid: `null` has formatID 0 and nothing more; `branch f g b d` has formatID f, the lengths g and b, and the data d
pub data Xid : Type 0 where
  null : Xid
  branch : ℕ → ℕ → ℕ → List ℕ → Xid

-- the value of an item
abbrev pub Val : Item → Type 0
Val (Raw n) = List ℕ
Val (Num w l) = ℕ
Val Str = List ℕ

-- the values of an element's items
abbrev pub Vals : Items → Type 0
Vals [] = Unit
Vals (i ∷ is) = Val i.kind × Vals is

-- the value of a field
abbrev pub FieldVal : Field → Type 0
FieldVal (one i) = Val i
FieldVal (many w m is) = List (Vals is)
FieldVal xid = Xid

-- the values of a payload's fields
abbrev pub FieldVals : Fields → Type 0
FieldVals [] = Unit
FieldVals (f ∷ fs) = FieldVal f.kind × FieldVals fs

-- ---- validity

-- a number is allowed: it is at most `most`, or from `from` to `to`
unfoldable pub allowed : Limits → ℕ → Bool
allowed l v = leb v l.most || leb l.from v && leb v l.to

-- bytes have the stated length, a number fits its width and is allowed, a string's size fits a u64
abbrev pub Valid : (i : Item) → Val i → Type 0
Valid (Raw n) v = (length v ≡ n) × Bytes v
Valid (Num w l) v = (v < 256 ^ size w) × (allowed l v ≡ true)
Valid Str v = (length v < 256 ^ 8) × Bytes v

-- each item of an element is valid
abbrev pub Valids : (is : Items) → Vals is → Type 0
Valids [] v = Unit
Valids (i ∷ is) v = Valid i.kind v.0 × Valids is v.1

-- each element of a list is valid
abbrev pub AllValid : (is : Items) → List (Vals is) → Type 0
AllValid is [] = Unit
AllValid is (v ∷ vs) = Valids is v × AllValid is vs

-- a list's count is a valid number and its elements are valid; an xid has formatID 0, or another one, two lengths, each at most its limit, and data
-- of their sum (document 02's T-03)
abbrev pub FieldValid : (f : Field) → FieldVal f → Type 0
FieldValid (one i) v = Valid i v
FieldValid (many w m is) vs = Valid (Num w (at_most m)) (length vs) × AllValid is vs
FieldValid xid null = Unit
FieldValid xid (branch f g b d) = (f < 256 ^ 8) × (f ≡ 0 → ⊥) × (g ≤ gtrid_most) × (b ≤ bqual_most) × (length d ≡ g + b) × Bytes d

-- each field of a payload is valid
abbrev pub FieldsValid : (fs : Fields) → FieldVals fs → Type 0
FieldsValid [] v = Unit
FieldsValid (f ∷ fs) v = FieldValid f.kind v.0 × FieldsValid fs v.1

-- ---- the bytes of a value

-- bytes as they are, a number big-endian, a string after its size
unfoldable pub encode_item : (i : Item) → Val i → List ℕ
encode_item (Raw n) v = v
encode_item (Num w l) v = bytes_of (size w) v
encode_item Str v = bytes_of 8 (length v) ++ v

-- one item after the other
unfoldable pub encode_items : (is : Items) → Vals is → List ℕ
encode_items [] v = []
encode_items (i ∷ is) v = encode_item i.kind v.0 ++ encode_items is v.1

-- one element after the other
unfoldable pub encode_elements : (is : Items) → List (Vals is) → List ℕ
encode_elements is [] = []
encode_elements is (v ∷ vs) = encode_items is v ++ encode_elements is vs

-- a list after its count; an xid by its formatID, which is all of it where that is 0
unfoldable pub encode_field : (f : Field) → FieldVal f → List ℕ
encode_field (one i) v = encode_item i v
encode_field (many w m is) vs = bytes_of (size w) (length vs) ++ encode_elements is vs
encode_field xid null = bytes_of 8 0
encode_field xid (branch f g b d) = bytes_of 8 f ++ encode_items (halves g b) ((g, (b, (d, tt))))

-- one field after the other: a payload
unfoldable pub encode : (fs : Fields) → FieldVals fs → List ℕ
encode [] v = []
encode (f ∷ fs) v = encode_field f.kind v.0 ++ encode fs v.1
