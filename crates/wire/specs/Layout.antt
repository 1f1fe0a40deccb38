-- Layouts as data: which fields a payload has, in their order, each with its role name from document 003.
use Rattle.std.specs.Prelude.{ℕ, ◌+◌, List, [], ◌∷◌}
use Prim.Native.String.{String}
use Rattle.wire.specs.declared.Width.{Width}
use Rattle.wire.specs.declared.Width.TheVariants.{U8, U16, U32, U64}
use Rattle.wire.specs.declared.Limits.{Limits}
use Rattle.wire.specs.declared.Item.{Item}
use Rattle.wire.specs.declared.Item.TheVariants.{Raw, Num}

-- how many bytes a number has
abbrev pub size : Width → ℕ
size U8 = 1
size U16 = 2
size U32 = 4
size U64 = 8

-- the limits of a number that is at most m
abbrev pub at_most : ℕ → Limits
at_most m = record { most = m; from = 0; to = 0 }

-- something with its role name
pub record Named (A : Type 0) : Type 0 where
  pub role : String
  pub kind : A

infix 68 ◌is◌
abbrev pub ◌is◌ : {A : Type 0} → String → A → Named A
r is k = record { role = r; kind = k }

-- a field: one item (`Raw n` is n bytes; `Num w l` a number of width w within the limits l; `Str` document 01's S, a u64 size and as
-- many bytes); `many w m is`, a count of width w that is at most m and as many elements of the items `is` (document 01's L has width U64 and
-- any count); document 01's X
pub data Field : Type 0 where
  one : Item → Field
  many : Width → ℕ → List (Named Item) → Field
  xid : Field

-- the items of a list's elements, and the fields of a payload
abbrev pub Items : Type 0
Items = List (Named Item)

abbrev pub Fields : Type 0
Fields = List (Named Field)

-- ---- an xid

-- the most that gtrid_length may be (document 02's T-03)
abbrev pub gtrid_most : ℕ
gtrid_most = 64

-- the most that bqual_length may be (document 02's T-03)
abbrev pub bqual_most : ℕ
bqual_most = 64

-- what follows a formatID that is not 0: the two lengths, g and b, and data of their sum
abbrev pub halves : ℕ → ℕ → Items
halves g b =
    "xid.gtrid_length" is Num U64 (at_most gtrid_most)
    ∷ "xid.bqual_length" is Num U64 (at_most bqual_most)
    ∷ "xid.data" is Raw (g + b)
    ∷ []
