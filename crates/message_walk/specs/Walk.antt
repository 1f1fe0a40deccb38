-- The fields on the wire of a payload s, in their order: a row of document 003's tables each. Whether they are valid is judged in Reasons; a size, a
-- count, a flag or a formatID says which fields follow. `next` is what follows behind a field, by the place there.
use Rattle.std.specs.Prelude.{ℕ, zero, suc, ◌+◌, ◌-◌, min, cond, List, [], ◌∷◌, Option, None, Some, eqb}
use Rattle.wire.specs.Numbers.{number_at}
use Rattle.wire.specs.Layout.{size, at_most, gtrid_most, bqual_most}
use Rattle.wire.specs.declared.Item.{Item}
use Rattle.wire.specs.declared.Item.TheVariants.{Raw, Num, Str}
use Rattle.wire.specs.declared.Width.TheVariants.{U8, U64}
use Rattle.message_layout.specs.Table.{any_value, EnteredItem, item_entries, Entered, entries_of}
use Rattle.message_layout.specs.declared.Element.{Element}
use Rattle.message_layout.specs.declared.Kind.{Kind}
use Rattle.message_layout.specs.declared.Kind.TheVariants as kind
use Rattle.message_layout.specs.declared.Source.{Source}
use Rattle.message_layout.specs.declared.Source.TheVariants as source
use Rattle.message_walk.specs.declared.Form.{Form}
use Rattle.message_walk.specs.declared.Form.TheVariants.{Bytes, Number}
use Rattle.message_walk.specs.declared.Piece.{Piece}

-- the walk: field after field, and the place behind the last
infixr 60 ◌then◌
pub data Walk : Type 0 where
  end : ℕ → Walk
  ◌then◌ : Piece → Walk → Walk

-- how many bytes a field on the wire has
abbrev pub size_of : Form → ℕ
size_of (Bytes n) = n
size_of (Number w l) = size w

-- a size, a count or a formatID: a u64 that is not judged; a flag; the two lengths of an xid
abbrev pub count : Form
count = Number U64 (at_most any_value)

abbrev pub flag : Form
flag = Number U8 (at_most 1)

abbrev pub gtrid_length : Form
gtrid_length = Number U64 (at_most gtrid_most)

abbrev pub bqual_length : Form
bqual_length = Number U64 (at_most bqual_most)

-- the first length of an xid, where t was told: a valid one is told as it is, and a position that no walk comes to can tell more
abbrev pub gtrid_of : ℕ → ℕ
gtrid_of t = min t gtrid_most

-- which field it is: field k of a layout, in which element
pub record Mark : Type 0 where
  pub source : Source
  pub field : ℕ
  pub index : Option ℕ

abbrev pub mark : Source → ℕ → Option ℕ → Mark
mark src k i = record { source = src; field = k; index = i }

-- the number of an element where `left` of c are left with it; none where c is 0
abbrev pub index_of : ℕ → ℕ → Option ℕ
index_of c left = cond (eqb c 0) None (Some (c - left))

-- piece j of a field, at p, and what follows
abbrev pub piece_of : Mark → ℕ → Form → ℕ → Piece
piece_of m j f p = record { source = m.source; field = m.field; piece = j; index = m.index; place = p; form = f }

abbrev pub one : Mark → ℕ → Form → ℕ → (ℕ → Walk) → Walk
one m j f p next = piece_of m j f p then next (p + size_of f)

-- ---- the fields at p, from piece j on; t is what the pieces before it told

module _ (s : List ℕ) where
  -- an item: bytes; a number; a string, which is its size, and its data
  abbrev pub item_from : Mark → Item → ℕ → ℕ → ℕ → (ℕ → Walk) → Walk
  item_from m (Raw n) j t p next = one m j (Bytes n) p next
  item_from m (Num w l) j t p next = one m j (Number w l) p next
  item_from m Str zero t p next = one m 0 count p (λ q. one m 1 (Bytes (number_at 8 s p)) q next)
  item_from m Str (suc j) t p next = one m (suc j) (Bytes t) p next

  -- an xid: its formatID, and where that is not 0 its two lengths, and data of their sum
  abbrev pub bqual_from : Mark → ℕ → ℕ → (ℕ → Walk) → Walk
  bqual_from m g p next = one m 2 bqual_length p (λ q. one m 3 (Bytes (g + number_at 8 s p)) q next)

  abbrev pub gtrid_from : Mark → ℕ → (ℕ → Walk) → Walk
  gtrid_from m p next = one m 1 gtrid_length p (λ q. bqual_from m (number_at 8 s p) q next)

  abbrev pub xid_from : Mark → ℕ → ℕ → ℕ → (ℕ → Walk) → Walk
  xid_from m zero t p next = one m 0 count p (λ q. cond (eqb (number_at 8 s p) 0) (next q) (gtrid_from m q next))
  xid_from m (suc zero) t p next = gtrid_from m p next
  xid_from m (suc (suc zero)) t p next = bqual_from m (gtrid_of t) p next
  xid_from m (suc (suc (suc j))) t p next = one m (suc (suc (suc j))) (Bytes t) p next

  -- the items of an element, from item k on
  unfoldable pub items_from : Element → Option ℕ → ℕ → List EnteredItem → ℕ → (ℕ → Walk) → Walk
  items_from e i k [] p next = next p
  items_from e i k (x ∷ xs) p next = item_from (mark (source.Element e) k i) x.item 0 0 p (λ q. items_from e i (k + 1) xs q next)

  -- the elements of a list of c: those that are left
  unfoldable pub elements_from : Element → ℕ → ℕ → ℕ → (ℕ → Walk) → Walk
  elements_from e c zero p next = next p
  elements_from e c (suc left) p next = items_from e (index_of c (suc left)) 0 (item_entries e) p (λ q. elements_from e c left q next)

  -- a field: one item; a list, which is its count and as many elements; a flag, and what follows it; an xid
  abbrev pub field_from : Mark → Kind → ℕ → ℕ → ℕ → (ℕ → Walk) → Walk
  field_from m (kind.One i) j t p next = item_from m i j t p next
  field_from m (kind.List e) j t p next = one m j count p (λ q. elements_from e (number_at 8 s p) (number_at 8 s p) q next)
  field_from m (kind.Optional e) j t p next = one m j flag p (λ q. elements_from e 0 (number_at 1 s p) q next)
  field_from m kind.Xid j t p next = xid_from m j t p next

  -- the fields of a message of type t, from field k on
  unfoldable pub fields_from : ℕ → ℕ → List Entered → ℕ → Walk
  fields_from t k [] p = end p
  fields_from t k (e ∷ es) p = field_from (mark (source.Message t) k None) e.kind 0 0 p (λ q. fields_from t (k + 1) es q)

  -- all fields of a message of type t
  abbrev pub walk : ℕ → Walk
  walk t = fields_from t 0 (entries_of t) 0
