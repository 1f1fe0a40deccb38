-- Where a field of the walk stands, by the table and by wire's Decoding alone: it is piece j of field k of its layout, of the kind that the table has
-- there, behind the fields before it; and in a list, in element n, behind the n elements before it.
use Rattle.std.specs.Prelude.{ℕ, zero, suc, ◌+◌, ◌*◌, ◌<◌, ◌≡◌, List, [], ◌∷◌, None, Some}
use Rattle.wire.specs.Numbers.{number_at}
use Rattle.wire.specs.Decoding.{after_field, after_elements}
use Rattle.wire.specs.declared.Item.TheVariants.{Raw, Num, Str}
use Rattle.wire.specs.declared.Width.{Width}
use Rattle.wire.specs.declared.Limits.{Limits}
use Rattle.message_layout.specs.Table.{Entered, field_of, items_of, entries_from, entry_at}
use Rattle.message_layout.specs.declared.Element.{Element}
use Rattle.message_layout.specs.declared.Field.{Field}
use Rattle.message_layout.specs.declared.Kind.{Kind}
use Rattle.message_layout.specs.declared.Kind.TheVariants as kind
use Rattle.message_layout.specs.declared.Source.{Source}
use Rattle.message_layout.specs.declared.Source.TheVariants as source
use Rattle.message_walk.specs.declared.Form.{Form}
use Rattle.message_walk.specs.declared.Form.TheVariants.{Bytes, Number}
use Rattle.message_walk.specs.declared.Piece.{Piece}
use Rattle.message_walk.specs.Walk.{count, flag, gtrid_length, bqual_length}

-- what the pieces of a field of each kind are that starts at p, by their numbers, which are those of message_names: bytes and numbers have one; a string
-- its size, and data of that size; a list its count, and a part that follows a flag that flag; an xid its formatID, and where that is not 0 its two
-- lengths, each within its limit, and data of their sum
pub data Formed (s : List ℕ) (p : ℕ) : Kind → ℕ → Form → Type 0 where
  bytes : (n : ℕ) → Formed s p (kind.One (Raw n)) 0 (Bytes n)
  number : (w : Width) (l : Limits) → Formed s p (kind.One (Num w l)) 0 (Number w l)
  size : Formed s p (kind.One Str) 0 count
  string_data : Formed s p (kind.One Str) 1 (Bytes (number_at 8 s p))
  list_size : (e : Element) → Formed s p (kind.List e) 0 count
  flagged : (e : Element) → Formed s p (kind.Optional e) 0 flag
  format_id : Formed s p kind.Xid 0 count
  gtrid : (number_at 8 s p ≡ 0 → ⊥) → Formed s p kind.Xid 1 gtrid_length
  bqual : (number_at 8 s p ≡ 0 → ⊥) → Formed s p kind.Xid 2 bqual_length
  xid_data : (number_at 8 s p ≡ 0 → ⊥) → Formed s p kind.Xid 3 (Bytes (number_at 8 s (p + 8) + number_at 8 s (p + 8 + 8)))

-- a field of the table, as the code has it
abbrev pub field : ℕ → Kind → Field
field r κ = record { role = r; kind = κ }

-- the place of field k of a layout that starts at p: behind the fields before it
abbrev pub place_in : List Entered → ℕ → List ℕ → ℕ → ℕ
place_in es zero s p = p
place_in [] (suc k) s p = p
place_in (e ∷ es) (suc k) s p = place_in es k s (after_field (field_of e.kind) s p)

-- the place of field k of a message of type t
abbrev pub field_place : List ℕ → ℕ → ℕ → ℕ
field_place s t k = place_in (entries_from (source.Message t)) k s 0

-- x is a piece of field k of a layout that starts at p; every piece before another one of a field has eight bytes
pub record PieceOf (s : List ℕ) (src : Source) (p : ℕ) (x : Piece) : Type 0 where
  pub layout : x.source ≡ src
  pub role : ℕ
  pub kind : Kind
  pub entry : entry_at (entries_from src) x.field ≡ Some (field role kind)
  pub formed : Formed s (place_in (entries_from src) x.field s p) kind x.piece x.form
  pub place : x.place ≡ place_in (entries_from src) x.field s p + 8 * x.piece

-- x stands in the payload s of a message of type t: among its own fields; in element n of the list that is field k; or in the part that follows the flag that
-- is field k, where n is 0, since a valid flag is at most 1
pub data Stands (s : List ℕ) (t : ℕ) (x : Piece) : Type 0 where
  in_message : x.index ≡ None → PieceOf s (source.Message t) 0 x → Stands s t x
  in_element : (k r n : ℕ) (e : Element) → entry_at (entries_from (source.Message t)) k ≡ Some (field r (kind.List e))
      → x.index ≡ Some n → n < number_at 8 s (field_place s t k)
      → PieceOf s (source.Element e) (after_elements n (items_of e) s (field_place s t k + 8)) x → Stands s t x
  in_part : (k r n : ℕ) (e : Element) → entry_at (entries_from (source.Message t)) k ≡ Some (field r (kind.Optional e))
      → x.index ≡ None → n < number_at 1 s (field_place s t k)
      → PieceOf s (source.Element e) (after_elements n (items_of e) s (field_place s t k + 1)) x → Stands s t x
