-- How long the parts of a line are: a name has at most 48 bytes, so that every line has at most 160.
use Prim.Native.Nat.{ℕ, zero, suc, ◌≤◌, ◌<◌}
use Prim.Native.String.{String}
use native.Mathlib.Omega.{arith}
use mathlib.Core.Path.{◌≡◌, refl}
use mathlib.Core.Bool.{Bool, true, false, cond, ◌&&◌}
use mathlib.Core.List.{List, [], ◌∷◌, ◌++◌}
use Rattle.std.specs.Prelude.{Option, None, Some}
use lib.ListN.{length, length-append}
use lib.Dec.{leb, eqb}
use borrow.Author.Tests.{leb-true}
use Rattle.wire.specs.Replies.{number}
use Rattle.wire.specs.declared.Fault.{Fault}
use Rattle.wire.specs.declared.Fault.TheVariants.{NotWhole, NoSuchVersion, UnknownType, NotInVersion, TooLarge, RunsPast, NotAllowed, BytesAfter, OutputShort, ListsDiffer, NoElement, NoField}
use Rattle.wire.proofs.Parts.{both}
use Rattle.message_layout.specs.Table.{Entered, Row, table, entries_in, entries_of, entries_from, item_entries, item_fields}
use Rattle.message_layout.specs.declared.Element.{Element}
use Rattle.message_layout.specs.declared.Element.TheVariants.{Version, ServiceName, QueueName, Domain, Service, Queue, Message}
use Rattle.message_layout.specs.declared.Source.{Source}
use Rattle.message_layout.specs.declared.Source.TheVariants as source
use Rattle.message_names.specs.Names.{pieces, piece_name, name_in, name_of}
use Rattle.message_walk.specs.declared.FieldName.{FieldName}
use Rattle.message_walk.specs.declared.FieldName.TheVariants as name
use Rattle.message_walk.specs.declared.Detail.{Detail}
use Rattle.message_walk.specs.declared.Reason.{Reason}
use Rattle.text.specs.Text.{words, decimal}
use Rattle.text.proofs.Decimal.{length-decimal}
use Rattle.explain_line.specs.Parts.{reason_number, named, field_word}
use Rattle.explain_line.specs.Lines.{field_part, element_part, detail_part, parts, explain_line}

abbrev most : ℕ
most = 48

-- ---- the names: a test over the table

abbrev short_pieces : String → List String → Bool
short_pieces n [] = true
short_pieces n (p ∷ ps) = leb (length (words n ++ words p)) most && short_pieces n ps

abbrev short_fields : List Entered → Bool
short_fields [] = true
short_fields (e ∷ es) = short_pieces e.name (pieces e.kind) && short_fields es

abbrev short_rows : List Row → Bool
short_rows [] = true
short_rows (r ∷ rs) = short_fields r.entries && short_rows rs

piece-short : (n : String) (ps : List String) (j : ℕ) → short_pieces n ps ≡ true → length (piece_name n ps j) ≤ most
piece-short n [] j h = omega arith
piece-short n (p ∷ ps) zero h = leb-true _ _ (both (leb (length (words n ++ words p)) most) (short_pieces n ps) h).0
piece-short n (p ∷ ps) (suc j) h = piece-short n ps j (both (leb (length (words n ++ words p)) most) (short_pieces n ps) h).1

field-short : (es : List Entered) (k j : ℕ) → short_fields es ≡ true → length (name_in es k j) ≤ most
field-short [] k j h = omega arith
field-short (e ∷ es) zero j h = piece-short e.name (pieces e.kind) j (both (short_pieces e.name (pieces e.kind)) (short_fields es) h).0
field-short (e ∷ es) (suc k) j h = field-short es k j (both (short_pieces e.name (pieces e.kind)) (short_fields es) h).1

rows_short : (rs : List Row) → short_rows rs ≡ true → (t : ℕ) → short_fields (entries_in rs t) ≡ true
rows_short [] h t = refl
rows_short (r ∷ rs) h t = let b = both (short_fields r.entries) (short_rows rs) h in go (eqb t r.message) b.0 (rows_short rs b.1 t)
  where
    go : (c : Bool) → short_fields r.entries ≡ true → short_fields (entries_in rs t) ≡ true → short_fields (cond c r.entries (entries_in rs t)) ≡ true
    go true a b = a
    go false a b = b

items_short : (e : Element) → short_fields (item_fields (item_entries e)) ≡ true
items_short Version = refl
items_short ServiceName = refl
items_short QueueName = refl
items_short Domain = refl
items_short Service = refl
items_short Queue = refl
items_short Message = refl

source_short : (s : Source) → short_fields (entries_from s) ≡ true
unfolding entries_from entries_of
source_short (source.Message t) = rows_short table refl t
source_short (source.Element e) = items_short e

word_short : (x : Option FieldName) → length (field_word x) ≤ most
unfolding field_word name_of
word_short None = omega arith
word_short (Some name.Header) = omega arith
word_short (Some name.Payload) = omega arith
word_short (Some name.HeaderType) = omega arith
word_short (Some name.HeaderSize) = omega arith
word_short (Some (name.Piece s k j)) = field-short (entries_from s) k j (source_short s)

field-part-short : (x : Option FieldName) → length (field_part x) ≤ 55
unfolding field_part
field-part-short x = go (named x)
  where
    go : (t : Bool) → length (cond t (words " field " ++ field_word x) []) ≤ 55
    go true = omega (arith, word_short x)
    go false = omega arith

-- ---- the numbers: document 01's have at most two digits

small : (f : Fault) → number f < 100
small NotWhole = omega arith
small NoSuchVersion = omega arith
small UnknownType = omega arith
small NotInVersion = omega arith
small TooLarge = omega arith
small RunsPast = omega arith
small NotAllowed = omega arith
small BytesAfter = omega arith
small OutputShort = omega arith
small ListsDiffer = omega arith
small NoElement = omega arith
small NoField = omega arith

number_short : (x : Option Reason) → length (decimal (reason_number x)) ≤ 2
number_short None = length-decimal 1 0 (omega arith)
number_short (Some r) = length-decimal 1 (number r.fault) (omega (arith, small r.fault))

-- ---- the parts, and the line

pub parts-short : (n : Option FieldName) (i : Option ℕ) (d : Detail) → length (element_part i) ≤ 29 → length (detail_part d) ≤ 53
    → length (field_part n ++ (element_part i ++ detail_part d)) ≤ 137
parts-short n i d h k = simp length-append (omega (arith, field-part-short n))

pub line_short : (x : Option Reason) → length (parts x) ≤ 137 → length (explain_line x) ≤ 160
unfolding explain_line
line_short x h = simp length-append (omega (arith, number_short x))
