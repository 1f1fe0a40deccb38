-- The name that is put for a field on the wire is what it is called.
use Prim.Native.Nat.{ℕ, zero, suc}
use Prim.Native.String.{String}
use mathlib.Core.Path.{◌≡◌, refl, ap, ◌∙◌}
use mathlib.Core.List.{List, [], ◌∷◌, ◌++◌}
use Rattle.std.specs.Prelude.{Some}
use Rattle.text.specs.Text.{words}
use Rattle.message_layout.specs.Table.{row_field, Entered, entries_from, entry_at}
use Rattle.message_layout.specs.declared.Kind.{Kind}
use Rattle.message_layout.specs.declared.Source.{Source}
use Rattle.message_layout.specs.declared.Field.{Field}
use Rattle.message_names.specs.Names.{pieces, piece_name, name_in, name_of}
use Rattle.message_walk.specs.declared.Form.{Form}
use Rattle.message_walk.specs.declared.Piece.{Piece}
use Rattle.message_walk.specs.Standing.{field, Formed, bytes, number, size, string_data, list_size, flagged, format_id, gtrid, bqual, xid_data, PieceOf}
use Rattle.message_explain.specs.Truth as truth
use Rattle.explain_line.specs.Parts.{field_word}
use Rattle.claims.specs.Names.{name_at, appended, called}

-- the name of a piece is made of its field's
field_name : (es : List Entered) (k j r : ℕ) (κ : Kind) → entry_at es k ≡ Some (field r κ) → name_in es k j ≡ piece_name (name_at es k) (pieces κ) j
field_name [] k j r κ h = cc
field_name (e ∷ es) zero j r κ h = let y : row_field e ≡ field r κ = cc in let z : e.kind ≡ κ = ap (λ (f : Field). f.kind) y in rw z
field_name (e ∷ es) (suc k) j r κ h = field_name es k j r κ h

piece_name_lem : (n : String) {s : List ℕ} {p : ℕ} {κ : Kind} {j : ℕ} {f : Form} (h : Formed s p κ j f) → piece_name n (pieces κ) j ≡ words n ++ words (appended h)
piece_name_lem n (bytes m) = refl
piece_name_lem n (number w l) = refl
piece_name_lem n size = refl
piece_name_lem n string_data = refl
piece_name_lem n (list_size e) = refl
piece_name_lem n (flagged e) = refl
piece_name_lem n format_id = refl
piece_name_lem n (gtrid h) = refl
piece_name_lem n (bqual h) = refl
piece_name_lem n (xid_data h) = refl

pub named : (s : List ℕ) (src : Source) (p : ℕ) (x : Piece) (o : PieceOf s src p x) → field_word (Some (truth.name_of x)) ≡ called o
unfolding field_word name_of
named s src p x o =
    rw o.layout
    (field_name (entries_from src) x.field x.piece o.role o.kind o.entry ∙ piece_name_lem (name_at (entries_from src) x.field) o.formed)
