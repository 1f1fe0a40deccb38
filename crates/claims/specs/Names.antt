-- What a field on the wire is called, in the words of document 003: its field's name in the table, and what is appended for the piece that it is.
use Rattle.std.specs.Prelude.{ℕ, zero, suc, List, [], ◌∷◌, ◌++◌}
use Prim.Native.String.{String}
use Rattle.text.specs.Text.{words}
use Rattle.message_layout.specs.Table.{Entered, entries_from}
use Rattle.message_layout.specs.declared.Kind.{Kind}
use Rattle.message_walk.specs.declared.Form.{Form}
use Rattle.message_walk.specs.declared.Piece.{Piece}
use Rattle.message_walk.specs.Standing.{Formed, bytes, number, size, string_data, list_size, flagged, format_id, gtrid, bqual, xid_data, PieceOf}
use Rattle.message_layout.specs.declared.Source.{Source}

-- the name of field k of a layout
abbrev pub name_at : List Entered → ℕ → String
name_at [] k = ""
name_at (e ∷ es) zero = e.name
name_at (e ∷ es) (suc k) = name_at es k

-- what is appended for each piece
abbrev pub appended : {s : List ℕ} {p : ℕ} {k : Kind} {j : ℕ} {f : Form} → Formed s p k j f → String
appended (bytes n) = ""
appended (number w l) = ""
appended size = ".size"
appended string_data = ".data"
appended (list_size e) = ".size"
appended (flagged e) = ""
appended format_id = ".formatID"
appended (gtrid h) = ".gtrid_length"
appended (bqual h) = ".bqual_length"
appended (xid_data h) = ".data"

-- the name of a field that is a piece of a layout
abbrev pub called : {s : List ℕ} {src : Source} {p : ℕ} {x : Piece} → PieceOf s src p x → List ℕ
called {s} {src} {p} {x} o = words (name_at (entries_from src) x.field) ++ words (appended o.formed)
