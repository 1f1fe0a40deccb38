-- Document 003's names of what stands on the wire. A field's name stands in message_layout's table; here is what is appended to it.
use Rattle.std.specs.Prelude.{ℕ, zero, suc, List, [], ◌∷◌, ◌++◌, map}
use Rattle.std.specs.Borrow.{Bor}
use Prim.Native.String.{String}
use Rattle.wire.specs.declared.Item.TheVariants.{Raw, Num, Str}
use Rattle.message_layout.specs.declared.Kind.{Kind}
use Rattle.message_layout.specs.declared.Kind.TheVariants as kind
use Rattle.message_layout.specs.declared.Source.{Source}
use Rattle.message_layout.specs.Table.{Entered, entries_from}
use Rattle.text.specs.Text.{words}

-- the pieces of a field, in their order on the wire, each by what is appended to the field's name. The fields of a list's elements come after its
-- size, and those of a part that follows a flag after that flag, by the element's own layout.
abbrev pub pieces : Kind → List String
pieces (kind.One (Raw n)) = "" ∷ []
pieces (kind.One (Num w l)) = "" ∷ []
pieces (kind.One Str) = ".size" ∷ ".data" ∷ []
pieces (kind.List e) = ".size" ∷ []
pieces (kind.Optional e) = "" ∷ []
pieces kind.Xid = ".formatID" ∷ ".gtrid_length" ∷ ".bqual_length" ∷ ".data" ∷ []

-- the name of piece j of a field with that name; none where there is no such piece
abbrev pub piece_name : String → List String → ℕ → List ℕ
piece_name n [] j = []
piece_name n (p ∷ ps) zero = words n ++ words p
piece_name n (p ∷ ps) (suc j) = piece_name n ps j

-- the names of all its pieces
abbrev pub piece_names : String → List String → List (List ℕ)
piece_names n [] = []
piece_names n (p ∷ ps) = (words n ++ words p) ∷ piece_names n ps

-- the names of all pieces of each field
abbrev pub names_in : List Entered → List (List (List ℕ))
names_in [] = []
names_in (e ∷ es) = piece_names e.name (pieces e.kind) ∷ names_in es

-- the same as a table of the code has them
abbrev pub told : Bor (List (Bor (List (Bor (List ℕ))))) → List (List (List ℕ))
told t = map (λ f. map (λ p. p.now) f.now) t.now

-- the name of piece j of field k
abbrev pub name_in : List Entered → ℕ → ℕ → List ℕ
name_in [] k j = []
name_in (e ∷ es) zero j = piece_name e.name (pieces e.kind) j
name_in (e ∷ es) (suc k) j = name_in es k j

-- the same of a message type's layout, or of an element's
unfoldable pub name_of : Source → ℕ → ℕ → List ℕ
name_of s k j = name_in (entries_from s) k j
