-- Where reading answers a field that the walk comes to: of all pieces of a field by the table (`Formed`), only the data of a string is bytes with the number 1.
use Prim.Native.Nat.{ℕ, ◌+◌, ◌-◌, ◌≤◌}
use native.Mathlib.Omega.{arith}
use mathlib.Core.Path.{◌≡◌, refl, sym, ap}
use mathlib.Core.Bool.{Bool, true, false, cond, ◌&&◌}
use mathlib.Core.List.{List}
use Rattle.std.specs.Prelude.{Option, None, Some}
use lib.ListN.{length}
use lib.Dec.{leb, eqb}
use borrow.Author.Tests.{eqb-true}
use Rattle.wire.specs.declared.Fault.{Fault}
use Rattle.wire.specs.declared.Fault.TheVariants.{RunsPast}
use Rattle.wire.proofs.Before.{present}
use Rattle.message_layout.specs.declared.Kind.{Kind}
use Rattle.message_layout.specs.declared.Source.{Source}
use Rattle.message_walk.specs.declared.Form.{Form}
use Rattle.message_walk.specs.declared.Form.TheVariants as form
use Rattle.message_walk.specs.declared.Piece.{Piece}
use Rattle.message_walk.specs.declared.Detail.{Detail}
use Rattle.message_walk.specs.declared.Detail.TheVariants.{Room}
use Rattle.message_walk.specs.declared.Reason.{Reason}
use Rattle.message_walk.specs.Walk.{size_of}
use Rattle.message_walk.specs.Reasons.{at, fault_of}
use Rattle.message_walk.specs.Standing.{field, Formed, bytes, number, size, string_data, list_size, flagged, format_id, gtrid, bqual, xid_data, PieceOf, Stands, in_message, in_element, in_part}
use Rattle.message_walk.proofs.Ends.{is_data, answered}
use Rattle.message_explain.specs.Truth.{is_string, is_string_data, answered_at}

formed_data : {s : List ℕ} {p : ℕ} (r : ℕ) {κ : Kind} {j : ℕ} {f : Form} → Formed s p κ j f → (is_string (Some (field r κ)) && eqb j 1) ≡ is_data j f
formed_data r (bytes n) = refl
formed_data r (number w l) = refl
formed_data r size = refl
formed_data r string_data = refl
formed_data r (list_size e) = refl
formed_data r (flagged e) = refl
formed_data r format_id = refl
formed_data r (gtrid h) = refl
formed_data r (bqual h) = refl
formed_data r (xid_data h) = refl

piece_data : {s : List ℕ} {src : Source} {p : ℕ} {x : Piece} → PieceOf s src p x → is_string_data x.source x.field x.piece ≡ is_data x.piece x.form
piece_data o = rw (o.layout, o.entry) (formed_data o.role o.formed)

pub table_data : {s : List ℕ} {t : ℕ} {x : Piece} → Stands s t x → is_string_data x.source x.field x.piece ≡ is_data x.piece x.form
table_data (in_message i o) = piece_data o
table_data (in_element k r n e h i l o) = piece_data o
table_data (in_part k r n e h i l o) = piece_data o

-- reading answers it where specs/Truth says
pub answered-at : {s : List ℕ} {t : ℕ} {x : Piece} → Stands s t x → answered present x ≡ answered_at x
answered-at {x = x} h = ap (λ (b : Bool). cond b (x.place - 8) x.place) (sym (table_data h))

-- ---- the fault of a reason

pub told_fault : {a b : Reason} → ◌≡◌ {A = Option Reason} (Some a) (Some b) → a.fault ≡ b.fault
told_fault {a} {b} h = let k : a ≡ b = cc in ap (λ (r : Reason). r.fault) k

-- ---- the data of a string

-- it is bytes, with the number 1
shape : (j : ℕ) (f : Form) → is_data j f ≡ true → (j ≡ 1) × ((n : ℕ) × (f ≡ form.Bytes n))
shape j (form.Bytes n) h = (eqb-true j 1 h, (n, refl))
shape j (form.Number w l) h = cc

-- so it can be at fault by running past only
pub data_short : (s : List ℕ) (x : Piece) (g : Fault) (d : Detail) → fault_of s x ≡ Some (at x g d) → is_data x.piece x.form ≡ true → g ≡ RunsPast
data_short s x g d z h = go (leb (x.place + size_of x.form) (length s)) refl (shape x.piece x.form h).1
  where
    go : (b : Bool) → leb (x.place + size_of x.form) (length s) ≡ b → (n : ℕ) × (x.form ≡ form.Bytes n) → g ≡ RunsPast
    go true l (n, e) = let i : None ≡ Some (at x g d) = rw (l, e) at z in cc
    go false l (n, e) = let i : Some (at x RunsPast (Room (size_of x.form) (length s - x.place))) ≡ Some (at x g d) = rw l at z in sym (told_fault i)

-- and its size stands in front of it
piece-behind : {s : List ℕ} {src : Source} {p : ℕ} {x : Piece} → PieceOf s src p x → is_data x.piece x.form ≡ true → 8 ≤ x.place
piece-behind {x = x} o h = let i : x.piece ≡ 1 = (shape x.piece x.form h).0 in omega (arith, o.place)

pub data_behind : {s : List ℕ} {t : ℕ} {x : Piece} → Stands s t x → is_data x.piece x.form ≡ true → 8 ≤ x.place
data_behind (in_message i o) h = piece-behind o h
data_behind (in_element k r n e a i l o) h = piece-behind o h
data_behind (in_part k r n e a i l o) h = piece-behind o h
