-- Laws of the limits and of faults, for the code and for the walk.
use Prim.Native.Nat.{ℕ, zero, suc, ◌+◌, ◌≤◌, ◌<◌}
use native.Mathlib.Nat.{min-eq_left}
use native.Mathlib.Omega.{arith}
use mathlib.Core.Path.{◌≡◌, refl, sym, ap, ◌∙◌}
use mathlib.Core.Bool.{Bool, true, false, cond}
use mathlib.Core.List.{List, [], ◌∷◌}
use lib.ListN.{length}
use lib.Dec.{leb}
use borrow.Author.Tests.{leb-true}
use Rattle.std.specs.Prelude.{Option, None, Some}
use Rattle.wire.specs.Layout.{at_most, gtrid_most, bqual_most}
use Rattle.wire.specs.Numbers.{number_at}
use Rattle.wire.specs.Values.{allowed}
use Rattle.wire.proofs.Parts.{allowed_most}
use Rattle.message_layout.specs.Rows.{places}
use Rattle.message_layout.specs.Table.{Entered, entry_at, entries_from}
use Rattle.message_layout.specs.declared.Field.{Field}
use Rattle.message_layout.specs.declared.Kind.{Kind}
use Rattle.message_layout.specs.declared.Kind.TheVariants as kind
use Rattle.message_layout.specs.declared.Source.{Source}
use Rattle.message_layout.proofs.Places.{entries_short}
use Rattle.message_walk.specs.declared.Piece.{Piece}
use Rattle.message_walk.specs.declared.Position.{Position}
use Rattle.message_walk.specs.declared.Reason.{Reason}
use Rattle.message_walk.specs.Walk.{size_of, gtrid_of}
use Rattle.message_walk.specs.Reasons.{value_at, allows, fault_of}
use Rattle.message_walk.specs.Positions.{form_of, piece_at}

-- the first length of an xid, where a position tells it
pub gtrid_told_lem : (t : ℕ) → t ≤ gtrid_most → t ≡ gtrid_of t
gtrid_told_lem t h = sym (min-eq_left h)

-- a field without a fault lies in the payload, and its value is allowed
judged : (a b : Bool) (r q : Reason) → cond a (cond b None (Some r)) (Some q) ≡ None → (a ≡ true) × (b ≡ true)
judged true true r q h = (refl, refl)
judged true false r q h = cc
judged false b r q h = cc

pub faultless : (s : List ℕ) (x : Piece) → fault_of s x ≡ None
    → (x.place + size_of x.form ≤ length s) × (allows x.form (value_at x.form s x.place) ≡ true)
faultless s x h = let t = judged (leb (x.place + size_of x.form) (length s)) (allows x.form (value_at x.form s x.place)) _ _ h in
    (leb-true (x.place + size_of x.form) (length s) t.0, t.1)

-- the second length of an xid, which is judged
bqual_allowed : (k : Kind) (j t : ℕ) (s : List ℕ) (p : ℕ) → allows (form_of k j t) (value_at (form_of k j t) s p) ≡ true
    → k ≡ kind.Xid → j ≡ 2 → value_at (form_of k j t) s p ≤ bqual_most
bqual_allowed k j t s p h f g =
    let m : allowed (at_most bqual_most) (number_at 8 s p) ≡ true = rw (f, g) at h in
    rw (f, g) (allowed_most bqual_most (number_at 8 s p) m)

pub value_judged : (s : List ℕ) (x : Position) (k : Kind) (y : Piece) → y ≡ piece_at x k → (r : Option Reason) → r ≡ fault_of s y → r ≡ None
    → (v : ℕ) → v ≡ value_at y.form s x.place → k ≡ kind.Xid → x.piece ≡ 2 → v ≤ bqual_most
value_judged s x k y h r f n v e a b =
    let z : fault_of s (piece_at x k) ≡ None = ap (fault_of s) (sym h) ∙ sym f ∙ n in
    let i : v ≡ value_at (form_of k x.piece x.told) s x.place = e ∙ ap (λ (u : Piece). value_at u.form s x.place) h in
    rw i (bqual_allowed k x.piece x.told s x.place (faultless s (piece_at x k) z).1 a b)

-- a field of a layout is one of its places
entry_within : (es : List Entered) (k : ℕ) (y : Field) → Some y ≡ entry_at es k → k < length es
entry_within [] k y h = cc
entry_within (e ∷ es) zero y h = omega arith
entry_within (e ∷ es) (suc k) y h = let i : k < length es = entry_within es k y h in omega arith

pub field_within : (src : Source) (k : ℕ) (y : Field) (o : Option Field) → o ≡ entry_at (entries_from src) k → o ≡ Some y → k < places
field_within src k y o h e =
    let i : k < length (entries_from src) = entry_within (entries_from src) k y (sym e ∙ h) in
    let l : length (entries_from src) ≤ places = entries_short src in
    omega arith
