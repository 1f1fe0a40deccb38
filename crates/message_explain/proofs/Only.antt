-- Only one reason holds of the bytes: whatever is true of them in the sense of specs/Truth is the reason given. So a later fault, a neighbour's name, another
-- element, or other numbers are not true of them.
use Prim.Native.Nat.{ℕ, ◌+◌, ◌-◌, ◌≤◌, ◌<◌}
use native.Mathlib.Omega.{arith}
use mathlib.Core.Path.{◌≡◌, refl, sym, ap, subst, ◌∙◌}
use mathlib.Core.Bool.{Bool, true, false, cond}
use mathlib.Core.List.{List}
use Rattle.std.specs.Prelude.{Option, None, Some, Ok, Err}
use lib.ListN.{length, drop}
use lib.Dec.{leb, eqb}
use borrow.Author.Tests.{le-leb, lt-leb, lt-ltb, le-ltb, ne_eqb}
use Rattle.wire.specs.Numbers.{Bytes}
use Rattle.wire.specs.Layout.{size}
use Rattle.wire.specs.Reading.{Outcome, refused as refuses, read_end}
use Rattle.wire.specs.declared.Refused.{Refused}
use Rattle.wire.specs.declared.Fault.{Fault}
use Rattle.wire.specs.declared.Fault.TheVariants.{NotWhole, NoSuchVersion, UnknownType, NotInVersion, TooLarge, RunsPast, NotAllowed, BytesAfter, OutputShort, ListsDiffer, NoElement, NoField}
use Rattle.wire.proofs.Bytes.{bytes_take, bytes_drop}
use Rattle.wire.proofs.Before.{Rule, present, fields_by, present_fields}
use Rattle.message_layout.specs.Table.{layout}
use Rattle.message_layout.specs.Message.{header_size, type_in, size_in, payload_in}
use Rattle.message_read.specs.Reading.{Reading, accepted as accepts, answer, opening, reading}
use Rattle.message_read.specs.declared.Accepted.{Accepted}
use Rattle.message_read.proofs.Opening.{never, Turned, no_version, short-header, no_type, not_held, large as too_large, short-payload, opened, opened-reading, turned, turned-reading}
use Rattle.message_walk.specs.declared.Piece.{Piece}
use Rattle.message_walk.specs.declared.Detail.{Detail}
use Rattle.message_walk.specs.declared.Detail.TheVariants.{Room, Value}
use Rattle.message_walk.specs.declared.Reason.{Reason}
use Rattle.message_walk.specs.Walk.{Walk, end, ◌then◌, size_of, walk}
use Rattle.message_walk.specs.Reasons.{value_at, allows, at, fault_of, Passes, reason_of}
use Rattle.message_walk.proofs.Ends.{passes_reason, answered, Ends, passed, stopped, walk_ends}
use Rattle.message_explain.specs.Explaining.{header_reason, because, explaining}
use Rattle.message_explain.specs.Truth.{answered_at, True, accepted, version, header, payload, unknown, other_version, large, short, value, left}
use Rattle.message_explain.proofs.Answered.{told_fault}
use Rattle.message_explain.proofs.Truth.{truth}

-- ---- which faults lie in the fields, and which before them

abbrev in_fields : Fault → Bool
in_fields NotWhole = false
in_fields NoSuchVersion = false
in_fields UnknownType = false
in_fields NotInVersion = false
in_fields TooLarge = false
in_fields RunsPast = true
in_fields NotAllowed = true
in_fields BytesAfter = true
in_fields OutputShort = false
in_fields ListsDiffer = false
in_fields NoElement = false
in_fields NoField = false

not_both : {A : Type 0} (f : Fault) → in_fields f ≡ true → in_fields f ≡ false → A
not_both f a b = cc

turned-before : (v : ℕ) (m : List ℕ) (f : Fault) → Turned v m f → in_fields f ≡ false
turned-before v m f (no_version a) = refl
turned-before v m f (short-header a b) = refl
turned-before v m f (no_type a b c) = refl
turned-before v m f (not_held a b c d) = refl
turned-before v m f (too_large a b c d) = refl
turned-before v m f (short-payload a b c d e) = refl

refused_fault : {x y : Refused} → ◌≡◌ {A = Reading} (Err x) (Err y) → x.fault ≡ y.fault
refused_fault {x} {y} h = let z : x ≡ y = cc in ap (λ (r : Refused). r.fault) z

same_fault : {f g : Fault} {p q : ℕ} {a : Reading} → a ≡ Err (refuses f p) → a ≡ Err (refuses g q) → f ≡ g
same_fault {f} {g} {p} {q} {a} h k = refused_fault (sym h ∙ k)

piece_fault : (s : List ℕ) (x : Piece) (f : Fault) (d : Detail) → fault_of s x ≡ Some (at x f d) → in_fields f ≡ true
piece_fault s x f d h = go (leb (x.place + size_of x.form) (length s)) (allows x.form (value_at x.form s x.place)) h
  where
    go : (a b : Bool) → cond a (cond b None (Some (at x NotAllowed (Value (value_at x.form s x.place))))) (Some (at x RunsPast (Room (size_of x.form) (length s - x.place)))) ≡ Some (at x f d)
        → in_fields f ≡ true
    go true true k = cc
    go true false k = ap in_fields (sym (told_fault k))
    go false b k = ap in_fields (sym (told_fault k))

-- a fault of a message that was opened lies in the fields
field_fault : (s : List ℕ) (t u : ℕ) (w : Walk) (o : Rule → Outcome) → Ends s w end o → (f : Fault) (p : ℕ) → answer t u (read_end s (o present)) ≡ Err (refuses f p)
    → in_fields f ≡ true
unfolding answer read_end
field_fault s t u w o (passed q e l k) f p h = go (eqb q (length s)) (rw (e present) at h)
  where
    go : (b : Bool) → answer t u (cond b (Ok q) (Err (refuses BytesAfter q))) ≡ Err (refuses f p) → in_fields f ≡ true
    go true z = never (sym z)
    go false z = ap in_fields (sym (refused_fault z))
field_fault s t u w o (stopped x v g d e l k z) f p h =
    let i : answer t u (read_end s (Err (refuses g (answered present x)))) ≡ Err (refuses f p) = rw (e present) at h in
    let y : g ≡ f = refused_fault i in
    subst (λ (n : Fault). in_fields n ≡ true) y (piece_fault s x g d z)

-- ---- beside an acceptance there is no reason

pub no_reason : (v : ℕ) (m : List ℕ) (t n : ℕ) → reading v m ≡ Ok (accepts t n) → (r : Option Reason) → True v m r → r ≡ None
no_reason v m t n k r (accepted u w h) = refl
no_reason v m t n k r (version h a) = never (sym h ∙ k)
no_reason v m t n k r (header h a) = never (sym h ∙ k)
no_reason v m t n k r (payload h a b c) = never (sym h ∙ k)
no_reason v m t n k r (unknown h a) = never (sym h ∙ k)
no_reason v m t n k r (other_version h a) = never (sym h ∙ k)
no_reason v m t n k r (large h a) = never (sym h ∙ k)
no_reason v m t n k r (short x h a b c d) = never (sym h ∙ k)
no_reason v m t n k r (value x h a b c d e f) = never (sym h ∙ k)
no_reason v m t n k r (left p w h a b c) = never (sym h ∙ k)

module _ (v : ℕ) (m : List ℕ) where
  abbrev s : List ℕ
  s = payload_in m

  -- ---- refused before the fields

  module _ (f : Fault) (refused : reading v m ≡ Err (refuses f 0)) (before : in_fields f ≡ false) where
    there : (g : Fault) (p : ℕ) → reading v m ≡ Err (refuses g p) → header_reason g v m ≡ header_reason f v m
    there g p h = ap (λ (n : Fault). header_reason n v m) (same_fault h refused)

    elsewhere : {A : Type 0} (g : Fault) (p : ℕ) → reading v m ≡ Err (refuses g p) → in_fields g ≡ true → A
    elsewhere g p h a = not_both f (subst (λ (n : Fault). in_fields n ≡ true) (same_fault h refused) a) before

    only_before : (r : Option Reason) → True v m r → r ≡ header_reason f v m
    only_before r (accepted t n h) = never (sym refused ∙ h)
    only_before r (version h a) = there NoSuchVersion 0 h
    only_before r (header h a) = sym (rw (lt-ltb (length m) header_size a) at (sym (there NotWhole 0 h)))
    only_before r (payload h had a b) =
        let i : header_size ≤ length m = omega arith in
        let y : had ≡ length m - header_size = omega arith in
        rw y (sym (rw (le-ltb (length m) header_size i) at (sym (there NotWhole 0 h))))
    only_before r (unknown h a) = there UnknownType 0 h
    only_before r (other_version h a) = there NotInVersion 0 h
    only_before r (large h a) = there TooLarge 0 h
    only_before r (short x h a b c d) = elsewhere RunsPast (answered_at x) h refl
    only_before r (value x h a b c d e i) = elsewhere NotAllowed x.place h refl
    only_before r (left p n h a b c) = elsewhere BytesAfter p h refl

  -- ---- the fields

  module _ (bytes : Bytes m) (o : Accepted) (told : opening v m ≡ Ok o) (so : explaining v m ≡ reason_of s (walk s o.kind)) where
    abbrev t : ℕ
    t = o.kind

    kind : t ≡ type_in m
    kind = (opened v m o told).1

    ends : Ends s (walk s t) end (λ r. fields_by r (layout t) s 0)
    ends = walk_ends s (bytes_take (size_in m) (drop header_size m) (bytes_drop header_size m bytes)) t

    -- a fault before the fields is none of such a message
    earlier : {A : Type 0} (g : Fault) (p : ℕ) → reading v m ≡ Err (refuses g p) → in_fields g ≡ false → A
    earlier g p h a = not_both g (field_fault s t o.used (walk s t) _ ends g p (rw (present_fields s (layout t) 0) (sym (opened-reading v m o told) ∙ h))) a

    reached : (w : Walk) → Passes s (walk s (type_in m)) w → reason_of s w ≡ reason_of s (walk s t)
    reached w k = sym (rw kind (passes_reason k))

    only_fields : (r : Option Reason) → True v m r → r ≡ reason_of s (walk s t)
    unfolding reason_of
    only_fields r (accepted a n h) = sym (no_reason v m a n h (explaining v m) (truth v m bytes)) ∙ so
    only_fields r (version h a) = earlier NoSuchVersion 0 h refl
    only_fields r (header h a) = earlier NotWhole 0 h refl
    only_fields r (payload h a b c) = earlier NotWhole 0 h refl
    only_fields r (unknown h a) = earlier UnknownType 0 h refl
    only_fields r (other_version h a) = earlier NotInVersion 0 h refl
    only_fields r (large h a) = earlier TooLarge 0 h refl
    only_fields r (short x h f had a b) =
        let i : length s < x.place + size_of x.form = omega arith in
        let y : had ≡ length s - x.place = omega arith in
        rw y (rw (lt-leb (x.place + size_of x.form) (length s) i) at (reached (x then f.rest) f.earlier))
    only_fields r (value x h f w c e l d) =
        let i : leb (x.place + size_of x.form) (length s) ≡ true = rw e (le-leb (x.place + size w) (length s) l) in
        rw (i, e, d) at (reached (x then f.rest) f.earlier)
    only_fields r (left p n h k a b) =
        let i : eqb p (length s) ≡ false = ne_eqb p (length s) (λ z. omega arith) in
        let y : n ≡ length s - p = omega arith in
        rw y (rw i at (reached (end p) k))

  -- the reason is the only one
  pub only : Bytes m → (r : Option Reason) → True v m r → r ≡ explaining v m
  unfolding explaining
  only bytes r t = go (opening v m) refl
    where
      so : (a : Reading) → opening v m ≡ a → explaining v m ≡ because a v m
      so a h = ap (λ (o : Reading). because o v m) h

      go : (a : Reading) → opening v m ≡ a → r ≡ explaining v m
      go (Err x) h =
          only_before x.fault (turned-reading v m x h ∙ ap (λ (p : ℕ). Err (refuses x.fault p)) (turned v m x h).1) (turned-before v m x.fault (turned v m x h).0) r t ∙ sym (so (Err x) h)
      go (Ok a) h = only_fields bytes a h (so (Ok a) h) r t ∙ sym (so (Ok a) h)
