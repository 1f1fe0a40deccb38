-- Every reason holds of the bytes, and no field before the one that it names is at fault.
use Prim.Native.Nat.{ℕ, ◌+◌, ◌-◌, ◌≤◌, ◌<◌}
use native.Mathlib.Decide.{dec_le, ℕ_discrete}
use native.Mathlib.Omega.{arith}
use mathlib.Core.Path.{◌≡◌, refl, sym, ap, subst, ◌∙◌}
use mathlib.Core.Bool.{Bool, true, false}
use mathlib.Core.List.{List}
use Rattle.std.specs.Prelude.{Option, None, Some, Ok, Err}
use lib.ListN.{length, drop}
use lib.Dec.{eqb}
use borrow.Author.Tests.{le-leb, lt-leb, lt-ltb, le-ltb, eq-eqb, ne_eqb}
use Rattle.wire.specs.Numbers.{Bytes, number_at}
use Rattle.wire.specs.Layout.{size}
use Rattle.wire.specs.Reading.{refused as refuses, read_fields, read_end}
use Rattle.wire.specs.declared.Fault.{Fault}
use Rattle.wire.specs.declared.Fault.TheVariants.{RunsPast, NotAllowed}
use Rattle.wire.proofs.Bytes.{bytes_take, bytes_drop}
use Rattle.wire.proofs.Before.{present, fields_by, present_fields}
use Rattle.message_layout.specs.Table.{layout}
use Rattle.message_layout.specs.Message.{header_size, type_in, size_in, payload_in}
use Rattle.message_read.specs.Reading.{Reading, answer, opening, reading}
use Rattle.message_read.proofs.Opening.{Turned, no_version, short-header, no_type, not_held, large as too_large, short-payload, opened, opened-reading, turned, turned-reading}
use Rattle.message_walk.specs.declared.Form.{Form}
use Rattle.message_walk.specs.declared.Form.TheVariants as form
use Rattle.message_walk.specs.declared.Piece.{Piece}
use Rattle.message_walk.specs.declared.Detail.{Detail}
use Rattle.message_walk.specs.declared.Detail.TheVariants.{Room, Value}
use Rattle.message_walk.specs.declared.Reason.{Reason}
use Rattle.message_walk.specs.Walk.{Walk, end, ◌then◌, size_of, walk}
use Rattle.message_walk.specs.Reasons.{value_at, allows, at, fault_of, left_over, Passes, or_else, reason_of}
use Rattle.message_walk.proofs.Ends.{passes_reason, answered, Ends, passed, stopped, walk_ends}
use Rattle.message_walk.specs.Standing.{Stands}
use Rattle.message_walk.proofs.Placed.{standing}
use Rattle.message_explain.specs.Explaining.{header_reason, because, explaining}
use Rattle.message_explain.specs.Truth.{answered_at, First, True, accepted, version, header, payload, unknown, other_version, large, short, value, left}
use Rattle.message_explain.proofs.Answered.{answered-at, told_fault}

module _ (v : ℕ) (m : List ℕ) where
  abbrev s : List ℕ
  s = payload_in m

  -- ---- refused before the fields

  before_fields : (f : Fault) → reading v m ≡ Err (refuses f 0) → Turned v m f → True v m (header_reason f v m)
  before_fields f r (no_version a) = version r a
  before_fields f r (short-header a b) = rw (lt-ltb (length m) header_size b) (header r b)
  before_fields f r (no_type a b c) = unknown r c
  before_fields f r (not_held a b c d) = other_version r d
  before_fields f r (too_large a b c d) = large r d
  before_fields f r (short-payload a b c d e) = rw (le-ltb (length m) header_size b) (payload r (length m - header_size) (omega arith) (omega arith))

  -- ---- the fields: the reading of a message that was opened is r

  module _ (t u : ℕ) (kind : t ≡ type_in m) (fields : reading v m ≡ answer t u (read_end s (read_fields (layout t) s (Ok 0)))) where
    -- a field at fault
    at_fault : (x : Piece) (w : Walk) (f : Fault) (d : Detail) → read_fields (layout t) s (Ok 0) ≡ Err (refuses f (answered present x)) → x.place ≤ length s
        → Passes s (walk s t) (x then w) → fault_of s x ≡ Some (at x f d) → True v m (Some (at x f d))
    unfolding read_end answer
    at_fault x w f d o inside k z = go (dec_le (x.place + size_of x.form) (length s)) x.form refl
      where
        stands : Stands s t x
        stands = standing s t x w k

        first : First m x
        first = record { rest = w; earlier = subst (λ (n : ℕ). Passes s (walk s n) (x then w)) kind k; table = subst (λ (n : ℕ). Stands s n x) kind stands }

        refused : (g : Fault) (p : ℕ) → g ≡ f → answered present x ≡ p → reading v m ≡ Err (refuses g p)
        refused g p h e = fields ∙ rw (o, h, e)

        judged : (y : Form) → x.form ≡ y → x.place + size_of x.form ≤ length s → (b : Bool) → allows y (value_at y s x.place) ≡ b → True v m (Some (at x f d))
        judged y e l true h =
            let i : None ≡ Some (at x f d) = rw (le-leb (x.place + size_of x.form) (length s) l, e, h) at z in cc
        judged (form.Bytes n) e l false h = cc
        judged (form.Number q c) e l false h =
            let i : Some (at x NotAllowed (Value (number_at (size q) s x.place))) ≡ Some (at x f d) = rw (le-leb (x.place + size_of x.form) (length s) l, e, h) at z in
            let y : NotAllowed ≡ f = told_fault i in
            subst (True v m) i (value x (refused NotAllowed x.place y (rw e)) first q c e (rw e at l) h)

        go : Dec (x.place + size_of x.form ≤ length s) → (y : Form) → x.form ≡ y → True v m (Some (at x f d))
        go (yes l) y e = judged y e l (allows y (value_at y s x.place)) refl
        go (no l) y e =
            let h : length s < x.place + size_of x.form = omega arith in
            let i : Some (at x RunsPast (Room (size_of x.form) (length s - x.place))) ≡ Some (at x f d) = rw (lt-leb (x.place + size_of x.form) (length s) h) at z in
            let y : RunsPast ≡ f = told_fault i in
            subst (True v m) i (short x (refused RunsPast (answered_at x) y (answered-at stands)) first (length s - x.place) (omega arith) (omega arith))

    -- behind the last field
    at_end : (p : ℕ) → read_fields (layout t) s (Ok 0) ≡ Ok p → p ≤ length s → Passes s (walk s t) (end p) → True v m (left_over s p)
    unfolding read_end answer
    at_end p o inside k = go (ℕ_discrete p (length s))
      where
        go : Dec (p ≡ length s) → True v m (left_over s p)
        go (yes h) = let i : eqb p (length s) ≡ true = eq-eqb p (length s) h in rw i (accepted t u (fields ∙ rw (o, i)))
        go (no h) =
            let i : eqb p (length s) ≡ false = ne_eqb p (length s) h in
            rw i (left p (length s - p) (fields ∙ rw (o, i)) (subst (λ (n : ℕ). Passes s (walk s n) (end p)) kind k) (omega arith) (omega arith))

    in_fields_lem : Ends s (walk s t) end (λ r. fields_by r (layout t) s 0) → True v m (reason_of s (walk s t))
    unfolding reason_of
    in_fields_lem (passed q e l k) = subst (True v m) (sym (passes_reason k)) (at_end q (sym (present_fields s (layout t) 0) ∙ e present) l k)
    in_fields_lem (stopped x w f d e l k z) =
        subst (True v m) (sym (passes_reason k ∙ ap (λ (r : Option Reason). or_else r (reason_of s w)) z)) (at_fault x w f d (sym (present_fields s (layout t) 0) ∙ e present) l k z)

  pub truth : Bytes m → True v m (explaining v m)
  unfolding explaining
  truth bytes = go (opening v m) refl
    where
      go : (a : Reading) → opening v m ≡ a → True v m (because a v m)
      go (Err r) h = before_fields r.fault (turned-reading v m r h ∙ ap (λ (p : ℕ). Err (refuses r.fault p)) (turned v m r h).1) (turned v m r h).0
      go (Ok a) h =
          in_fields_lem a.kind a.used (opened v m a h).1 (opened-reading v m a h) (walk_ends s (bytes_take (size_in m) (drop header_size m) (bytes_drop header_size m bytes)) a.kind)
