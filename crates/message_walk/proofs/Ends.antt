-- The walk is the reading's: where reading accepts a field, its pieces are passed over, and where it refuses one, the walk comes to a piece at fault,
-- over pieces that are not; the place answered is that piece's, but for a string's data, which is answered at its size. The reading by the rule before
-- T-02, which answered that at itself (wire/proofs/Before), is led along: it comes to the same piece. Each kind is put together of its parts by one law, `follow`.
use Prim.Native.Nat.{ℕ, zero, suc, ◌+◌, ◌-◌, ◌≤◌, ◌<◌}
use native.Mathlib.Decide.{dec_le}
use native.Mathlib.Omega.{arith}
use mathlib.Core.Path.{◌≡◌, refl, ap, subst, ◌∙◌}
use mathlib.Core.Bool.{Bool, true, false, cond}
use mathlib.Core.List.{List, [], ◌∷◌}
use Rattle.std.specs.Prelude.{Option, None, Some, Ok, Err}
use lib.ListN.{length}
use lib.Dec.{eqb}
use borrow.Author.Tests.{le-leb, lt-leb}
use Rattle.wire.specs.Numbers.{Bytes, number_at}
use Rattle.wire.specs.Layout.{size, at_most, gtrid_most, bqual_most}
use Rattle.wire.specs.Values.{allowed}
use Rattle.wire.specs.Reading.{Outcome, refused, and_then, room, read_bytes, read_number, read_item, read_items, read_halves, read_xid}
use Rattle.wire.specs.declared.Item.{Item}
use Rattle.wire.specs.declared.Item.TheVariants.{Raw, Num, Str}
use Rattle.wire.specs.declared.Width.{Width}
use Rattle.wire.specs.declared.Width.TheVariants.{U8, U64}
use Rattle.wire.specs.declared.Fault.{Fault}
use Rattle.wire.specs.declared.Fault.TheVariants.{RunsPast, NotAllowed}
use Rattle.wire.specs.declared.Limits.{Limits}
use Rattle.wire.specs.declared.Refused.{Refused}
use Rattle.wire.proofs.Bytes.{number_below}
use Rattle.wire.proofs.Parts.{room_fits, room-short, room_accepted, any_allowed, number_accepted}
use Rattle.wire.proofs.Before.{Rule, present, former, data_place, item_by, items_by, elements_by, field_by, fields_by}
use Rattle.message_layout.specs.Table.{any_value, EnteredItem, item_entries, named_items, items_of, Entered, entries_of, field_of, fields_of, layout}
use Rattle.message_layout.specs.declared.Element.{Element}
use Rattle.message_layout.specs.declared.Kind.{Kind}
use Rattle.message_layout.specs.declared.Kind.TheVariants as kind
use Rattle.message_layout.specs.declared.Source.TheVariants as source
use Rattle.message_walk.specs.declared.Form.{Form}
use Rattle.message_walk.specs.declared.Form.TheVariants as form
use Rattle.message_walk.specs.declared.Piece.{Piece}
use Rattle.message_walk.specs.declared.Detail.{Detail}
use Rattle.message_walk.specs.declared.Detail.TheVariants.{Room, Value}
use Rattle.message_walk.specs.Walk as walk
use Rattle.message_walk.specs.Walk.{Walk, end, ◌then◌, size_of, count, Mark, mark, index_of, piece_of, item_from, xid_from, gtrid_from, bqual_from, items_from, elements_from, field_from, fields_from}
use Rattle.message_walk.specs.Reasons.{at, fault_of, Passes, here, over, reason_of}

-- ---- passing over fields

pub passes_on : {s : List ℕ} {w u v : Walk} → Passes s w u → Passes s u v → Passes s w v
passes_on here k = k
passes_on (over e h) k = over e (passes_on h k)

pub passes_reason : {s : List ℕ} {w u : Walk} → Passes s w u → reason_of s w ≡ reason_of s u
unfolding reason_of
passes_reason here = refl
passes_reason {s} (over {x} {w} {u} e h) = rw e (passes_reason h)

-- ---- what a walk comes to, beside what reading comes to

-- piece j of that form is the data of a string: an xid's piece 1 is a number, and its data is piece 3
abbrev pub is_data : ℕ → Form → Bool
is_data j (form.Bytes n) = eqb j 1
is_data j (form.Number w l) = false

-- where it is answered
abbrev pub answered : Rule → Piece → ℕ
answered present x = cond (is_data x.piece x.form) (x.place - 8) x.place
answered former x = x.place

pub data Ends (s : List ℕ) (w : Walk) (next : ℕ → Walk) (o : Rule → Outcome) : Type 0 where
  passed : (q : ℕ) → ((t : Rule) → o t ≡ Ok q) → q ≤ length s → Passes s w (next q) → Ends s w next o
  stopped : (x : Piece) (v : Walk) (f : Fault) (d : Detail) → ((t : Rule) → o t ≡ Err (refused f (answered t x))) → x.place ≤ length s
      → Passes s w (x then v) → fault_of s x ≡ Some (at x f d) → Ends s w next o

-- one part, and then another, which passes a refusal on
pub follow : {s : List ℕ} {w : Walk} {mid next : ℕ → Walk} {o : Rule → Outcome} (R : Rule → Outcome → Outcome)
    → ((t : Rule) (r : Refused) → R t (Err r) ≡ Err r) → Ends s w mid o
    → ((q : ℕ) → q ≤ length s → o present ≡ Ok q → Ends s (mid q) next (λ t. R t (Ok q))) → Ends s w next (λ t. R t (o t))
follow {s} {w} {mid} {next} {o} R pass (passed q e l k) g = go (g q l (e present))
  where
    go : Ends s (mid q) next (λ t. R t (Ok q)) → Ends s w next (λ t. R t (o t))
    go (passed u i m h) = passed u (λ t. ap (R t) (e t) ∙ i t) m (passes_on k h)
    go (stopped x v f d i m h z) = stopped x v f d (λ t. ap (R t) (e t) ∙ i t) m (passes_on k h) z
follow {s} {w} {mid} {next} {o} R pass (stopped x v f d e l k z) g = stopped x v f d (λ t. ap (R t) (e t) ∙ pass t (refused f (answered t x))) l k z

-- the same, where the other part starts at the place behind the one
on : {s : List ℕ} {w : Walk} {mid next : ℕ → Walk} {o : Rule → Outcome} (R : Rule → ℕ → Outcome) → Ends s w mid o
    → ((q : ℕ) → q ≤ length s → o present ≡ Ok q → Ends s (mid q) next (λ t. R t q)) → Ends s w next (λ t. and_then (o t) (R t))
on R = follow (λ t a. and_then a (R t)) (λ t r. refl)

module _ (s : List ℕ) (m : Mark) (j p : ℕ) (inside : p ≤ length s) (next : ℕ → Walk) where
  short : (f : Form) (o : Rule → Outcome) → length s < p + size_of f → ((t : Rule) → o t ≡ Err (refused RunsPast (answered t (piece_of m j f p))))
      → Ends s (walk.one m j f p next) next o
  short f o h e =
      stopped (piece_of m j f p) (next (p + size_of f)) RunsPast (Room (size_of f) (length s - p)) e inside here (rw (lt-leb (p + size_of f) (length s) h))

  -- bytes, answered where the piece is
  bytes_ends : (n : ℕ) (a : Rule → ℕ) → ((t : Rule) → a t ≡ answered t (piece_of m j (form.Bytes n) p))
      → Ends s (walk.one m j (form.Bytes n) p next) next (λ t. room n s p (a t))
  bytes_ends n a e = go (dec_le (p + n) (length s))
    where
      go : Dec (p + n ≤ length s) → Ends s (walk.one m j (form.Bytes n) p next) next (λ t. room n s p (a t))
      go (yes h) = passed (p + n) (λ t. room_fits n s p (a t) h) h (over {x = piece_of m j (form.Bytes n) p} (rw (le-leb (p + n) (length s) h)) here)
      go (no h) = short (form.Bytes n) _ (omega arith) (λ t. room-short n s p (a t) (omega arith) ∙ ap (λ (z : ℕ). Err (refused RunsPast z)) (e t))

  number_ends : (w : Width) (l : Limits) → Ends s (walk.one m j (form.Number w l) p next) next (λ t. read_number w l s (Ok p))
  unfolding read_number
  number_ends w l = go (dec_le (p + size w) (length s)) (allowed l (number_at (size w) s p)) refl
    where
      f : Form
      f = form.Number w l

      own : (t : Rule) → p ≡ answered t (piece_of m j f p)
      own present = refl
      own former = refl

      go : Dec (p + size w ≤ length s) → (t : Bool) → allowed l (number_at (size w) s p) ≡ t
          → Ends s (walk.one m j f p next) next (λ t. read_number w l s (Ok p))
      go (yes h) true e =
          passed (p + size w) (λ t. rw (room_fits (size w) s p p h, e)) h (over {x = piece_of m j f p} (rw (le-leb (p + size w) (length s) h, e)) here)
      go (yes h) false e =
          stopped (piece_of m j f p) (next (p + size w)) NotAllowed (Value (number_at (size w) s p)) (λ t. rw (room_fits (size w) s p p h, e) (ap (λ (z : ℕ). Err (refused NotAllowed z)) (own t))) inside here
          (rw (le-leb (p + size w) (length s) h, e))
      go (no h) t e = short f _ (omega arith) (λ t. rw (room-short (size w) s p p (omega arith)) (ap (λ (z : ℕ). Err (refused RunsPast z)) (own t)))

-- ---- the kinds

-- bytes that are no string's data
own_place : (m : Mark) (j n p : ℕ) → is_data j (form.Bytes n) ≡ false → (t : Rule) → p ≡ answered t (piece_of m j (form.Bytes n) p)
own_place m j n p h present = rw h
own_place m j n p h former = refl

module _ (s : List ℕ) (bytes : Bytes s) where
  -- a size, a count or a formatID is not judged: reading it needs the room alone
  unjudged : (p : ℕ) → read_number U64 (at_most any_value) s (Ok p) ≡ room 8 s p p
  unfolding read_number
  unjudged p = go (dec_le (p + 8) (length s))
    where
      go : Dec (p + 8 ≤ length s) → read_number U64 (at_most any_value) s (Ok p) ≡ room 8 s p p
      go (yes h) = rw (room_fits 8 s p p h, any_allowed (number_at 8 s p) (number_below 8 s p bytes))
      go (no h) = let z : length s < p + 8 = omega arith in rw (room-short 8 s p p z)

  count_ends : (m : Mark) (j p : ℕ) → p ≤ length s → (next : ℕ → Walk) → Ends s (walk.one m j count p next) next (λ t. room 8 s p p)
  count_ends m j p l next = rw (unjudged p) at (number_ends s m j p l next U64 (at_most any_value))

  pub item_ends : (m : Mark) (i : Item) (p : ℕ) → p ≤ length s → (next : ℕ → Walk) → Ends s (item_from s m i 0 0 p next) next (λ t. item_by t i s p)
  unfolding item_by read_bytes
  item_ends m (Raw n) p l next = bytes_ends s m 0 p l next n (λ t. p) (own_place m 0 n p refl)
  item_ends m (Num w k) p l next = number_ends s m 0 p l next w k
  item_ends m Str p l next =
      on (λ t q. room (number_at 8 s p) s q (data_place t p q)) (count_ends m 0 p l _)
      (λ q i e. bytes_ends s m 1 q i next (number_at 8 s p) (λ t. data_place t p q) (behind q (room_accepted 8 s p p q e).0))
    where
      -- the data stands eight bytes behind the size
      behind : (q : ℕ) → q ≡ p + 8 → (t : Rule) → data_place t p q ≡ answered t (piece_of m 1 (form.Bytes (number_at 8 s p)) q)
      behind q z present = omega arith
      behind q z former = refl

  items_end : (e : Element) (i : Option ℕ) (k : ℕ) (xs : List EnteredItem) (p : ℕ) → p ≤ length s → (next : ℕ → Walk)
      → Ends s (items_from s e i k xs p next) next (λ t. items_by t (named_items xs) s p)
  unfolding items_from items_by
  items_end e i k [] p l next = passed p (λ t. refl) l here
  items_end e i k (x ∷ xs) p l next =
      on (λ t. items_by t (named_items xs) s) (item_ends (mark (source.Element e) k i) x.item p l _) (λ q h z. items_end e i (k + 1) xs q h next)

  elements_end : (e : Element) (c n p : ℕ) → p ≤ length s → (next : ℕ → Walk) → Ends s (elements_from s e c n p next) next (λ t. elements_by t n (items_of e) s p)
  unfolding elements_from elements_by items_of
  elements_end e c zero p l next = passed p (λ t. refl) l here
  elements_end e c (suc n) p l next =
      on (λ t. elements_by t n (items_of e) s) (items_end e (index_of c (suc n)) 0 (item_entries e) p l _) (λ q h z. elements_end e c n q h next)

  second_ends : (m : Mark) (g p : ℕ) → p ≤ length s → (next : ℕ → Walk)
      → Ends s (bqual_from s m g p next) next (λ t. read_bytes (g + number_at 8 s p) s (read_number U64 (at_most bqual_most) s (Ok p)))
  unfolding read_bytes
  second_ends m g p l next =
      follow (λ t. read_bytes (g + number_at 8 s p) s) (λ t r. refl) (number_ends s m 2 p l _ U64 (at_most bqual_most))
      (λ u i y. bytes_ends s m 3 u i next (g + number_at 8 s p) (λ t. u) (own_place m 3 (g + number_at 8 s p) u refl))

  halves_end : (m : Mark) (p : ℕ) → p ≤ length s → (next : ℕ → Walk) → Ends s (gtrid_from s m p next) next (λ t. read_halves s p)
  unfolding read_halves read_items read_item read_bytes read_number
  halves_end m p l next =
      follow (λ t o. read_bytes (g + b) s (read_number U64 (at_most bqual_most) s o)) (λ t r. refl) (number_ends s m 1 p l _ U64 (at_most gtrid_most))
      (λ q h z. behind q h (number_accepted U64 (at_most gtrid_most) s p q z).0)
    where
      g : ℕ
      g = number_at 8 s p

      b : ℕ
      b = number_at 8 s (p + 8)

      behind : (q : ℕ) → q ≤ length s → q ≡ p + 8
          → Ends s (bqual_from s m g q next) next (λ t. read_bytes (g + b) s (read_number U64 (at_most bqual_most) s (Ok q)))
      behind q h z = subst (λ (u : ℕ). Ends s (bqual_from s m g q next) next (λ t. read_bytes (g + number_at 8 s u) s (read_number U64 (at_most bqual_most) s (Ok q)))) z (second_ends m g q h next)

  xid_ends : (m : Mark) (p : ℕ) → p ≤ length s → (next : ℕ → Walk) → Ends s (xid_from s m 0 0 p next) next (λ t. read_xid s (Ok p))
  unfolding read_xid
  xid_ends m p l next =
      on (λ t q. cond (eqb (number_at 8 s p) 0) (Ok q) (read_halves s q)) (count_ends m 0 p l _) (λ q h e. go q h (eqb (number_at 8 s p) 0))
    where
      go : (q : ℕ) → q ≤ length s → (b : Bool) → Ends s (cond b (next q) (gtrid_from s m q next)) next (λ t. cond b (Ok q) (read_halves s q))
      go q h true = passed q (λ t. refl) h here
      go q h false = halves_end m q h next

  pub field_ends : (m : Mark) (k : Kind) (p : ℕ) → p ≤ length s → (next : ℕ → Walk) → Ends s (field_from s m k 0 0 p next) next (λ t. field_by t (field_of k) s p)
  unfolding field_by
  field_ends m (kind.One i) p l next = item_ends m i p l next
  field_ends m (kind.List e) p l next =
      on (λ t. elements_by t (number_at 8 s p) (items_of e) s) (number_ends s m 0 p l _ U64 (at_most any_value))
      (λ q h z. elements_end e (number_at 8 s p) (number_at 8 s p) q h next)
  field_ends m (kind.Optional e) p l next =
      on (λ t. elements_by t (number_at 1 s p) (items_of e) s) (number_ends s m 0 p l _ U8 (at_most 1))
      (λ q h z. elements_end e 0 (number_at 1 s p) q h next)
  field_ends m kind.Xid p l next = xid_ends m p l next

  fields_end : (t k : ℕ) (es : List Entered) (p : ℕ) → p ≤ length s → Ends s (fields_from s t k es p) end (λ r. fields_by r (fields_of es) s p)
  unfolding fields_from fields_by
  fields_end t k [] p l = passed p (λ r. refl) l here
  fields_end t k (e ∷ es) p l =
      on (λ r. fields_by r (fields_of es) s) (field_ends (mark (source.Message t) k None) e.kind p l _) (λ q h z. fields_end t (k + 1) es q h)

  -- the walk of a payload of type t
  pub walk_ends : (t : ℕ) → Ends s (walk.walk s t) end (λ r. fields_by r (layout t) s 0)
  unfolding layout
  walk_ends t = fields_end t 0 (entries_of t) 0 (omega arith)
