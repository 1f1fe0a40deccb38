-- Branches of definitions as laws of their own: what a definition gives where one test decides. The documents named them beside the wrong programs that
-- they refuse; today the check finds the answers that they were for, and the contracts of the functions say the same.
use Prim.Native.Nat.{ℕ, zero, suc, ◌+◌, ◌-◌, ◌^◌, ◌≤◌, ◌<◌}
use native.Mathlib.Omega.{arith}
use mathlib.Core.Path.{◌≡◌, refl, sym, ◌∙◌}
use mathlib.Core.Bool.{Bool, true, not}
use mathlib.Core.List.{List}
use lib.ListN.{length}
use lib.Dec.{leb}
use borrow.Author.Tests.{le-leb, lt-leb, lt-ltb, le-ltb, ne_eqb}
use Rattle.std.specs.Prelude.{Ok, Err, Some, None}
use Rattle.wire.specs.Numbers.{number_at, be, be_from}
use Rattle.wire.specs.Layout.{Items, at_most, gtrid_most, bqual_most}
use Rattle.wire.specs.Reading.{Outcome, refused, room, read_number, read_bytes, read_item, read_items, read_halves, read_string, read_elements}
use Rattle.wire.specs.Values.{allowed}
use Rattle.wire.specs.declared.Limits.{Limits}
use Rattle.wire.specs.declared.Refused.{Refused}
use Rattle.wire.specs.declared.Width.TheVariants.{U64}
use Rattle.wire.specs.declared.Fault.TheVariants.{NoSuchVersion, NotWhole, TooLarge, NotInVersion, ListsDiffer}
use Rattle.message_read.specs.Reading.{Reading, accepted, opening, size_tested}
use Rattle.message_layout.specs.Message.{size_in}
use Rattle.message_layout.specs.Table.{versions_of, any_value, items_of}
use Rattle.message_layout.specs.declared.Element.{Element}
use Rattle.payload_read.specs.Stops.{Passed, stop_items, of_element, stop_elements}
use Rattle.payload_read.specs.declared.Stop.{Stop}
use Rattle.message_layout.specs.declared.Versions.{Versions}
use Rattle.message_explain.specs.Explaining.{before, not_whole}
use Rattle.message_walk.specs.declared.Reason.{Reason}
use Rattle.message_walk.specs.declared.FieldName.TheVariants as field
use Rattle.message_walk.specs.declared.Detail.TheVariants.{Room}
use Rattle.message_lent.specs.Lent.{lent_xid, xid_allowed}
use Rattle.message_lent.specs.Requests.{Request}
use Rattle.message_verdict.specs.Writing.{Written, verdict, writing, written}
use Rattle.message_walk.specs.Walk.{index_of}
use Rattle.wire.specs.declared.Fault.{Fault}

-- ---- reading an xid and a string

-- its first length is refused
pub halves-short : (s : List ℕ) (at : ℕ) (a : Outcome) → a ≡ read_number U64 (at_most gtrid_most) s (Ok at) → (x : Refused) → a ≡ Err x → a ≡ read_halves s at
unfolding read_halves read_items read_item read_bytes read_number
halves-short s at a ea x h = let r : read_number U64 (at_most gtrid_most) s (Ok at) ≡ Err x = sym ea ∙ h in rw r h

-- its second length is refused
pub second_short : (s : List ℕ) (at : ℕ) (b : Outcome)
    → b ≡ read_number U64 (at_most bqual_most) s (read_number U64 (at_most gtrid_most) s (Ok at)) → (x : Refused) → b ≡ Err x → b ≡ read_halves s at
unfolding read_halves read_items read_item read_bytes
second_short s at b to x h = rw (← to, h)

-- a string whose size was read is read by its data
pub string_sized : (s : List ℕ) (p e n : ℕ) → room 8 s p p ≡ Ok e → n ≡ number_at 8 s p → (r : Outcome) → r ≡ room n s e p → r ≡ read_string s (Ok p)
unfolding read_string
string_sized s p e n z g r k = rw (z, ← g) k

-- ---- reading a message

pub version_above : (v : ℕ) (m : List ℕ) (r : Reading) → 1004 < v → 1000 ≤ v → r ≡ Err (refused NoSuchVersion 0) → r ≡ opening v m
unfolding opening
version_above v m r h k e = simp (le-leb 1000 v k, lt-leb v 1004 h) e

pub size_large : (t : ℕ) (m : List ℕ) (n : ℕ) → n ≡ size_in m → (r : Reading) → 65504 < n → r ≡ Err (refused TooLarge 0)
    → r ≡ size_tested m (Ok (accepted t (32 + size_in m)))
size_large t m n en r h e = rw (← en) (simp (lt-ltb 65504 n h) e)

pub payload-short : (t : ℕ) (m : List ℕ) (n : ℕ) → n ≡ size_in m → n ≤ 65504 → 32 ≤ length m → (r : Reading) → length m - 32 < n → r ≡ Err (refused NotWhole 0)
    → r ≡ size_tested m (Ok (accepted t (32 + size_in m)))
payload-short t m n en small whole r h e = rw (← en) (simp (le-ltb 65504 n small, lt-ltb (length m) (32 + n) (omega arith)) e)

-- ---- writing

-- the first length of an xid is within its limit: the second decides
pub gtrid_within : (f g b : ℕ) (d : List ℕ) → g ≤ gtrid_most → leb b bqual_most ≡ xid_allowed (lent_xid f g b d)
unfolding xid_allowed
gtrid_within f g b d h = rw (le-leb g gtrid_most h)

-- a version above the last; an unknown type; lists that differ
pub writing_version_above : (v t size room : ℕ) (agree allowed : Bool) (r : Written) → 1000 ≤ v → 1004 < v → r ≡ Err NoSuchVersion → r ≡ verdict v t agree allowed size room
unfolding verdict
writing_version_above v t size room agree allowed r lo h e = simp (le-leb 1000 v lo, lt-leb v 1004 h) e

pub type_unknown : (v t size room : ℕ) (agree allowed : Bool) (r : Written) → 1000 ≤ v → v ≤ 1004 → None ≡ versions_of t → r ≡ Err NotInVersion
    → r ≡ verdict v t agree allowed size room
unfolding verdict
type_unknown v t size room agree allowed r lo hi ev e = simp (le-leb 1000 v lo, le-leb v 1004 hi, ← ev) e

pub lists_differ : (v t size room : ℕ) (agree allowed : Bool) (vs : Versions) (r : Written) → 1000 ≤ v → v ≤ 1004 → Some vs ≡ versions_of t → vs.first ≤ v → v ≤ vs.last
    → not agree ≡ true → r ≡ Err ListsDiffer → r ≡ verdict v t agree allowed size room
unfolding verdict
lists_differ v t size room agree allowed vs r lo hi ev la lb h e =
    simp (le-leb 1000 v lo, le-leb v 1004 hi, ← ev, le-leb vs.first v la, le-leb v vs.last lb, h) e

pub refusal : (v : ℕ) (q : Request) (out w : List ℕ) (answer : Written) → answer ≡ writing v q (length out) → (f : Fault) × (answer ≡ Err f) → w ≡ out
    → (answer ≡ writing v q (length out)) × (w ≡ written v q out)
unfolding written
refusal v q out w answer a h same = (a, same ∙ rw (← a, h.1) refl)

-- ---- why a message is refused

-- the payload is not whole
pub payload_told : (m : List ℕ) (r : Reason) → 32 ≤ length m → (n : ℕ) → n ≡ number_at 8 m 24
    → r ≡ before NotWhole (Some field.Payload) (Room n (length m - 32)) → r ≡ not_whole m
payload_told m r h n z e = rw (le-ltb (length m) 32 h, ← z) e

-- ---- the walk

-- more are left than there are
pub past_count : (c l : ℕ) → (c ≡ 0 → ⊥) → c < l → Some 0 ≡ index_of c l
past_count c l z k = let m : c - l ≡ 0 = omega arith in rw (ne_eqb c 0 z, m)

-- ---- passing over the elements of a list, where n are left of c

-- a field of the first of them is refused, for any two numbers: a part that follows a flag has c 0
pub stopped-field : (e : Element) (c n : ℕ) (s : List ℕ) (p : ℕ) (w : Passed) → stop_elements e c n s p ≡ w → 0 < n
    → (q : Passed) → q ≡ stop_items 0 (items_of e) s (Ok p) → (x : Stop) → q ≡ Err x → (r : Passed) → r ≡ Err (of_element e c n x) → r ≡ w
unfolding stop_elements
stopped-field e c zero s p w along more q next x z r y = absurd (omega arith)
stopped-field e c (suc n) s p w along more q next x z r y =
    let stops : stop_items 0 (items_of e) s (Ok p) ≡ Err x = sym next ∙ z in
    y ∙ (rw stops at along)

-- ---- numbers and elements: laws that stood before the design pass, and that nothing cites

-- a number of no bytes
pub number_none : (s : List ℕ) (p : ℕ) → number_at 0 s p ≡ 0
unfolding be be_from
number_none s p = refl

-- a number without a limit is allowed
pub any_allowed : (l : Limits) (v : ℕ) → l.most ≡ any_value → v < 256 ^ 8 → allowed l v ≡ true
unfolding allowed
any_allowed l v e h = rw e (simp (le-leb v any_value (omega arith)))

-- the elements of a list are read one after the other
pub elements_more : (n : ℕ) (is : Items) (s : List ℕ) (o : Outcome) (p : ℕ) → 0 < n → o ≡ Ok p
    → read_elements n is s o ≡ read_elements (n - 1) is s (read_items is s o)
unfolding read_elements
elements_more zero is s o p h e = absurd (omega arith)
elements_more (suc n) is s o p h e = let z : suc n - 1 ≡ n = omega arith in rw (e, z) refl
