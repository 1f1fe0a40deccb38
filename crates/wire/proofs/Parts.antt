-- Laws of the field kinds, for the code that reads them: each takes what a call before it came to as an equation.
use Prim.Native.Nat.{ℕ, zero, suc, ◌+◌, ◌^◌, ◌≤◌, ◌<◌}
use native.Mathlib.Decide.{dec_le}
use native.Mathlib.Omega.{arith}
use mathlib.Core.Path.{◌≡◌, refl, sym, ◌∙◌}
use mathlib.Core.Bool.{Bool, true, false, cond, ◌||◌, ◌&&◌}
use mathlib.Core.List.{List}
use lib.ListN.{length}
use lib.Dec.{leb, ltb}
use borrow.Author.Tests.{le-leb, lt-leb, leb-true, ltb-true}
use Rattle.wire.specs.Numbers.{number_at}
use Rattle.wire.specs.Layout.{size, at_most, Field, one, many, xid, Items}
use Rattle.wire.specs.Values.{allowed}
use Rattle.wire.specs.Reading.{Outcome, refused, and_then, room, read_bytes, read_number, read_string, read_item, read_elements, read_list, read_xid, read_field}
use Rattle.wire.specs.declared.Limits.{Limits}
use Rattle.wire.specs.declared.Item.{Item}
use Rattle.wire.specs.declared.Item.TheVariants.{Raw, Num, Str}
use Rattle.wire.specs.declared.Width.{Width}
use Rattle.wire.specs.declared.Width.TheVariants.{U64}
use Rattle.wire.specs.declared.Fault.TheVariants.{RunsPast, NotAllowed}
use Rattle.std.specs.Prelude.{Ok, Err}
use Rattle.wire.specs.declared.Refused.{Refused}

-- ---- room

pub room_fits : (n : ℕ) (s : List ℕ) (p k : ℕ) → p + n ≤ length s → room n s p k ≡ Ok (p + n)
unfolding room
room_fits n s p k h = simp (le-leb _ _ h)

pub room-short : (n : ℕ) (s : List ℕ) (p k : ℕ) → length s < p + n → room n s p k ≡ Err (refused RunsPast k)
unfolding room
room-short n s p k h = simp (lt-leb _ _ h)

-- a refusal is never an acceptance
pub never : {A : Type 0} {x : Refused} {e : ℕ} → ◌≡◌ {A = Outcome} (Err x) (Ok e) → A
never {A} {x} {e} h = let k : ◌≡◌ {A = ℕ} 0 1 = cc in absurd (omega arith)

-- an accepted end, and that it lies in the payload
pub room_accepted : (n : ℕ) (s : List ℕ) (p k e : ℕ) → room n s p k ≡ Ok e → (e ≡ p + n) × (p + n ≤ length s)
room_accepted n s p k e h = go (dec_le (p + n) (length s))
  where
    go : Dec (p + n ≤ length s) → (e ≡ p + n) × (p + n ≤ length s)
    go (yes l) = (cc (room_fits n s p k l), l)
    go (no l) = never (sym (room-short n s p k (omega arith)) ∙ h)

-- ---- a list after its count: the outcome before it is accepted at p, and its count came to q

module _ (s : List ℕ) (o q : Outcome) (p : ℕ) (at : o ≡ Ok p) where
  module _ (w : Width) (m : ℕ) (is : Items) (first : q ≡ read_number w (at_most m) s (Ok p)) where
    pub list_counted : (e n : ℕ) → q ≡ Ok e → n ≡ number_at (size w) s p → (r : Outcome) → r ≡ read_elements n is s q → r ≡ read_list w m is s o
    unfolding read_list
    list_counted e n h g r k =
        rw at (let y : read_number w (at_most m) s (Ok p) ≡ Ok e = sym first ∙ h in rw (y, ← h, ← g) k)

-- ---- what an accepted number tells

pub was_then : (o : Outcome) (f : ℕ → Outcome) (e : ℕ) → and_then o f ≡ Ok e → (m : ℕ) × (o ≡ Ok m)
was_then (Ok m) f e h = (m, refl)
was_then (Err p) f e h = never h

picked : (t : Bool) (q p e : ℕ) → cond t (Ok q) (Err (refused NotAllowed p)) ≡ Ok e → (t ≡ true) × (q ≡ e)
picked true q p e h = (refl, cc)
picked false q p e h = never h

-- it ends after its width, lies in the payload, and its value is allowed
pub number_accepted : (w : Width) (l : Limits) (s : List ℕ) (p e : ℕ) → read_number w l s (Ok p) ≡ Ok e
    → (e ≡ p + size w) × (p + size w ≤ length s) × (allowed l (number_at (size w) s p) ≡ true)
unfolding read_number
number_accepted w l s p e h =
    let v : Bool = allowed l (number_at (size w) s p) in
    let r = was_then (room (size w) s p p) (λ q. cond v (Ok q) (Err (refused NotAllowed p))) e h in
    let t = picked v r.0 p e (rw r.1 at h) in
    let k = room_accepted (size w) s p p r.0 r.1 in
    (sym t.1 ∙ k.0, k.1, t.0)

pub both : (a b : Bool) → (a && b) ≡ true → (a ≡ true) × (b ≡ true)
both true b h = (refl, h)
both false b h = let z : ◌≡◌ {A = Bool} false true = h in (z, absurd (let y : ◌≡◌ {A = ℕ} 0 1 = cc in omega arith))

-- a number that is at most m
pub allowed_most : (m v : ℕ) → allowed (at_most m) v ≡ true → v ≤ m
unfolding allowed
allowed_most m v h = go (leb v m) refl h
  where
    go : (t : Bool) → leb v m ≡ t → (t || leb 0 v && leb v 0) ≡ true → v ≤ m
    go true e k = leb-true v m e
    go false e k = let z : v ≤ 0 = leb-true v 0 (both (leb 0 v) (leb v 0) k).1 in omega arith

pub most_allowed : (m v : ℕ) → v ≤ m → allowed (at_most m) v ≡ true
unfolding allowed
most_allowed m v h = simp (le-leb v m h)

-- a u64 that is not judged
pub any_allowed : (v : ℕ) → v < 256 ^ 8 → allowed (at_most 0xffff_ffff_ffff_ffff) v ≡ true
unfolding allowed
any_allowed v h = simp (le-leb v 0xffff_ffff_ffff_ffff (omega arith))

pub number_most : (w : Width) (m : ℕ) (s : List ℕ) (p e : ℕ) → read_number w (at_most m) s (Ok p) ≡ Ok e → number_at (size w) s p ≤ m
number_most w m s p e h = allowed_most m (number_at (size w) s p) (number_accepted w (at_most m) s p e h).2

-- two numbers, one behind the other, with limits whose sum is a u64: theirs is too
pub sum_fits : (s : List ℕ) (p m : ℕ) (a : Outcome) → a ≡ read_number U64 (at_most m) s (Ok p) → (q : ℕ) → a ≡ Ok q → (v : ℕ) → v ≡ number_at 8 s p
    → (k : ℕ) (b : Outcome) → b ≡ read_number U64 (at_most k) s (Ok q) → (e : ℕ) → b ≡ Ok e → (w : ℕ) → w ≡ number_at 8 s q
    → ltb (m + k) (2 ^ 64) ≡ true → v + w < 2 ^ 64
sum_fits s p m a ea q aa v vv k b eb e bb w ww h =
    let i : v ≤ m = rw vv (number_most U64 m s p q (sym ea ∙ aa)) in
    let j : w ≤ k = rw ww (number_most U64 k s q e (sym eb ∙ bb)) in
    let l : m + k < 2 ^ 64 = ltb-true (m + k) (2 ^ 64) h in
    omega arith

-- ---- a refusal is passed on

pub item_refused : (i : Item) (s : List ℕ) (q : Refused) → read_item i s (Err q) ≡ Err q
unfolding read_item read_bytes read_number read_string
item_refused (Raw n) s q = refl
item_refused (Num w l) s q = refl
item_refused Str s q = refl

pub field_refused : (k : Field) (s : List ℕ) (q : Refused) → read_field k s (Err q) ≡ Err q
unfolding read_field read_list read_xid
field_refused (one i) s q = item_refused i s q
field_refused (many w m is) s q = refl
field_refused xid s q = refl

-- ---- elements

pub elements_refused : (n : ℕ) (is : Items) (s : List ℕ) (o : Outcome) (p : Refused) → o ≡ Err p → read_elements n is s o ≡ o
unfolding read_elements
elements_refused zero is s o p e = refl
elements_refused (suc n) is s o p e = rw e
