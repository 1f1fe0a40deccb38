-- An item, an element or a number that stands at k + p in s stands at p in what follows k.
use Prim.Native.Nat.{ℕ, ◌+◌, ◌-◌, ◌≤◌}
use native.Mathlib.Nat.{add-zero, add_assoc}
use native.Mathlib.Decide.{dec_le}
use native.Mathlib.Omega.{arith}
use mathlib.Core.Path.{◌≡◌, refl, sym, ap, ◌∙◌}
use mathlib.Core.Bool.{Bool, true, false, cond}
use mathlib.Core.List.{List, [], ◌∷◌}
use lib.ListN.{length, take, drop, length-drop}
use lib.Seq.{drop-drop}
use lib.Dec.{leb}
use borrow.Author.Tests.{le-leb, lt-leb}
use Rattle.std.specs.Prelude.{Ok, Err}
use Rattle.wire.specs.Numbers.{be, number_at}
use Rattle.wire.specs.Layout.{size, Items}
use Rattle.wire.specs.Values.{Vals, allowed}
use Rattle.wire.specs.Decoding.{after_item, after_items, item_at, items_at}
use Rattle.wire.specs.Reading.{Outcome, refused, and_then, room, read_bytes, read_number, read_string, read_item, read_items}
use Rattle.wire.specs.declared.Item.{Item}
use Rattle.wire.specs.declared.Item.TheVariants.{Raw, Num, Str}
use Rattle.wire.specs.declared.Fault.TheVariants.{RunsPast, NotAllowed}
use Rattle.wire.proofs.Parts.{never}
use Rattle.wire.proofs.Ends.{Was}

-- ---- values and places

module _ (s : List ℕ) (k : ℕ) where
  -- a number
  number_shift : (w p : ℕ) → number_at w s (k + p) ≡ number_at w (drop k s) p
  number_shift w p = ap (λ (l : List ℕ). be (take w l)) (sym (drop-drop p k s))

  -- the place after an item, and after an element
  after-item_shift : (i : Item) (p : ℕ) → after_item i s (k + p) ≡ k + after_item i (drop k s) p
  unfolding after_item
  after-item_shift (Raw n) p = add_assoc k p n
  after-item_shift (Num w l) p = add_assoc k p (size w)
  after-item_shift Str p = ap (λ (n : ℕ). k + p + 8 + n) (number_shift 8 p) ∙ omega arith

  after_items_shift : (is : Items) (p : ℕ) → after_items is s (k + p) ≡ k + after_items is (drop k s) p
  unfolding after_items
  after_items_shift [] p = refl
  after_items_shift (i ∷ is) p =
      ap (after_items is s) (after-item_shift i.kind p) ∙ after_items_shift is (after_item i.kind (drop k s) p)

  -- the value of an item, and of an element
  item_shift : (i : Item) (p : ℕ) → item_at i s (k + p) ≡ item_at i (drop k s) p
  unfolding item_at
  item_shift (Raw n) p = ap (take n) (sym (drop-drop p k s))
  item_shift (Num w l) p = number_shift (size w) p
  item_shift Str p =
      ap (λ (n : ℕ). take n (drop (k + p + 8) s)) (number_shift 8 p)
      ∙ ap (take (number_at 8 (drop k s) p)) (ap (λ (j : ℕ). drop j s) (add_assoc k p 8) ∙ sym (drop-drop (p + 8) k s))

  pub items_shift : (is : Items) (p : ℕ) → items_at is s (k + p) ≡ items_at is (drop k s) p
  unfolding items_at
  items_shift [] p = refl
  items_shift (i ∷ is) p =
      ap (λ x. (x, items_at is s (after_item i.kind s (k + p)))) (item_shift i.kind p)
      ∙ ap (λ (y : Vals is). (item_at i.kind (drop k s) p, y)) (ap (items_at is s) (after-item_shift i.kind p) ∙ items_shift is (after_item i.kind (drop k s) p))

-- what follows an element that stands at p
pub drop_element : (is : Items) (s : List ℕ) (p : ℕ) → drop (after_items is (drop p s) 0) (drop p s) ≡ drop (after_items is s p) s
drop_element is s p =
    drop-drop (after_items is (drop p s) 0) p s
    ∙ ap (λ (j : ℕ). drop j s) (sym (after_items_shift s p is 0) ∙ ap (after_items is s) (add-zero p))

-- ---- reading

-- an outcome k bytes further on
abbrev shift : ℕ → Outcome → Outcome
shift k (Ok p) = Ok (k + p)
shift k (Err e) = Err (refused e.fault (k + e.place))

shift_cond : (k : ℕ) (b : Bool) (x y : Outcome) → cond b (shift k x) (shift k y) ≡ shift k (cond b x y)
shift_cond k true x y = refl
shift_cond k false x y = refl

shift_then : (k : ℕ) (q : Outcome) (f g : ℕ → Outcome) → ((m : ℕ) → f (k + m) ≡ shift k (g m)) → and_then (shift k q) f ≡ shift k (and_then q g)
shift_then k (Ok p) f g h = h p
shift_then k (Err z) x y h = refl

-- what is accepted k further on was accepted
shift_accepted : (k : ℕ) (q : Outcome) (e : ℕ) → shift k q ≡ Ok e → Was q
shift_accepted k (Ok p) e h = (p, refl)
shift_accepted k (Err z) e h = never h

module _ (s : List ℕ) (k : ℕ) (h : k ≤ length s) where
  -- bytes lie in s exactly where they lie in what follows k
  leb_shift : (p n : ℕ) → leb (k + p + n) (length s) ≡ leb (p + n) (length (drop k s))
  leb_shift p n = rw length-drop (go (dec_le (k + p + n) (length s)))
    where
      go : Dec (k + p + n ≤ length s) → leb (k + p + n) (length s) ≡ leb (p + n) (length s - k)
      go (yes e) = le-leb _ _ e ∙ sym (le-leb (p + n) (length s - k) (omega arith))
      go (no e) = lt-leb (k + p + n) (length s) (omega arith) ∙ sym (lt-leb (p + n) (length s - k) (omega arith))

  room_shift : (n p place : ℕ) → room n s (k + p) (k + place) ≡ shift k (room n (drop k s) p place)
  unfolding room
  room_shift n p place =
      ap (λ (b : Bool). cond b (Ok (k + p + n)) (Err (refused RunsPast (k + place)))) (leb_shift p n)
      ∙ ap (λ (e : ℕ). cond (leb (p + n) (length (drop k s))) (Ok e) (Err (refused RunsPast (k + place)))) (add_assoc k p n)
      ∙ shift_cond k (leb (p + n) (length (drop k s))) (Ok (p + n)) (Err (refused RunsPast place))

  -- an item, and an element, come to the same outcome, k further on
  read_item_shift : (i : Item) (o : Outcome) → read_item i s (shift k o) ≡ shift k (read_item i (drop k s) o)
  unfolding read_item read_bytes read_number read_string
  read_item_shift (Raw n) (Ok p) = room_shift n p p
  read_item_shift (Raw n) (Err z) = refl
  read_item_shift (Num w l) (Ok p) =
      rw (room_shift (size w) p p)
      (shift_then k (room (size w) (drop k s) p p) _ _
      (λ q. rw (number_shift s k (size w) p) (shift_cond k (allowed l (number_at (size w) (drop k s) p)) (Ok q) (Err (refused NotAllowed p)))))
  read_item_shift (Num w l) (Err z) = refl
  read_item_shift Str (Ok p) =
      rw (room_shift 8 p p)
      (shift_then k (room 8 (drop k s) p p) _ _ (λ q. rw (number_shift s k 8 p) (room_shift (number_at 8 (drop k s) p) q p)))
  read_item_shift Str (Err z) = refl

  read_items_shift : (is : Items) (o : Outcome) → read_items is s (shift k o) ≡ shift k (read_items is (drop k s) o)
  unfolding read_items
  read_items_shift [] o = refl
  read_items_shift (i ∷ is) o = ap (read_items is s) (read_item_shift i.kind o) ∙ read_items_shift is (read_item i.kind (drop k s) o)

  -- an element that is accepted at k is accepted at the front of what follows k
  pub front_accepted : (is : Items) (e : ℕ) → read_items is s (Ok k) ≡ Ok e → Was (read_items is (drop k s) (Ok 0))
  front_accepted is e a =
      shift_accepted k (read_items is (drop k s) (Ok 0)) e (sym (read_items_shift is (Ok 0)) ∙ ap (λ (j : ℕ). read_items is s (Ok j)) (add-zero k) ∙ a)
