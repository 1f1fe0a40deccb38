-- A list d whose first i elements are those of a list v: what a loop that fills d from the front has after i turns.
use mathlib.Core.Path.{◌≡◌, refl, ap}
use mathlib.Core.List.{List, [], ◌∷◌, ◌++◌}
use Prim.Native.Nat.{ℕ, zero, suc, ◌+◌, ◌-◌, ◌<◌, ◌≤◌}
use native.Mathlib.Nat.{not-suc-le-zero, le_of_suc-le-suc}
use native.Mathlib.Numerals.{add-one}
use native.Mathlib.Omega.{arith}
use lib.ListN.{length, take, drop, set, get_or, length-drop}
use lib.Seq.{take_all}
use borrow.Rule.Slice.PartMut.{mid_of}

module _ {A : Type 0} (z : A) where
  suc_step : (v d : List A) (i : ℕ) → i < length v → i < length d → set (take i v ++ drop i d) i (get_or v i z) ≡ take (suc i) v ++ drop (suc i) d
  suc_step [] d i h k = absurd (not-suc-le-zero h)
  suc_step (x ∷ v) [] i h k = absurd (not-suc-le-zero k)
  suc_step (x ∷ v) (y ∷ d) zero h k = refl
  suc_step (x ∷ v) (y ∷ d) (suc i) h k = ap (λ (l : List A). x ∷ l) (suc_step v d i (le_of_suc-le-suc h) (le_of_suc-le-suc k))

  -- a store of v's next element
  pub front_more : (v d s : List A) (i : ℕ) (x : A) → s ≡ take i v ++ drop i d → x ≡ get_or v i z → i < length v → i < length d → set s i x ≡ take (i + 1) v ++ drop (i + 1) d
  front_more v d s i x e ex h k = rw (e, ex, add-one) (suc_step v d i h k)

  -- what is not yet filled is d's
  pub front_read : (v d : List A) (i j : ℕ) → i ≤ j → i ≤ length v → i ≤ length d → get_or (take i v ++ drop i d) j z ≡ get_or d j z
  front_read v d zero j l h k = refl
  front_read [] d (suc i) j l h k = absurd (not-suc-le-zero h)
  front_read (x ∷ v) [] (suc i) j l h k = absurd (not-suc-le-zero k)
  front_read (x ∷ v) (y ∷ d) (suc i) zero l h k = absurd (not-suc-le-zero l)
  front_read (x ∷ v) (y ∷ d) (suc i) (suc j) l h k = front_read v d i j (le_of_suc-le-suc l) (le_of_suc-le-suc h) (le_of_suc-le-suc k)

-- a part that goes to the end, as it is lent
pub tail_lent : {A : Type 0} (a : ℕ) (xs : List A) → mid_of a (length xs - a) xs ≡ drop a xs
tail_lent a xs = take_all (length xs - a) (drop a xs) (omega (arith, length-drop a xs))
