-- A row's part of the store: what was set is there, no other row's part changes, and the store keeps its length.
-- And the unread bytes of a row: what queueing and taking make of them.
use mathlib.Core.Path.{◌≡◌, refl, sym, ap, ◌∙◌}
use mathlib.Core.Bool.{Bool, true, false}
use mathlib.Core.List.{List, [], ◌∷◌, ◌++◌}
use Prim.Native.Nat.{ℕ, zero, suc, ◌+◌, ◌-◌, ◌*◌, ◌<◌, ◌≤◌}
use native.Mathlib.Nat.{sub-zero, not-suc-le-zero, le_of_suc-le-suc}
use native.Mathlib.Omega.{arith}
use borrow.Author.Tests.{ltb-true, ltb-false}
use lib.Dec.{ltb}
use lib.ListN.{length, take, drop, length-append, length-drop, length-replicate, take-append-drop}
use lib.Seq.{length-take-le, take_at, drop_at, take-append-le, drop-append-le, drop-drop, take-take, take-append-add, take-append_seam}
use Rattle.link_bytes.specs.Store.{row_bytes, set_bytes, zeros, clear_row, put_at, queue_data, leave, take_front}

-- a part that ends before a goes by the first a bytes alone
part_below : (a m k : ℕ) (x : List ℕ) → m + k ≤ a → a ≤ length x → take k (drop m x) ≡ take k (drop m (take a x))
part_below a m k x h l =
    let la : length (take a x) ≡ a = length-take-le a x l in
    ap (λ (y : List ℕ). take k (drop m y)) (sym (take-append-drop a x))
    ∙ ap (take k) (drop-append-le m (take a x) (drop a x) (omega arith))
    ∙ take-append-le k (drop m (take a x)) (drop a x) (omega (arith, length-drop m (take a x)))

-- a part that begins at or after b goes by the bytes from b on
part_above : (b m k : ℕ) (x : List ℕ) → b ≤ m → take k (drop m x) ≡ take k (drop (m - b) (drop b x))
part_above b m k x h = let e : b + (m - b) ≡ m = omega arith in ap (take k) (sym (drop-drop (m - b) b x ∙ ap (λ (i : ℕ). drop i x) e))

pub row-length : (s : List ℕ) (r : ℕ) → length s ≡ 32768 → r < 32 → length (row_bytes s r) ≡ 1024
row-length s r l h = length-take-le 1024 (drop (1024 * r) s) (omega (arith, length-drop (1024 * r) s))

module _ (s : List ℕ) (r : ℕ) (part : List ℕ) (h : r < 32) (l : length s ≡ 32768) (lp : length part ≡ 1024) where
  head_is : length (take (1024 * r) s) ≡ 1024 * r
  head_is = length-take-le (1024 * r) s (omega arith)

  pub set_get : row_bytes (set_bytes s r part) r ≡ part
  set_get =
      ap (take 1024) (drop_at (take (1024 * r) s) (part ++ drop 1024 (drop (1024 * r) s)) (1024 * r) head_is)
      ∙ take_at part (drop 1024 (drop (1024 * r) s)) 1024 lp

  pub set-length : length (set_bytes s r part) ≡ 32768
  set-length = rw (length-append, length-append, head_is, lp, length-drop, length-drop) (omega arith)

  head_same : take (1024 * r) (set_bytes s r part) ≡ take (1024 * r) s
  head_same = take_at (take (1024 * r) s) (part ++ drop 1024 (drop (1024 * r) s)) (1024 * r) head_is

  tail_same : drop (1024 * r + 1024) (set_bytes s r part) ≡ drop (1024 * r + 1024) s
  tail_same =
      sym (drop-drop 1024 (1024 * r) (set_bytes s r part))
      ∙ ap (drop 1024) (drop_at (take (1024 * r) s) (part ++ drop 1024 (drop (1024 * r) s)) (1024 * r) head_is)
      ∙ drop_at part (drop 1024 (drop (1024 * r) s)) 1024 lp
      ∙ drop-drop 1024 (1024 * r) s

  below : (q : ℕ) → q < r → row_bytes (set_bytes s r part) q ≡ row_bytes s q
  below q hq =
      part_below (1024 * r) (1024 * q) 1024 (set_bytes s r part) (omega arith) (omega (arith, set-length))
      ∙ ap (λ (y : List ℕ). take 1024 (drop (1024 * q) y)) head_same
      ∙ sym (part_below (1024 * r) (1024 * q) 1024 s (omega arith) (omega arith))

  above : (q : ℕ) → r < q → row_bytes (set_bytes s r part) q ≡ row_bytes s q
  above q hq =
      part_above (1024 * r + 1024) (1024 * q) 1024 (set_bytes s r part) (omega arith)
      ∙ ap (λ (y : List ℕ). take 1024 (drop (1024 * q - (1024 * r + 1024)) y)) tail_same
      ∙ sym (part_above (1024 * r + 1024) (1024 * q) 1024 s (omega arith))

  pub set_other : (q : ℕ) → (r ≡ q → ⊥) → row_bytes (set_bytes s r part) q ≡ row_bytes s q
  set_other q ne = go (ltb q r) refl
    where
      go : (b : Bool) → ltb q r ≡ b → row_bytes (set_bytes s r part) q ≡ row_bytes s q
      go true t = below q (ltb-true q r t)
      go false t = above q (omega (arith, ltb-false q r t, ne))

drop-take : (n u : ℕ) (row : List ℕ) → n ≤ u → u ≤ length row → drop n (take u row) ≡ take (u - n) (drop n row)
drop-take zero u row h k = rw sub-zero refl
drop-take (suc n) zero row h k = absurd (not-suc-le-zero h)
drop-take (suc n) (suc u) [] h k = absurd (not-suc-le-zero k)
drop-take (suc n) (suc u) (x ∷ row) h k = let e : suc u - suc n ≡ u - n = omega arith in rw e (drop-take n u row (le_of_suc-le-suc h) (le_of_suc-le-suc k))

-- the unread bytes of a row are its first ones
module _ (row : List ℕ) (l : length row ≡ 1024) (u : ℕ) (hu : u ≤ 1024) where
  pub leave-length : (n : ℕ) → n ≤ u → length (leave row u n) ≡ 1024
  leave-length n h = rw (length-append, length-take-le (u - n) (drop n row) (omega (arith, length-drop n row)), length-append, length-replicate, length-drop) (omega arith)

  -- taking: n bytes leave the front
  pub leave_unread : (n : ℕ) → n ≤ u → take (u - n) (leave row u n) ≡ drop n (take u row)
  leave_unread n h =
      take_at (take (u - n) (drop n row)) (zeros n ++ drop u row) (u - n) (length-take-le (u - n) (drop n row) (omega (arith, length-drop n row)))
      ∙ sym (drop-take n u row h (omega arith))

  -- and they are what is given
  pub given_unread : (n : ℕ) → n ≤ u → take n row ≡ take n (take u row)
  given_unread n h = sym (take-take n u row h)

  pub put-length : (d : List ℕ) → u + length d ≤ 1024 → length (put_at row u d) ≡ 1024
  put-length d h = rw (length-append, length-take-le u row (omega arith), length-append, length-drop) (omega arith)

  -- queueing: the data joins
  pub put_unread : (d : List ℕ) → u + length d ≤ 1024 → take (u + length d) (put_at row u d) ≡ take u row ++ d
  put_unread d h =
      let e : length (take u row) ≡ u = length-take-le u row (omega arith) in
      ap (λ (i : ℕ). take (i + length d) (put_at row u d)) (sym e)
      ∙ take-append-add (take u row) (d ++ drop (u + length d) row) (length d)
      ∙ ap (λ (y : List ℕ). take u row ++ y) (take-append_seam d (drop (u + length d) row))

-- each change of a row keeps the store's length
module _ (s : List ℕ) (r : ℕ) (h : r < 32) (l : length s ≡ 32768) where
  pub clear_length : length (clear_row s r) ≡ 32768
  unfolding clear_row
  clear_length = set-length s r (zeros 1024) h l (length-replicate {A = ℕ} 1024 0)

  pub queue_length : (u : ℕ) (d : List ℕ) → u + length d ≤ 1024 → length (queue_data s r u d) ≡ 32768
  unfolding queue_data
  queue_length u d k = set-length s r (put_at (row_bytes s r) u d) h l (put-length (row_bytes s r) (row-length s r l h) u (omega arith) d k)

  pub take-length : (u n : ℕ) → u ≤ 1024 → n ≤ u → length (take_front s r u n) ≡ 32768
  unfolding take_front
  take-length u n k m = set-length s r (leave (row_bytes s r) u n) h l (leave-length (row_bytes s r) (row-length s r l h) u k n m)
