-- Whether an element's number is below a list's length, as the list is walked from its front.
use Prim.Native.Nat.{ℕ, suc, ◌≤◌}
use mathlib.Core.Path.{◌≡◌, sym, ◌∙◌}
use mathlib.Core.Bool.{true, false}
use lib.Dec.{ltb}
use native.Mathlib.Decide.{dec_le}
use native.Mathlib.Omega.{arith}
use borrow.Author.Tests.{lt-ltb, le-ltb}

pub below_none : (n : ℕ) → ltb n 0 ≡ false
below_none n = le-ltb n 0 (omega arith)

pub below_first : (k : ℕ) → ltb 0 (suc k) ≡ true
below_first k = lt-ltb 0 (suc k) (omega arith)

pub below_suc : (n k : ℕ) → ltb (suc n) (suc k) ≡ ltb n k
below_suc n k = go (dec_le k n)
  where
    go : Dec (k ≤ n) → ltb (suc n) (suc k) ≡ ltb n k
    go (yes h) = le-ltb (suc n) (suc k) (omega arith) ∙ sym (le-ltb n k h)
    go (no h) = lt-ltb (suc n) (suc k) (omega arith) ∙ sym (lt-ltb n k (omega arith))
