-- Bytes put one after the other into a lent output, from a place on: a byte past its end changes nothing, so a run of puts needs no test of its own,
-- and on an empty output it only counts.
use Rattle.std.specs.Prelude.{ℕ, ◌+◌, ◌≡◌, cond, List, [], ◌∷◌, set, ltb}

-- the last place there is: the largest usize
abbrev pub last_place : ℕ
last_place = 0xffff_ffff_ffff_ffff

-- the place after one; there is none after the last
unfoldable pub next : ℕ → ℕ
next p = cond (ltb p last_place) (p + 1) p

-- the place after bytes that start at p
unfoldable pub after : ℕ → List ℕ → ℕ
after p [] = p
after p (b ∷ bs) = after (next p) bs

-- the output with bytes put from the place p on
unfoldable pub put_at : List ℕ → ℕ → List ℕ → List ℕ
put_at out p [] = out
put_at out p (b ∷ bs) = put_at (set out p b) (next p) bs

-- what putting x at p makes of an output, and the place that it reports
pub record Put (x : List ℕ) (entry : List ℕ) (p : ℕ) (exit : List ℕ) (r : ℕ) : Type 0 where
  pub bytes : exit ≡ put_at entry p x
  pub place : r ≡ after p x
