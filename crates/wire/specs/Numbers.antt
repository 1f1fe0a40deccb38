-- Bytes and numbers. Document 01: numbers are big-endian.
use Rattle.std.specs.Prelude.{ℕ, zero, suc, ◌+◌, ◌*◌, ◌/◌, ◌%◌, ◌<◌, List, [], ◌∷◌, ◌++◌, take, drop, get_or}

-- every element is a byte
abbrev pub Bytes : List ℕ → Type 0
Bytes s = (i : ℕ) → get_or s i 0 < 256

-- the number that bytes hold, the highest byte first, after bytes that hold `high`
unfoldable pub be_from : ℕ → List ℕ → ℕ
be_from high [] = high
be_from high (x ∷ xs) = be_from (high * 256 + x) xs

-- the number that bytes hold, the highest byte first
unfoldable pub be : List ℕ → ℕ
be xs = be_from 0 xs

-- the w bytes that hold n, the highest byte first
unfoldable pub bytes_of : ℕ → ℕ → List ℕ
bytes_of zero n = []
bytes_of (suc w) n = bytes_of w (n / 256) ++ (n % 256 ∷ [])

-- the number that the w bytes at the place p hold
abbrev pub number_at : ℕ → List ℕ → ℕ → ℕ
number_at w s p = be (take w (drop p s))
