-- The bytes of a line that a program prints: words, and numbers in decimal.
use Rattle.std.specs.Prelude.{ℕ, zero, suc, ◌+◌, ◌/◌, ◌%◌, cond, List, [], ◌∷◌, ◌++◌, ltb}
use Prim.Native.Char.{code}
use Prim.Native.String.{String, [] as []ˢ, ◌∷◌ as ◌∷ˢ◌}

-- the bytes of words, which are ASCII
abbrev pub words : String → List ℕ
words []ˢ = []
words (c ∷ˢ s) = code c ∷ words s

-- the byte of a digit: 0 has 48
abbrev pub digit : ℕ → ℕ
digit d = 48 + d

-- the digits of a number that is below the bound, the highest first: those of its tenth part, and its last one
unfoldable pub digits_below : ℕ → ℕ → List ℕ
digits_below zero n = []
digits_below (suc bound) n = cond (ltb n 10) (digit n ∷ []) (digits_below bound (n / 10) ++ (digit (n % 10) ∷ []))

-- a number in decimal, with no zeros in front
unfoldable pub decimal : ℕ → List ℕ
decimal n = digits_below (suc n) n

-- a line with two numbers, each behind its words
abbrev pub two_numbers : List ℕ → ℕ → List ℕ → ℕ → List ℕ
two_numbers before n between m = before ++ (decimal n ++ (between ++ (decimal m ++ words "\n")))
