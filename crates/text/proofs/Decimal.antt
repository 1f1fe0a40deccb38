-- A number in decimal: how its digits go on, how many they are, and that reading them gives the number back.
use Prim.Native.Nat.{ℕ, zero, suc, ◌+◌, ◌-◌, ◌*◌, ◌/◌, ◌%◌, ◌^◌, ◌≤◌, ◌<◌}
use native.Mathlib.Decide.{dec_le}
use native.Mathlib.Omega.{arith}
use mathlib.Core.Path.{◌≡◌, refl, ap}
use mathlib.Core.List.{List, [], ◌∷◌, ◌++◌}
use lib.ListN.{length, length-append}
use borrow.Author.Tests.{lt-ltb, le-ltb}
use Rattle.text.specs.Text.{digit, digits_below, decimal, words, two_numbers}
use Rattle.text.specs.Puts.{Put, Line}
use Rattle.text.proofs.Chain.{then, fitting}

-- any bound above the number gives the same digits
same_digits : (k l n : ℕ) → n < k → n < l → digits_below k n ≡ digits_below l n
unfolding digits_below
same_digits zero l n h j = absurd (omega arith)
same_digits (suc k) zero n h j = absurd (omega arith)
same_digits (suc k) (suc l) n h j = go (dec_le 10 n) (λ t. same_digits k l (n / 10) (omega arith) (omega arith))
  where
    go : Dec (10 ≤ n) → (10 ≤ n → digits_below k (n / 10) ≡ digits_below l (n / 10)) → digits_below (suc k) n ≡ digits_below (suc l) n
    go (yes t) rest = rw (le-ltb n 10 t, rest t)
    go (no t) rest = rw (lt-ltb n 10 (omega arith))

pub decimal_small : (n : ℕ) → n < 10 → decimal n ≡ digit n ∷ []
unfolding decimal digits_below
decimal_small n h = rw (lt-ltb n 10 h)

pub decimal_more : (n : ℕ) → 10 ≤ n → decimal n ≡ decimal (n / 10) ++ (digit (n % 10) ∷ [])
unfolding decimal digits_below
decimal_more n h = rw (le-ltb n 10 h) (ap (λ (x : List ℕ). x ++ (digit (n % 10) ∷ [])) (same_digits n (suc (n / 10)) (n / 10) (omega arith) (omega arith)))

-- the puts of the last digit, and of those before it
pub put_small : (n : ℕ) {o o' : List ℕ} {p p' : ℕ} → n < 10 → Put (digit (n % 10) ∷ []) o p o' p' → Put (decimal n) o p o' p'
put_small n h f = let e : n % 10 ≡ n = omega arith in rw (decimal_small n h, ← e) f

pub put_more : (n : ℕ) {o o' o'' : List ℕ} {p p' p'' : ℕ} → 10 ≤ n → Put (decimal (n / 10)) o p o' p' → Put (digit (n % 10) ∷ []) o' p' o'' p'' → Put (decimal n) o p o'' p''
put_more n h f g = rw (decimal_more n h) (then f g)

-- ---- how many digits there are

pub length-decimal : (k n : ℕ) → n < 10 ^ suc k → length (decimal n) ≤ suc k
length-decimal zero n h = rw (decimal_small n h) (omega arith)
length-decimal (suc k) n h = go (dec_le 10 n) (length-decimal k (n / 10))
  where
    go : Dec (10 ≤ n) → (n / 10 < 10 ^ suc k → length (decimal (n / 10)) ≤ suc k) → length (decimal n) ≤ suc (suc k)
    go (yes t) rest =
        let l : length (decimal (n / 10)) ≤ suc k = rest (omega (arith, h)) in
        rw (decimal_more n t, length-append (decimal (n / 10)) (digit (n % 10) ∷ [])) (omega arith)
    go (no t) rest = rw (decimal_small n (omega arith)) (omega arith)

-- a number of 64 bits has at most 20
pub length_word : (n : ℕ) → n < 2 ^ 64 → length (decimal n) ≤ 20
length_word n h = length-decimal 19 n (omega arith)

-- a line with two of them, and with words of at most 119 bytes, fits into a buffer of 160
two_fit : (a b : List ℕ) (n m : ℕ) → n < 2 ^ 64 → m < 2 ^ 64 → length a + length b ≤ 119 → length (two_numbers a n b m) ≤ 160
two_fit a b n m h k w =
    simp length-append (omega (arith, length_word n h, length_word m k))

pub two_whole : (a b : List ℕ) (n m : ℕ) {o o' : List ℕ} {r : ℕ} → n < 2 ^ 64 → m < 2 ^ 64 → length o ≡ 160
    → Put (two_numbers a n b m) o 0 o' r → length a + length b ≤ 119 → Line (two_numbers a n b m) o o' r
two_whole a b n m h k l f w = fitting (two_numbers a n b m) (omega (arith, two_fit a b n m h k w)) f

-- ---- the digits read back give the number

abbrev pub value : ℕ → List ℕ → ℕ
value v [] = v
value v (d ∷ ds) = value (v * 10 + (d - 48)) ds

value_last : (v : ℕ) (x : List ℕ) (d : ℕ) → value v (x ++ (d ∷ [])) ≡ value v x * 10 + (d - 48)
value_last v [] d = refl
value_last v (c ∷ x) d = value_last (v * 10 + (c - 48)) x d

back : (k n : ℕ) → n < k → value 0 (decimal n) ≡ n
back zero n h = absurd (omega arith)
back (suc k) n h = go (dec_le 10 n) (λ t. back k (n / 10) (omega arith))
  where
    go : Dec (10 ≤ n) → (10 ≤ n → value 0 (decimal (n / 10)) ≡ n / 10) → value 0 (decimal n) ≡ n
    go (yes t) rest = rw (decimal_more n t, value_last 0 (decimal (n / 10)) (digit (n % 10)), rest t) (omega arith)
    go (no t) rest = rw (decimal_small n (omega arith)) (omega arith)

pub reads_back : (n : ℕ) → value 0 (decimal n) ≡ n
reads_back n = back (suc n) n (omega arith)

-- ---- as it is printed

seven : decimal 7202 ≡ words "7202"
unfolding decimal digits_below
seven = refl

none : decimal 0 ≡ words "0"
unfolding decimal digits_below
none = refl

ten : decimal 10 ≡ words "10"
unfolding decimal digits_below
ten = refl
