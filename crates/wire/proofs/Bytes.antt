-- Laws of numbers and their bytes.
use Prim.Native.Nat.{ℕ, zero, suc, ◌+◌, ◌*◌, ◌/◌, ◌%◌, ◌^◌, ◌≤◌, ◌<◌}
use native.Mathlib.Nat.{pow-suc, pow-le-pow_right, lt_of_lt_of_le, zero-lt-suc, add-zero, zero-add}
use native.Mathlib.Numerals.{add-one}
use native.Mathlib.Omega.{arith}
use mathlib.Core.Path.{◌≡◌, refl, subst}
use mathlib.Core.List.{List, [], ◌∷◌, ◌++◌}
use lib.ListN.{length, take, drop, get_or, length-append, length-take, length-drop}
use lib.Seq.{take-suc, get_or-drop}
use Rattle.wire.specs.Numbers.{Bytes, be, be_from, bytes_of, number_at}
use Rattle.wire.specs.Layout.{size}
use Rattle.wire.specs.declared.Width.{Width}
use Rattle.wire.specs.declared.Width.TheVariants.{U8, U16, U32, U64}

-- ---- the number that bytes hold

be_from_snoc : (high : ℕ) (xs : List ℕ) (x : ℕ) → be_from high (xs ++ (x ∷ [])) ≡ be_from high xs * 256 + x
unfolding be_from
be_from_snoc high [] x = refl
be_from_snoc high (y ∷ xs) x = be_from_snoc (high * 256 + y) xs x

pub be_snoc : (xs : List ℕ) (x : ℕ) → be (xs ++ (x ∷ [])) ≡ be xs * 256 + x
unfolding be
be_snoc xs x = be_from_snoc 0 xs x

-- eight bytes, as the library puts them together
pub be_eight : (xs : List ℕ) → length xs ≡ 8 → (n : ℕ)
    → n ≡ get_or xs 0 0 * 0x100_0000_0000_0000 + get_or xs 1 0 * 0x1_0000_0000_0000 + get_or xs 2 0 * 0x100_0000_0000 + get_or xs 3 0 * 0x1_0000_0000
    + get_or xs 4 0 * 0x100_0000 + get_or xs 5 0 * 0x1_0000 + get_or xs 6 0 * 0x100 + get_or xs 7 0
    → n ≡ be xs
unfolding be be_from
be_eight (a ∷ b ∷ c ∷ d ∷ e ∷ f ∷ g ∷ h ∷ []) l n k = omega arith
be_eight _ l n k = absurd (omega arith)

pub bytes_drop : (n : ℕ) (s : List ℕ) → Bytes s → Bytes (drop n s)
bytes_drop n s b i = rw get_or-drop (b (n + i))

pub bytes_take : (n : ℕ) (s : List ℕ) → Bytes s → Bytes (take n s)
bytes_take zero s b i = omega arith
bytes_take (suc n) [] b i = b i
bytes_take (suc n) (x ∷ s) b zero = b 0
bytes_take (suc n) (x ∷ s) b (suc i) = bytes_take n s (λ j. b (suc j)) i

be_from_below : (k high : ℕ) (xs : List ℕ) → Bytes xs → high < 256 ^ k → be_from high xs < 256 ^ (k + length xs)
unfolding be_from
be_from_below k high [] b h = rw add-zero h
be_from_below k high (x ∷ xs) b h =
    let hx : x < 256 = b 0 in
    let e : 256 ^ suc k ≡ 256 ^ k * 256 = pow-suc 256 k in
    let h' : high * 256 + x < 256 ^ suc k = omega arith in
    let r : be_from (high * 256 + x) xs < 256 ^ (suc k + length xs) = be_from_below (suc k) (high * 256 + x) xs (λ j. b (suc j)) h' in
    subst (λ (n : ℕ). be_from (high * 256 + x) xs < 256 ^ n) (omega arith) r

pub be_below : (w : ℕ) (xs : List ℕ) → Bytes xs → length xs ≤ w → be xs < 256 ^ w
unfolding be
be_below w xs b h =
    lt_of_lt_of_le (rw zero-add at (be_from_below 0 0 xs b (zero-lt-suc 0))) (pow-le-pow_right (zero-lt-suc 255) h)

pub number_below : (w : ℕ) (s : List ℕ) (p : ℕ) → Bytes s → number_at w s p < 256 ^ w
number_below w s p b = be_below w (take w (drop p s)) (bytes_take w (drop p s) (bytes_drop p s b)) (simp length-take (omega arith))

-- one byte more
pub be-next : (s : List ℕ) (i : ℕ) → i < length s → be (take (i + 1) s) ≡ be (take i s) * 256 + get_or s i 0
be-next s i h = rw (add-one, take-suc s i 0 h, be_snoc)

pub be-next_below : (w : ℕ) (s : List ℕ) (i : ℕ) → Bytes s → i < length s → i < w → be (take i s) * 256 + get_or s i 0 < 256 ^ w
be-next_below w s i b h k =
    rw (← be-next s i h) (be_below w (take (i + 1) s) (bytes_take (i + 1) s b) (simp length-take (omega arith)))

-- ---- the bytes of a number

pub length-bytes_of : (w n : ℕ) → length (bytes_of w n) ≡ w
unfolding bytes_of
length-bytes_of zero n = refl
length-bytes_of (suc w) n = simp (length-append, length-bytes_of w (n / 256), add-one)

pub be-bytes_of : (w n : ℕ) → n < 256 ^ w → be (bytes_of w n) ≡ n
unfolding be be_from bytes_of
be-bytes_of zero n h = omega arith
be-bytes_of (suc w) n h =
    let e : 256 ^ suc w ≡ 256 ^ w * 256 = pow-suc 256 w in
    rw (be_snoc, be-bytes_of w (n / 256) (omega arith)) (omega arith)

pub bytes_of-number : (w : ℕ) (s : List ℕ) (p : ℕ) → Bytes s → p + w ≤ length s → bytes_of w (number_at w s p) ≡ take w (drop p s)
unfolding bytes_of
bytes_of-number zero s p b h = refl
bytes_of-number (suc w) s p b h =
    let x : ℕ = get_or s (p + w) 0 in
    let hx : x < 256 = b (p + w) in
    let l : w < length (drop p s) = simp length-drop (omega arith) in
    let n : number_at (suc w) s p ≡ number_at w s p * 256 + x = rw (take-suc (drop p s) w 0 l, be_snoc, get_or-drop) in
    let d : number_at (suc w) s p / 256 ≡ number_at w s p = omega arith in
    let m : number_at (suc w) s p % 256 ≡ x = omega arith in
    rw (d, m, bytes_of-number w s p b (omega arith), take-suc (drop p s) w 0 l, get_or-drop)

-- ---- widths

pub size_most_lem : (w : Width) → size w ≤ 8
size_most_lem U8 = omega arith
size_most_lem U16 = omega arith
size_most_lem U32 = omega arith
size_most_lem U64 = omega arith
