-- Puts, one after the other.
use Prim.Native.Nat.{min, ℕ, zero, suc, ◌+◌, ◌-◌, ◌/◌, ◌%◌, ◌^◌, ◌≤◌, ◌<◌}
use native.Mathlib.Numerals.{add-one}
use native.Mathlib.Nat.{add-zero, add-suc, div-one, div-div-eq-div-mul, min-eq_left, min-eq_right, pow-succ'}
use native.Mathlib.Decide.{dec_le}
use native.Mathlib.Omega.{arith}
use mathlib.Core.Path.{◌≡◌, refl, sym, ap, ◌∙◌}
use mathlib.Core.List.{List, [], ◌∷◌, ◌++◌, append_assoc, append-nil}
use lib.ListN.{length, take, drop, set, length-set, length-drop, take-append-drop, drop_of_length-le}
use borrow.Rule.Slice.PartMut.{put_mid}
use lib.Seq.{drop-drop, length-take-le, set_out, sets, sets-eq}
use borrow.Author.Tests.{lt-ltb, le-ltb}
use Rattle.std.specs.Int.{w64, byte_at, bytes_high_first, to_be_bytes}
use Rattle.wire.specs.Layout.{size}
use Rattle.wire.specs.declared.Width.{Width}
use Rattle.wire.specs.declared.Width.TheVariants.{U8, U16, U32, U64}
use Rattle.wire.specs.Numbers.{bytes_of}
use Rattle.message_put.specs.Puts.{last_place, next, after, put_at, Put}

after-append : (p : ℕ) (x y : List ℕ) → after (after p x) y ≡ after p (x ++ y)
unfolding after
after-append p [] y = refl
after-append p (b ∷ x) y = after-append (next p) x y

put-append : (o : List ℕ) (p : ℕ) (x y : List ℕ) → put_at (put_at o p x) (after p x) y ≡ put_at o p (x ++ y)
unfolding after put_at
put-append o p [] y = refl
put-append o p (b ∷ x) y = put-append (set o p b) (next p) x y

pub length-put : (o : List ℕ) (p : ℕ) (x : List ℕ) → length (put_at o p x) ≡ length o
unfolding put_at
length-put o p [] = refl
length-put o p (b ∷ x) = length-put (set o p b) (next p) x ∙ length-set o p b

-- nothing put, and one put after another
pub none : {o : List ℕ} {p : ℕ} → Put [] o p o p
unfolding after put_at
none = record { bytes = refl; place = refl }

pub then : {x y o o' o'' : List ℕ} {p p' p'' : ℕ} → Put x o p o' p' → Put y o' p' o'' p'' → Put (x ++ y) o p o'' p''
then {x} {y} {o} {o'} {o''} {p} {p'} {p''} f g =
    record {
      bytes = g.bytes ∙ rw (f.bytes, f.place) (put-append o p x y);
      place = g.place ∙ rw f.place (after-append p x y);
    }

pub same_length : {x o o' : List ℕ} {p p' : ℕ} → Put x o p o' p' → length o' ≡ length o
same_length {x} {o} {o'} {p} {p'} f = ap length f.bytes ∙ length-put o p x

-- ---- the bytes of a number, the lowest last

-- in two parts: the higher bytes are those of the quotient
bytes-parts : (a b n : ℕ) → bytes_of (a + b) n ≡ bytes_of a (n / 256 ^ b) ++ bytes_of b n
unfolding bytes_of
bytes-parts a zero n = rw (add-zero a, append-nil (bytes_of a (n / 256 ^ 0)), div-one n)
bytes-parts a (suc b) n =
    rw (add-suc a b, bytes-parts a b (n / 256), pow-succ' 256 b, ← div-div-eq-div-mul n 256 (256 ^ b))
    (append_assoc (bytes_of a (n / 256 / 256 ^ b)) (bytes_of b (n / 256)) (n % 256 ∷ []))

-- bytes that were cut where the output ends

pub cut : (s : List ℕ) (k : ℕ) {o o' o'' : List ℕ} {p p' p'' : ℕ} → Put (take k s) o p o' p' → Put (drop k s) o' p' o'' p'' → Put s o p o'' p''
cut s k f g = rw (take-append-drop k s) at (then f g)

-- ---- where the places end, and what is written where all of it fits

next_below : (p : ℕ) → p < last_place → next p ≡ suc p
unfolding next
next_below p h = rw (lt-ltb p last_place h) (add-one p)

next_last : (p : ℕ) → last_place ≤ p → next p ≡ p
unfolding next
next_last p h = rw (le-ltb p last_place h)

-- a place that exists is the sum
pub after-length : (p : ℕ) (x : List ℕ) → p + length x ≤ last_place → after p x ≡ p + length x
unfolding after
after-length p [] h = sym (add-zero p)
after-length p (b ∷ x) h =
    rw (next_below p (omega arith)) (after-length (suc p) x (omega arith) ∙ omega arith)

stays_last : (p : ℕ) (x : List ℕ) → last_place ≤ p → after p x ≡ p
unfolding after
stays_last p [] h = refl
stays_last p (b ∷ x) h = rw (next_last p h) (stays_last p x h)

-- and one that does not is the last
pub after_last : (p : ℕ) (x : List ℕ) → p ≤ last_place → last_place < p + length x → after p x ≡ last_place
unfolding after
after_last p [] h k = omega arith
after_last p (b ∷ x) h k = go (dec_le last_place p) (λ l j. after_last (suc p) x l j)
  where
    go : Dec (last_place ≤ p) → (suc p ≤ last_place → last_place < suc p + length x → after (suc p) x ≡ last_place) → after (next p) x ≡ last_place
    go (yes l) more = rw (next_last p l) (stays_last p x l ∙ omega arith)
    go (no l) more = rw (next_below p (omega arith)) (more (omega arith) (omega arith))

put_sets : (o : List ℕ) (p : ℕ) (x : List ℕ) → p + length x ≤ last_place → put_at o p x ≡ sets o p x
unfolding put_at
put_sets o p [] h = refl
put_sets o p (b ∷ x) h = rw (next_below p (omega arith)) (put_sets (set o p b) (suc p) x (omega arith))

pub put_fits : (o : List ℕ) (p : ℕ) (x : List ℕ) → p + length x ≤ last_place → p + length x ≤ length o
    → put_at o p x ≡ take p o ++ (x ++ drop (p + length x) o)
put_fits o p x h k = put_sets o p x h ∙ sets-eq x o p k ∙ append_assoc (take p o) x (drop (p + length x) o)

-- an output that is filled holds what was put
pub filled : (x : List ℕ) {o o' : List ℕ} {r : ℕ} → length x ≤ last_place → length o ≡ length x → Put x o 0 o' r → o' ≡ x
filled x {o} {o'} {r} h k f =
    f.bytes ∙ put_fits o 0 x (omega arith) (omega arith) ∙ rw (drop_of_length-le o {i = 0 + length x} (omega arith), append-nil x)

-- ---- past the end nothing is written

next_above : (p : ℕ) → p ≤ next p
next_above p = go (dec_le last_place p)
  where
    go : Dec (last_place ≤ p) → p ≤ next p
    go (yes l) = rw (next_last p l) (omega arith)
    go (no l) = rw (next_below p (omega arith)) (omega arith)

put_past : (o : List ℕ) (p : ℕ) (x : List ℕ) → length o ≤ p → put_at o p x ≡ o
unfolding put_at
put_past o p [] h = refl
put_past o p (b ∷ x) h = let k : p ≤ next p = next_above p in rw (set_out o p b h) (put_past o (next p) x (omega arith))

pub counted_past : (o : List ℕ) (p r : ℕ) (x : List ℕ) → length o ≤ p → r ≡ after p x → Put x o p o r
counted_past o p r x h e = record { bytes = sym (put_past o p x h); place = e }

-- r is the place after n bytes
abbrev pub After : ℕ → ℕ → ℕ → Type 0
After p n r = (x : List ℕ) → length x ≡ n → r ≡ after p x

pub bytes_counted : (s o : List ℕ) (p r : ℕ) → length o ≤ p → After p (length s) r → Put s o p o r
bytes_counted s o p r h f = counted_past o p r s h (f s refl)

-- ---- bytes that are put at once: all of them where they fit, and otherwise those that do

-- a place that saturates is the place after
pub ends : (p n r : ℕ) → p ≤ last_place → r ≡ min (p + n) last_place → After p n r
ends p n r h e x l = go (dec_le (p + n) last_place)
  where
    go : Dec (p + n ≤ last_place) → r ≡ after p x
    go (yes k) = e ∙ min-eq_left k ∙ omega (arith, after-length p x (omega arith))
    go (no k) = e ∙ min-eq_right (omega arith) ∙ omega (arith, after_last p x h (omega arith))

module _ (o s : List ℕ) (p : ℕ) where
  pub past : (r : ℕ) → p ≤ last_place → length o ≤ p → r ≡ min (p + length s) last_place → Put s o p o r
  past r k h e = bytes_counted s o p r h (ends p (length s) r k e)

  pub fitting : (x : List ℕ) (n : ℕ) → length o ≤ last_place → p + length s ≤ length o → n ≡ length s → x ≡ s → Put s o p (put_mid p n o x) (p + length s)
  fitting x n l h en ex =
      record {
        bytes = rw (en, ex, drop-drop (length s) p o) (sym (put_fits o p s (omega arith) h));
        place = sym (after-length p s (omega arith));
      }

-- the bytes that fit are put, and the others counted
pub cut_counted : (s : List ℕ) (k l : ℕ) {o o' : List ℕ} {p r : ℕ} → p + k ≡ l → k ≤ length s → length o' ≡ l
    → Put (take k s) o p o' (p + length (take k s)) → After l (length s - k) r → Put s o p o' r
cut_counted s k l {o} {o'} {p} {r} e h z f g =
    let q : p + length (take k s) ≡ l = rw (length-take-le k s h) e in
    cut s k (rw q at f) (counted_past o' l r (drop k s) (omega arith) (g (drop k s) (length-drop k s)))

pub cut_off : (o s x : List ℕ) (p n r : ℕ) → length o ≤ last_place → p ≤ length o → length o < p + length s → n ≡ length o - p → x ≡ take n s
    → r ≡ min (p + length s) last_place → Put s o p (put_mid p n o x) r
cut_off o s x p n r k l h en ex e =
    let t : length (take n s) ≡ n = length-take-le n s (omega arith) in
    let q : p + length (take n s) ≡ length o = omega arith in
    let f : Put (take n s) o p (put_mid p n o x) (p + length (take n s)) = fitting o (take n s) p x n k (omega arith) (sym t) ex in
    cut_counted s n (length o) (omega arith) (omega arith) (same_length f) f
    (ends (length o) (length s - n) r k (e ∙ ap (λ (z : ℕ). min z last_place) (omega arith)))

-- ---- the bytes of a number, as the library has them

byte-is : (k n : ℕ) → n / 256 ^ k % 256 ≡ byte_at k n
byte-is zero n = ap (λ (z : ℕ). z % 256) (div-one n)
byte-is (suc k) n = refl

high_first : (k n : ℕ) → bytes_high_first k n ≡ bytes_of k n
unfolding bytes_of
high_first zero n = refl
high_first (suc k) n =
    let e : suc k ≡ 1 + k = omega arith in
    rw (high_first k n, ← byte-is k n) (sym (ap (λ (z : ℕ). bytes_of z n) e ∙ bytes-parts 1 k n))

-- its lowest bytes
pub low_bytes : (w : Width) (k n : ℕ) → k ≡ size w → drop (8 - k) (to_be_bytes w64 n) ≡ bytes_of (size w) n
low_bytes U8 k n e = rw e (high_first 1 n)
low_bytes U16 k n e = rw e (high_first 2 n)
low_bytes U32 k n e = rw e (high_first 4 n)
low_bytes U64 k n e = rw e (high_first 8 n)
