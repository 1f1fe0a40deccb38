-- Puts, one after the other, and a line that fits.
use Prim.Native.Nat.{ℕ, suc, ◌+◌, ◌-◌, ◌≤◌, ◌<◌, min}
use native.Mathlib.Nat.{add-zero, zero-add}
use native.Mathlib.Decide.{dec_le}
use native.Mathlib.Omega.{arith}
use mathlib.Core.Path.{◌≡◌, refl, sym, ap, ◌∙◌}
use mathlib.Core.List.{List, [], ◌∷◌, ◌++◌, append_assoc}
use lib.ListN.{length, take, drop, set, length-append, take-append-drop}
use lib.Seq.{length-take-le, drop-drop, set_out, sets, sets-eq, length-sets}
use borrow.Rule.Slice.PartMut.{put_mid}
use Rattle.text.specs.Puts.{Put, Line}
use Rattle.text.specs.Cursors.{Puts}
use Rattle.text.specs.declared.cursor.Cursor.{Cursor}

sets_append : (o : List ℕ) (p : ℕ) (x y : List ℕ) → sets (sets o p x) (p + length x) y ≡ sets o p (x ++ y)
sets_append o p [] y = rw (add-zero p)
sets_append o p (b ∷ x) y = let e : p + suc (length x) ≡ suc p + length x = omega arith in rw e (sets_append (set o p b) (suc p) x y)

sets_past : (o : List ℕ) (p : ℕ) (x : List ℕ) → length o ≤ p → sets o p x ≡ o
sets_past o p [] h = refl
sets_past o p (b ∷ x) h = rw (set_out o p b h) (sets_past o (suc p) x (omega arith))

-- nothing put, and one put after another
pub none : (o : List ℕ) (p r : ℕ) → r ≡ min p (length o) → Put [] o p o r
none o p r e = record { buffer = refl; place = e ∙ rw (add-zero p) }

pub then : {x y o o' o'' : List ℕ} {p p' p'' : ℕ} → Put x o p o' p' → Put y o' p' o'' p'' → Put (x ++ y) o p o'' p''
then {x} {y} {o} {o'} {o''} {p} {p'} {p''} f g =
    let l : length o' ≡ length o = ap length f.buffer ∙ length-sets o p x in
    record {
      buffer = g.buffer ∙ rw f.buffer (go l (dec_le (p + length x) (length o)));
      place = omega (arith, f.place, g.place, l, length-append x y);
    }
  where
    go : length o' ≡ length o → Dec (p + length x ≤ length o) → sets (sets o p x) p' y ≡ sets o p (x ++ y)
    go l (yes h) = let e : p' ≡ p + length x = omega (arith, f.place) in rw e (sets_append o p x y)
    go l (no h) =
        let k : length (sets o p x) ≤ p' = omega (arith, f.place, length-sets o p x) in
        let j : length (sets o p x) ≤ p + length x = omega (arith, length-sets o p x) in
        sets_past (sets o p x) p' y k ∙ sym (sets_past (sets o p x) (p + length x) y j) ∙ sets_append o p x y

pub same_size : {x o o' : List ℕ} {p p' : ℕ} → Put x o p o' p' → length o' ≡ length o
same_size {x} {o} {o'} {p} {p'} f = ap length f.buffer ∙ length-sets o p x

-- bytes from a place on, or from the end of the buffer
pub all_in : (s o : List ℕ) (p q r : ℕ) {o' : List ℕ} → q ≡ min p (length o) → Put s o q o' r → Put s o p o' r
all_in s o p q r {o'} e f = go (dec_le p (length o))
  where
    go : Dec (p ≤ length o) → Put s o p o' r
    go (yes h) = let d : q ≡ p = omega arith in rw d at f
    go (no h) =
        record {
          buffer = f.buffer ∙ sets_past o q s (omega arith) ∙ sym (sets_past o p s (omega arith));
          place = omega (arith, f.place);
        }

-- bytes of which all fit, as a part of the buffer is lent for them
fits_at : (s o : List ℕ) (p : ℕ) → p + length s ≤ length o → Put s o p (put_mid p (length s) o s) (p + length s)
fits_at s o p h = record { buffer = rw (drop-drop (length s) p o, sets-eq s o p h, append_assoc) refl; place = omega arith }

pub text_fits : (s o : List ℕ) (at p k : ℕ) {ys : List ℕ} → p ≡ min at (length o) → length s ≤ length o - p → ys ≡ s → k ≡ length s → Put s o at (put_mid p k o ys) (p + length s)
text_fits s o at p k {ys} e h f g = rw (f, g) (all_in s o at p (p + length s) e (fits_at s o p (omega arith)))

-- and bytes of which only the first ones do
pub text_cut : (s o : List ℕ) (at p : ℕ) {ys : List ℕ} → p ≡ min at (length o) → length o - p < length s → ys ≡ take (length o - p) s
    → Put s o at (put_mid p (length o - p) o ys) (length (put_mid p (length o - p) o ys))
text_cut s o at p {ys} e h f =
    let m = length o - p in
    let l : length (take m s) ≡ m = length-take-le m s (omega arith) in
    let a : Put (take m s) o p (put_mid p m o (take m s)) (p + m) = rw l at (fits_at (take m s) o p (omega (arith, l))) in
    let n : length (put_mid p m o (take m s)) ≡ length o = same_size a in
    let b : Put (drop m s) (put_mid p m o (take m s)) (p + m) (put_mid p m o (take m s)) (length (put_mid p m o (take m s))) =
    record { buffer = sym (sets_past (put_mid p m o (take m s)) (p + m) (drop m s) (omega arith)); place = omega arith } in
    rw f (all_in s o at p _ e (rw (take-append-drop m s) at (then a b)))

-- five puts
pub five : {a b c d e o o1 o2 o3 o4 o5 : List ℕ} {p p1 p2 p3 p4 p5 : ℕ}
    → Put a o p o1 p1 → Put b o1 p1 o2 p2 → Put c o2 p2 o3 p3 → Put d o3 p3 o4 p4 → Put e o4 p4 o5 p5
    → Put (a ++ (b ++ (c ++ (d ++ e)))) o p o5 p5
five f g h i j = then f (then g (then h (then i j)))

-- a line that fits stands at the front
pub fitting : (x : List ℕ) {o o' : List ℕ} {r : ℕ} → length x ≤ length o → Put x o 0 o' r → Line x o o' r
fitting x {o} {o'} {r} h f =
    record {
      buffer = f.buffer ∙ (rw (zero-add (length x)) at (sets-eq x o 0 (rw (zero-add (length x)) h)));
      size = omega (arith, f.place);
    }

-- bytes put at a cursor, one after another; and none
pub chain : {x y : List ℕ} {a b c : Cursor} → Puts x a b → Puts y b c → Puts (x ++ y) a c
chain f g = record { put = then f.put g.put; same = g.same ∙ f.same }

pub put_none : (a : Cursor) → a.at ≤ length a.out.now → Puts [] a a
put_none a h = record { put = none a.out.now a.at a.at (omega arith); same = refl }
