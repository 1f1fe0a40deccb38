-- Parts of a slice, lent and back.
use mathlib.Core.Path.{◌≡◌, refl}
use mathlib.Core.Bool.{true, ◌&&◌}
use mathlib.Core.List.{List, ◌++◌, append-nil}
use Prim.Native.Nat.{ℕ, ◌+◌, ◌-◌, ◌<◌, ◌≤◌}
use native.Mathlib.Omega.{arith}
use lib.Dec.{leb}
use lib.ListN.{length, take, drop, length-append, length-drop, drop_of_length-le}
use lib.Seq.{length-take-le, take-take}
use borrow.Rule.Slice.PartMut.{put_mid}
use borrow.Author.Tests.{eq-eqb, lt-ltb, le-leb}
use Rattle.link_bytes.specs.Records.{written, fitted}
use Rattle.link_bytes.specs.Store.{in_row}

pub fitted-is : (bytes out : List ℕ) → length bytes ≤ length out → fitted bytes out ≡ written bytes out
fitted-is bytes out h = rw (le-leb _ _ h) refl

pub written-length : (bytes out : List ℕ) → length bytes ≤ length out → length (written bytes out) ≡ length out
written-length bytes out h = rw (length-append, length-drop) (omega arith)

pub tail_back : (a : ℕ) (xs ys : List ℕ) → put_mid a (length xs - a) xs ys ≡ take a xs ++ ys
tail_back a xs ys = rw (drop_of_length-le (drop a xs) {i = length xs - a} (omega (arith, length-drop a xs)), append-nil) refl

-- a row's part of the store has its 1,024 bytes
pub row_span : (at : ℕ) → at + 1024 - at ≡ 1024
row_span at = omega arith

-- bytes given from the front of a row
pub given_is : (store out z : List ℕ) (at n : ℕ) → at + 1024 ≤ length store → n ≤ 1024 → z ≡ take (at + n - at) (drop at store) → z ++ drop n out ≡ written (take n (take 1024 (drop at store))) out
given_is store out z at n h k e =
    let m : at + n - at ≡ n = omega arith in
    let g : length (take n (drop at store)) ≡ n = length-take-le n (drop at store) (omega (arith, length-drop at store)) in
    rw (e, m, take-take n 1024 (drop at store) k, g) refl

pub row_in : (store_len r n : ℕ) → store_len ≡ 32768 → r < 32 → n ≤ 1024 → in_row store_len r n ≡ true
row_in store_len r n a b c = rw (eq-eqb store_len 32768 a, lt-ltb r 32 b, le-leb n 1024 c) refl

pub front_in : (store_len out_len r unread n : ℕ) → store_len ≡ 32768 → r < 32 → unread ≤ 1024 → n ≤ unread → n ≤ out_len → (in_row store_len r unread && (leb n unread && leb n out_len)) ≡ true
front_in store_len out_len r unread n a b c d e = rw (row_in store_len r unread a b c, le-leb n unread d, le-leb n out_len e) refl
