-- Laws of parts of a slice, for the code that hands values back.
use Prim.Native.Nat.{ℕ, ◌+◌, ◌-◌, ◌^◌, ◌≤◌, ◌<◌, min}
use native.Mathlib.Decide.{dec_le}
use native.Mathlib.Omega.{arith}
use mathlib.Core.Path.{◌≡◌, refl, sym, ap, ◌∙◌}
use mathlib.Core.List.{List, []}
use lib.ListN.{length, take, drop, length-drop, drop_of_length-le}
use lib.Seq.{take_all, take-nil}
use borrow.Author.Tests.{eq-eqb, ne_eqb}
use Rattle.wire.specs.Numbers.{number_at, be, be_from}
use Rattle.wire.specs.Layout.{xid}
use Rattle.wire.specs.Decoding.{xid_at, field_at}
use Rattle.wire.specs.Contents.{data_of, xid_number}
use Rattle.wire.specs.declared.values.XidNumber.{XidNumber}
use Rattle.wire.specs.declared.values.XidNumber.TheVariants.{FormatId, GtridLength, BqualLength}

-- as many bytes as there are are all of them
pub take_capped : (k m : ℕ) (l : List ℕ) → length l ≤ m → take (min k m) l ≡ take k l
take_capped k m l h = go (dec_le k m)
  where
    go : Dec (k ≤ m) → take (min k m) l ≡ take k l
    go (yes z) = let y : min k m ≡ k = omega arith in ap (λ (j : ℕ). take j l) y
    go (no z) = take_all (min k m) l (omega arith) ∙ sym (take_all k l (omega arith))

be_none : be [] ≡ 0
unfolding be be_from
be_none = refl

-- a number other than 0 has a byte
pub number_inside : (w : ℕ) (s : List ℕ) (p n : ℕ) → n ≡ number_at w s p → (n ≡ 0 → ⊥) → p < length s
number_inside w s p n e nz = go (dec_le (length s) p)
  where
    go : Dec (length s ≤ p) → p < length s
    go (no h) = omega arith
    go (yes h) = absurd (nz (e ∙ ap be (rw (drop_of_length-le s {i = p} h) (take-nil w)) ∙ be_none))

-- ---- an xid

module _ (s : List ℕ) (p : ℕ) where
  module _ (f : ℕ) (ef : f ≡ number_at 8 s p) where
    pub data_null : f ≡ 0 → [] ≡ data_of (field_at xid s p)
    unfolding field_at xid_at
    data_null z = rw (eq-eqb (number_at 8 s p) 0 (sym ef ∙ z))

    pub number_null : (n : XidNumber) → f ≡ 0 → 0 ≡ xid_number n (field_at xid s p)
    unfolding field_at xid_at
    number_null n z = rw (eq-eqb (number_at 8 s p) 0 (sym ef ∙ z))

    module _ (nz : f ≡ 0 → ⊥) where
      nonzero : number_at 8 s p ≡ 0 → ⊥
      nonzero z = nz (ef ∙ z)

      pub number_format : (x : XidNumber) → x ≡ FormatId → f ≡ xid_number x (field_at xid s p)
      unfolding field_at xid_at
      number_format x e = rw (e, ne_eqb (number_at 8 s p) 0 nonzero) ef

      pub number_gtrid : (x : XidNumber) (g : ℕ) → x ≡ GtridLength → g ≡ number_at 8 s (p + 8) → g ≡ xid_number x (field_at xid s p)
      unfolding field_at xid_at
      number_gtrid x g e k = rw (e, ne_eqb (number_at 8 s p) 0 nonzero) k

      pub number_bqual : (x : XidNumber) (b : ℕ) → x ≡ BqualLength → b ≡ number_at 8 s (p + 8 + 8) → b ≡ xid_number x (field_at xid s p)
      unfolding field_at xid_at
      number_bqual x b e k = rw (e, ne_eqb (number_at 8 s p) 0 nonzero) k

      pub data_is : (g b n : ℕ) → g ≡ number_at 8 s (p + 8) → b ≡ number_at 8 s (p + 8 + 8) → n ≡ min (g + b) (2 ^ 64 - 1) → length s < 2 ^ 64
          → (r : List ℕ) → r ≡ take n (drop (p + 8 + 8 + 8) s) → r ≡ data_of (field_at xid s p)
      unfolding field_at xid_at
      data_is g b n eg eb en small r h =
          let l : length (drop (p + 8 + 8 + 8) s) ≤ 2 ^ 64 - 1 = rw length-drop (omega arith) in
          rw (ne_eqb (number_at 8 s p) 0 nonzero, ← eg, ← eb)
          (h ∙ ap (λ (k : ℕ). take k (drop (p + 8 + 8 + 8) s)) en ∙ take_capped (g + b) (2 ^ 64 - 1) (drop (p + 8 + 8 + 8) s) l)
