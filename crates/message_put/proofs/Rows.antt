-- The elements of a list, put one after the other from columns that are lent.
use Prim.Native.Nat.{ℕ, suc, ◌+◌, ◌-◌, ◌≤◌, ◌<◌}
use native.Mathlib.Nat.{sub-zero}
use native.Mathlib.Omega.{arith}
use mathlib.Core.Path.{◌≡◌, sym, ap, ◌∙◌}
use mathlib.Core.List.{List, [], ◌++◌, append_assoc, append-nil}
use lib.ListN.{length}
use borrow.Author.Tests.{eq-eqb, ne_eqb}
use Rattle.wire.specs.Numbers.{bytes_of}
use Rattle.wire.specs.Layout.{Items, many, xid}
use Rattle.wire.specs.Values.{Vals, encode_item, encode_items, encode_elements, encode_field}
use Rattle.wire.specs.declared.Width.TheVariants.{U64}
use Rattle.message_layout.specs.Table.{any_value}
use Rattle.message_lent.specs.Lent.{Columns, firsts, rests, rows, lent_xid, xid_lent}
use Rattle.message_lent.proofs.Valid.{length-rows}
use Rattle.message_put.specs.Puts.{after, Put}
use Rattle.message_put.proofs.Chain.{none, then, counted_past}

-- i of n elements are put, and the columns `now` hold the others
pub record Going (is : Items) (n : ℕ) (cs : Columns is) (o : List ℕ) (p : ℕ) (i : ℕ) (now : Columns is) (o' : List ℕ) (p' : ℕ) : Type 0 where
  pub x : List ℕ
  pub put : Put x o p o' p'
  pub left : x ++ encode_elements is (rows is (n - i) now) ≡ encode_elements is (rows is n cs)

pub going_none : (is : Items) (n : ℕ) (cs : Columns is) (o : List ℕ) (p : ℕ) → Going is n cs o p 0 cs o p
going_none is n cs o p = record { x = []; put = none; left = rw (sub-zero n) }

rows_more : (is : Items) (n i : ℕ) (cs : Columns is) → i < n
    → encode_elements is (rows is (n - i) cs) ≡ encode_items is (firsts is cs) ++ encode_elements is (rows is (n - (i + 1)) (rests is cs))
unfolding rows encode_elements
rows_more is n i cs h = let e : n - i ≡ suc (n - (i + 1)) = omega arith in rw e

pub going_more : (is : Items) (n : ℕ) (cs : Columns is) {o o' o'' : List ℕ} {p i p' p'' : ℕ} (now : Columns is) → Going is n cs o p i now o' p' → i < n
    → (v : Vals is) → firsts is now ≡ v → Put (encode_items is v) o' p' o'' p''
    → (later : Columns is) → rests is now ≡ later → Going is n cs o p (i + 1) later o'' p''
going_more is n cs {o} {o'} {o''} {p} {i} {p'} {p''} now g h v e f later l =
    let E : List ℕ = encode_items is v in
    record {
      x = g.x ++ E;
      put = then g.put f;
      left =
          append_assoc g.x E (encode_elements is (rows is (n - (i + 1)) later))
          ∙ rw (← l, ← e) (ap (λ (t : List ℕ). g.x ++ t) (sym (rows_more is n i now h)))
          ∙ g.left;
    }

-- the whole list, after its count
pub going_all : (is : Items) (n : ℕ) (cs : Columns is) {a a' o' : List ℕ} {q p p' : ℕ} (i : ℕ) (now : Columns is)
    → Put (bytes_of 8 n) a q a' p → Going is n cs a' p i now o' p' → n ≤ i
    → Put (encode_field (many U64 any_value is) (rows is n cs)) a q o' p'
unfolding encode_field rows encode_elements
going_all is n cs {a} {a'} {o'} {q} {p} {p'} i now c g h =
    let z : n - i ≡ 0 = omega arith in
    let e : g.x ≡ encode_elements is (rows is n cs) = sym (append-nil g.x) ∙ (rw z at g.left) in
    rw (length-rows is n cs, ← e) (then c g.put)

-- the same past the end of the output
pub all_counted : (is : Items) (n : ℕ) (cs : Columns is) {a a' : List ℕ} {q p r : ℕ} → Put (bytes_of 8 n) a q a' p → length a' ≤ p
    → r ≡ after p (encode_elements is (rows is n cs)) → Put (encode_field (many U64 any_value is) (rows is n cs)) a q a' r
unfolding encode_field
all_counted is n cs {a} {a'} {q} {p} {r} c h e =
    rw (length-rows is n cs) (then c (counted_past a' p r (encode_elements is (rows is n cs)) h e))

-- ---- an xid: formatID 0, and another with what follows it

pub xid_null : (f g b : ℕ) (d : List ℕ) {o o' : List ℕ} {p p' : ℕ} → f ≡ 0 → Put (bytes_of 8 f) o p o' p'
    → Put (encode_field xid (xid_lent (lent_xid f g b d))) o p o' p'
unfolding encode_field xid_lent
xid_null f g b d z h = rw (eq-eqb f 0 z) (rw z at h)

pub xid_branch : (f g b : ℕ) (d : List ℕ) {o o' : List ℕ} {p p' : ℕ} → (f ≡ 0 → ⊥) → Put (bytes_of 8 f ++ (bytes_of 8 g ++ (bytes_of 8 b ++ (d ++ [])))) o p o' p'
    → Put (encode_field xid (xid_lent (lent_xid f g b d))) o p o' p'
unfolding encode_field xid_lent encode_items encode_item
xid_branch f g b d z h = rw (ne_eqb f 0 z) h
