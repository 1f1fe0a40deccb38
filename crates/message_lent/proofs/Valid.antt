-- What agrees and is allowed stands for valid values.
use Prim.Native.Nat.{ℕ, zero, suc, ◌+◌, ◌*◌, ◌^◌, ◌<◌}
use native.Mathlib.Nat.{mul-suc, add_comm, pow-le-pow_right, lt_of_lt_of_le, zero-lt-suc}
use native.Mathlib.Decide.{ℕ_discrete}
use native.Mathlib.Omega.{arith}
use mathlib.Core.Path.{◌≡◌, refl, sym, ap, ◌∙◌}
use mathlib.Core.Bool.{true, ◌&&◌}
use mathlib.Core.List.{List, [], ◌∷◌}
use lib.ListN.{length, take, drop, get_or, length-take, length-drop}
use lib.Seq.{length-take-le}
use lib.Dec.{eqb, ltb, leb}
use borrow.Author.Tests.{eq-eqb, ne_eqb, eqb-true, ltb-true, leb-true, le-leb}
use Rattle.wire.specs.declared.Limits.{Limits}
use Rattle.wire.specs.Layout.{size, at_most, Field, one, many, xid, Items, Fields, gtrid_most, bqual_most}
use Rattle.wire.specs.declared.Item.{Item}
use Rattle.wire.specs.declared.Item.TheVariants.{Raw, Num, Str}
use Rattle.wire.specs.declared.Width.{Width}
use Rattle.wire.specs.Values.{Val, Valid, Valids, AllValid, FieldValid, FieldsValid, allowed}
use Rattle.wire.proofs.Parts.{both}
use Rattle.wire.proofs.Bytes.{bytes_take, bytes_drop, size_most_lem}
use Rattle.message_layout.specs.Table.{any_value}
use Rattle.message_lent.specs.Lent.{Column, Columns, first, rest, firsts, rests, rows, sum, column_agrees, columns_agree, judged, all_judged, column_allowed, columns_allowed, LentXid, Lent, Lents, xid_lent, value_lent, values_lent, item_agrees, xid_agrees, agrees, all_agree, item_allowed, xid_allowed, field_allowed, all_allowed}
use Rattle.message_lent.specs.Lending.{Slice, ItemTyped, ColumnTyped, ColumnsTyped, Typed, AllTyped}

pub length-rows : (is : Items) (n : ℕ) (cs : Columns is) → length (rows is n cs) ≡ n
unfolding rows
length-rows is zero cs = refl
length-rows is (suc n) cs = ap suc (length-rows is n (rests is cs))

-- ---- a number

below_eight : (w : Width) (v : ℕ) → v < 256 ^ size w → v < 256 ^ 8
below_eight w v h = lt_of_lt_of_le h (pow-le-pow_right (zero-lt-suc 255) (size_most_lem w))

any_allowed : (l : Limits) (v : ℕ) → l.most ≡ any_value → v < 256 ^ 8 → allowed l v ≡ true
unfolding allowed
any_allowed l v e h = rw e (simp (le-leb v any_value (omega arith)))

judged_valid : (w : Width) (l : Limits) (v : ℕ) → judged w l v ≡ true → (l.most ≡ any_value → v < 256 ^ size w) → (v < 256 ^ size w) × (allowed l v ≡ true)
unfolding judged
judged_valid w l v h k = go (ℕ_discrete l.most any_value)
  where
    go : Dec (l.most ≡ any_value) → (v < 256 ^ size w) × (allowed l v ≡ true)
    go (yes e) = (k e, any_allowed l v e (below_eight w v (k e)))
    go (no e) =
        let j : (ltb v (256 ^ size w) && allowed l v) ≡ true = rw (ne_eqb l.most any_value e) at h in
        let z = both (ltb v (256 ^ size w)) (allowed l v) j in
        (ltb-true v (256 ^ size w) z.0, z.1)

-- ---- a part of a slice

take_slice : (n : ℕ) (s : List ℕ) → Slice s → Slice (take n s)
take_slice n s t = (rw length-take (omega (arith, t.0)), bytes_take n s t.1)

drop_slice : (n : ℕ) (s : List ℕ) → Slice s → Slice (drop n s)
drop_slice n s t = (rw length-drop (omega (arith, t.0)), bytes_drop n s t.1)

-- ---- a column of n elements: its run, its numbers, or its lengths and their run, are as many as that

abbrev pub Counted : ℕ → (i : Item) → Column i → Type 0
Counted n (Raw k) run = length run ≡ k * n
Counted n (Num w l) ns = length ns ≡ n
Counted n Str c = (length c.0 ≡ n) × (sum c.0 ≡ length c.1)

abbrev pub AllCounted : ℕ → (is : Items) → Columns is → Type 0
AllCounted n [] cs = Unit
AllCounted n (i ∷ is) cs = Counted n i.kind cs.0 × AllCounted n is cs.1

counted : (n : ℕ) (i : Item) (c : Column i) → column_agrees n i c ≡ true → Counted n i c
unfolding column_agrees
counted n (Raw k) run h = eqb-true (length run) (k * n) h
counted n (Num w l) ns h = eqb-true (length ns) n h
counted n Str c h =
    let z = both (eqb (length c.0) n) (eqb (sum c.0) (length c.1)) h in
    (eqb-true (length c.0) n z.0, eqb-true (sum c.0) (length c.1) z.1)

all_counted : (n : ℕ) (is : Items) (cs : Columns is) → columns_agree n is cs ≡ true → AllCounted n is cs
unfolding columns_agree
all_counted n [] cs h = tt
all_counted n (i ∷ is) cs h =
    let z = both (column_agrees n i.kind cs.0) (columns_agree n is cs.1) h in
    (counted n i.kind cs.0 z.0, all_counted n is cs.1 z.1)

-- the first element is valid, and the others' column is as good
record Step (n : ℕ) (i : Item) (c : Column i) : Type 0 where
  valid : Valid i (first i c)
  later_counted : Counted n i (rest i c)
  later_allowed : column_allowed i (rest i c) ≡ true
  later_typed : ColumnTyped i (rest i c)

-- strings without the first one
fewer_strings : (n : ℕ) (ns run : List ℕ) → length ns ≡ suc n → sum ns ≡ length run
    → (length (drop 1 ns) ≡ n) × (sum (drop 1 ns) ≡ length (drop (get_or ns 0 0) run))
unfolding sum
fewer_strings n [] run h s = absurd (omega arith)
fewer_strings n (k ∷ ns) run h s = (omega arith, rw length-drop (omega arith))

more_bytes : (k n : ℕ) → k * suc n ≡ k + k * n
more_bytes k n = mul-suc k n ∙ add_comm (k * n) k

step : (n : ℕ) (i : Item) (c : Column i) → Counted (suc n) i c → column_allowed i c ≡ true → ColumnTyped i c → Step n i c
unfolding first rest column_allowed all_judged
step n (Raw k) run h a t =
    let e : length run ≡ k + k * n = h ∙ more_bytes k n in
    record {
      valid = (length-take-le k run (omega arith), bytes_take k run t.1);
      later_counted = rw length-drop (omega arith);
      later_allowed = refl;
      later_typed = drop_slice k run t;
    }
step n (Num w l) [] h a t = absurd (omega arith)
step n (Num w l) (v ∷ vs) h a t =
    let z = both (judged w l v) (all_judged w l vs) a in
    record {
      valid = judged_valid w l v z.0 (λ e. t e 0);
      later_counted = omega arith;
      later_allowed = z.1;
      later_typed = λ e i. t e (suc i);
    }
step n Str c h a t =
    record {
      valid = take_slice (get_or c.0 0 0) c.1 t;
      later_counted = fewer_strings n c.0 c.1 h.0 h.1;
      later_allowed = refl;
      later_typed = drop_slice (get_or c.0 0 0) c.1 t;
    }

record Steps (n : ℕ) (is : Items) (cs : Columns is) : Type 0 where
  valid : Valids is (firsts is cs)
  later_counted : AllCounted n is (rests is cs)
  later_allowed : columns_allowed is (rests is cs) ≡ true
  later_typed : ColumnsTyped is (rests is cs)

steps : (n : ℕ) (is : Items) (cs : Columns is) → AllCounted (suc n) is cs → columns_allowed is cs ≡ true → ColumnsTyped is cs → Steps n is cs
unfolding firsts rests columns_allowed
steps n [] cs h a t = record { valid = tt; later_counted = tt; later_allowed = refl; later_typed = tt }
steps n (i ∷ is) cs h a t =
    let z = both (column_allowed i.kind cs.0) (columns_allowed is cs.1) a in
    let f = step n i.kind cs.0 h.0 z.0 t.0 in
    let g = steps n is cs.1 h.1 z.1 t.1 in
    record {
      valid = (f.valid, g.valid);
      later_counted = (f.later_counted, g.later_counted);
      later_allowed = rw f.later_allowed g.later_allowed;
      later_typed = (f.later_typed, g.later_typed);
    }

rows_valid : (n : ℕ) (is : Items) (cs : Columns is) → AllCounted n is cs → columns_allowed is cs ≡ true → ColumnsTyped is cs → AllValid is (rows is n cs)
unfolding rows
rows_valid zero is cs h a t = tt
rows_valid (suc n) is cs h a t =
    let s = steps n is cs h a t in
    (s.valid, rows_valid n is (rests is cs) s.later_counted s.later_allowed s.later_typed)

-- ---- fields

-- the columns of each list that is lent
abbrev pub Agreed : (f : Field) → Lent f → Type 0
Agreed (one i) l = Unit
Agreed (many w m is) l = AllCounted l.0 is l.1
Agreed xid l = Unit

abbrev pub AllAgreed : (fs : Fields) → Lents fs → Type 0
AllAgreed [] l = Unit
AllAgreed (f ∷ fs) l = Agreed f.kind l.0 × AllAgreed fs l.1

agreed : (f : Field) (l : Lent f) → agrees f l ≡ true → Agreed f l
unfolding agrees
agreed (one i) l h = tt
agreed (many w m is) l h = all_counted l.0 is l.1 h
agreed xid l h = tt

-- where 48 is not given, each column has as many items as its list has elements
pub all_agreed : (fs : Fields) (l : Lents fs) → all_agree fs l ≡ true → AllAgreed fs l
unfolding all_agree
all_agreed [] l h = tt
all_agreed (f ∷ fs) l h =
    let z = both (agrees f.kind l.0) (all_agree fs l.1) h in
    (agreed f.kind l.0 z.0, all_agreed fs l.1 z.1)

item_valid : (i : Item) (v : Val i) → ItemTyped i v → item_agrees i v ≡ true → item_allowed i v ≡ true → Valid i v
unfolding item_agrees item_allowed
item_valid (Raw n) v t h a = (eqb-true (length v) n h, t.1)
item_valid (Num w l) v t h a = judged_valid w l v a t
item_valid Str v t h a = t

xid_valid : (x : LentXid) → Typed xid x → xid_agrees x ≡ true → xid_allowed x ≡ true → FieldValid xid (xid_lent x)
unfolding xid_lent xid_agrees xid_allowed
xid_valid x t h a = go (ℕ_discrete x.format 0)
  where
    go : Dec (x.format ≡ 0) → FieldValid xid (xid_lent x)
    go (yes e) = rw (eq-eqb x.format 0 e) tt
    go (no e) =
        let z = both (eqb (x.gtrid + x.bqual) (length x.bytes)) _ h in
        let s : x.gtrid + x.bqual ≡ length x.bytes = eqb-true (x.gtrid + x.bqual) (length x.bytes) z.0 in
        let y = both (leb x.gtrid gtrid_most) (leb x.bqual bqual_most) a in
        rw (ne_eqb x.format 0 e)
        ((t.0, e, leb-true x.gtrid gtrid_most y.0, leb-true x.bqual bqual_most y.1, sym s, t.1.1))

field_valid : (f : Field) (l : Lent f) → Typed f l → agrees f l ≡ true → field_allowed f l ≡ true → FieldValid f (value_lent f l)
unfolding agrees field_allowed value_lent
field_valid (one i) l t h a = item_valid i l t h a
field_valid (many w m is) l t h a =
    let z = both (judged w (at_most m) l.0) (columns_allowed is l.1) a in
    (rw (length-rows is l.0 l.1) (judged_valid w (at_most m) l.0 z.0 t.0), rows_valid l.0 is l.1 (all_counted l.0 is l.1 h) z.1 t.1)
field_valid xid l t h a = xid_valid l t h a

pub lent_valid : (fs : Fields) (l : Lents fs) → AllTyped fs l → all_agree fs l ≡ true → all_allowed fs l ≡ true → FieldsValid fs (values_lent fs l)
unfolding all_agree all_allowed values_lent
lent_valid [] l t h a = tt
lent_valid (f ∷ fs) l t h a =
    let y = both (agrees f.kind l.0) (all_agree fs l.1) h in
    let z = both (field_allowed f.kind l.0) (all_allowed fs l.1) a in
    (field_valid f.kind l.0 t.0 y.0 z.0, lent_valid fs l.1 t.1 y.1 z.1)
