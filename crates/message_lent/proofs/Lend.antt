-- Valid values, lent: they stand for themselves again, agree and are allowed.
use Prim.Native.Nat.{ℕ, suc, ◌+◌, ◌*◌, ◌^◌, ◌<◌}
use native.Mathlib.Nat.{mul-suc, mul-zero, add_comm}
use native.Mathlib.Omega.{arith}
use mathlib.Core.Path.{◌≡◌, refl, sym, ap, ◌∙◌}
use mathlib.Core.Bool.{Bool, true, false, ◌||◌}
use mathlib.Core.List.{List, [], ◌∷◌, map}
use lib.ListN.{length, length-append, length-map}
use lib.Seq.{take_at, drop_at}
use lib.Dec.{eqb}
use borrow.Author.Tests.{eq-eqb, ne_eqb, lt-ltb, le-leb}
use Rattle.wire.specs.declared.Limits.{Limits}
use Rattle.wire.specs.Layout.{size, at_most, Named, Field, one, many, xid, Items, Fields, gtrid_most, bqual_most}
use Rattle.wire.specs.declared.Item.{Item}
use Rattle.wire.specs.declared.Item.TheVariants.{Raw, Num, Str}
use Rattle.wire.specs.declared.Width.{Width}
use Rattle.wire.specs.Values.{Xid, null, branch, Val, Vals, FieldVal, FieldVals, Valid, Valids, AllValid, FieldValid, FieldsValid, allowed}
use Rattle.message_layout.specs.Table.{any_value}
use Rattle.message_lent.specs.Lent.{first, rest, firsts, rests, rows, sum, column_agrees, columns_agree, judged, all_judged, column_allowed, columns_allowed, xid_lent, value_lent, values_lent, item_agrees, xid_agrees, agrees, all_agree, item_allowed, xid_allowed, field_allowed, all_allowed}
use Rattle.message_lent.specs.Lending.{joined, lend_column, lend_columns, lend_xid, lend_field, lend_fields}

-- ---- a column

-- each value of a column is valid
abbrev EachValid : (i : Item) → List (Val i) → Type 0
EachValid i [] = Unit
EachValid i (v ∷ vs) = Valid i v × EachValid i vs

first-lent : (i : Item) (v : Val i) (vs : List (Val i)) → Valid i v → first i (lend_column i (v ∷ vs)) ≡ v
unfolding first lend_column joined
first-lent (Raw n) v vs h = take_at v (joined vs) n h.0
first-lent (Num w l) v vs h = refl
first-lent Str v vs h = take_at v (joined vs) (length v) refl

rest-lent : (i : Item) (v : Val i) (vs : List (Val i)) → Valid i v → rest i (lend_column i (v ∷ vs)) ≡ lend_column i vs
unfolding rest lend_column joined
rest-lent (Raw n) v vs h = drop_at v (joined vs) n h.0
rest-lent (Num w l) v vs h = refl
rest-lent Str v vs h = λ j. (map length vs, drop_at v (joined vs) (length v) refl j)

judged_true : (w : Width) (l : Limits) (v : ℕ) → v < 256 ^ size w → allowed l v ≡ true → judged w l v ≡ true
unfolding judged
judged_true w l v h k = rw (lt-ltb v (256 ^ size w) h, k) (either (eqb l.most any_value))
  where
    either : (t : Bool) → (t || true) ≡ true
    either true = refl
    either false = refl

joined_fixed : (n : ℕ) (vs : List (List ℕ)) → EachValid (Raw n) vs → length (joined vs) ≡ n * length vs
unfolding joined
joined_fixed n [] h = sym (mul-zero n)
joined_fixed n (v ∷ vs) h =
    let r = joined_fixed n vs h.1 in
    let e : n * suc (length vs) ≡ n + n * length vs = mul-suc n (length vs) ∙ add_comm (n * length vs) n in
    length-append v (joined vs) ∙ omega (arith, h.0.0)

joined-sum : (vs : List (List ℕ)) → sum (map length vs) ≡ length (joined vs)
unfolding joined sum
joined-sum [] = refl
joined-sum (v ∷ vs) = ap (λ (k : ℕ). length v + k) (joined-sum vs) ∙ sym (length-append v (joined vs))

column_agrees_lem : (i : Item) (vs : List (Val i)) → EachValid i vs → column_agrees (length vs) i (lend_column i vs) ≡ true
unfolding column_agrees lend_column
column_agrees_lem (Raw n) vs h = eq-eqb (length (joined vs)) (n * length vs) (joined_fixed n vs h)
column_agrees_lem (Num w l) vs h = eq-eqb (length vs) (length vs) refl
column_agrees_lem Str vs h =
    rw (eq-eqb (length (map length vs)) (length vs) (length-map vs length), eq-eqb (sum (map length vs)) (length (joined vs)) (joined-sum vs))

column_allowed_lem : (i : Item) (vs : List (Val i)) → EachValid i vs → column_allowed i (lend_column i vs) ≡ true
unfolding column_allowed lend_column all_judged
column_allowed_lem (Raw n) vs h = refl
column_allowed_lem (Num w l) [] h = refl
column_allowed_lem (Num w l) (v ∷ vs) h =
    rw (judged_true w l v h.0.0 h.0.1) (column_allowed_lem (Num w l) vs h.1)
column_allowed_lem Str vs h = refl

-- ---- the columns of a list

heads : (i : Named Item) (is : Items) (vs : List (Vals (i ∷ is))) → AllValid (i ∷ is) vs → EachValid i.kind (map (λ v. v.0) vs)
heads i is [] h = tt
heads i is (v ∷ vs) h = (h.0.0, heads i is vs h.1)

tails : (i : Named Item) (is : Items) (vs : List (Vals (i ∷ is))) → AllValid (i ∷ is) vs → AllValid is (map (λ v. v.1) vs)
tails i is [] h = tt
tails i is (v ∷ vs) h = (h.0.1, tails i is vs h.1)

firsts-lent : (is : Items) (v : Vals is) (vs : List (Vals is)) → Valids is v → firsts is (lend_columns is (v ∷ vs)) ≡ v
unfolding firsts lend_columns
firsts-lent [] v vs h = refl
firsts-lent (i ∷ is) v vs h =
    λ j. (first-lent i.kind v.0 (map (λ x. x.0) vs) h.0 j, firsts-lent is v.1 (map (λ x. x.1) vs) h.1 j)

rests-lent : (is : Items) (v : Vals is) (vs : List (Vals is)) → Valids is v → rests is (lend_columns is (v ∷ vs)) ≡ lend_columns is vs
unfolding rests lend_columns
rests-lent [] v vs h = refl
rests-lent (i ∷ is) v vs h =
    λ j. (rest-lent i.kind v.0 (map (λ x. x.0) vs) h.0 j, rests-lent is v.1 (map (λ x. x.1) vs) h.1 j)

rows-lent : (is : Items) (vs : List (Vals is)) → AllValid is vs → rows is (length vs) (lend_columns is vs) ≡ vs
unfolding rows
rows-lent is [] h = refl
rows-lent is (v ∷ vs) h =
    λ j. firsts-lent is v vs h.0 j ∷ (ap (rows is (length vs)) (rests-lent is v vs h.0) ∙ rows-lent is vs h.1) j

columns_agree_lem : (is : Items) (n : ℕ) (vs : List (Vals is)) → n ≡ length vs → AllValid is vs → columns_agree n is (lend_columns is vs) ≡ true
unfolding columns_agree lend_columns
columns_agree_lem [] n vs e h = refl
columns_agree_lem (i ∷ is) n vs e h =
    let l : n ≡ length (map (λ v. v.0) vs) = e ∙ sym (length-map vs (λ v. v.0)) in
    let k : column_agrees n i.kind (lend_column i.kind (map (λ v. v.0) vs)) ≡ true = rw l (column_agrees_lem i.kind (map (λ v. v.0) vs) (heads i is vs h)) in
    rw k (columns_agree_lem is n (map (λ v. v.1) vs) (e ∙ sym (length-map vs (λ v. v.1))) (tails i is vs h))

columns_allowed_lem : (is : Items) (vs : List (Vals is)) → AllValid is vs → columns_allowed is (lend_columns is vs) ≡ true
unfolding columns_allowed lend_columns
columns_allowed_lem [] vs h = refl
columns_allowed_lem (i ∷ is) vs h =
    rw (column_allowed_lem i.kind (map (λ v. v.0) vs) (heads i is vs h)) (columns_allowed_lem is (map (λ v. v.1) vs) (tails i is vs h))

-- ---- fields: what is lent of a valid value

pub record Back (f : Field) (v : FieldVal f) : Type 0 where
  pub value : value_lent f (lend_field f v) ≡ v
  pub agree : agrees f (lend_field f v) ≡ true
  pub allow : field_allowed f (lend_field f v) ≡ true

item-agrees : (i : Item) (v : Val i) → Valid i v → item_agrees i v ≡ true
unfolding item_agrees
item-agrees (Raw n) v h = eq-eqb (length v) n h.0
item-agrees (Num w l) v h = refl
item-agrees Str v h = refl

item-allowed : (i : Item) (v : Val i) → Valid i v → item_allowed i v ≡ true
unfolding item_allowed
item-allowed (Raw n) v h = refl
item-allowed (Num w l) v h = judged_true w l v h.0 h.1
item-allowed Str v h = refl

xid_back : (x : Xid) → FieldValid xid x → Back xid x
unfolding value_lent xid_lent lend_field lend_xid agrees xid_agrees field_allowed xid_allowed
xid_back null h = record { value = refl; agree = refl; allow = refl }
xid_back (branch f g b d) h =
    record {
      value = rw (ne_eqb f 0 h.1);
      agree = rw (eq-eqb (g + b) (length d) (sym h.4), ne_eqb f 0 h.1);
      allow = rw (le-leb g gtrid_most h.2, le-leb b bqual_most h.3);
    }

field_back : (f : Field) (v : FieldVal f) → FieldValid f v → Back f v
unfolding value_lent lend_field agrees field_allowed
field_back (one i) v h = record { value = refl; agree = item-agrees i v h; allow = item-allowed i v h }
field_back (many w m is) vs h =
    record {
      value = rows-lent is vs h.1;
      agree = columns_agree_lem is (length vs) vs refl h.1;
      allow = rw (judged_true w (at_most m) (length vs) h.0.0 h.0.1) (columns_allowed_lem is vs h.1);
    }
field_back xid x h = xid_back x h

pub record AllBack (fs : Fields) (v : FieldVals fs) : Type 0 where
  pub value : values_lent fs (lend_fields fs v) ≡ v
  pub agree : all_agree fs (lend_fields fs v) ≡ true
  pub allow : all_allowed fs (lend_fields fs v) ≡ true

pub all_back : (fs : Fields) (v : FieldVals fs) → FieldsValid fs v → AllBack fs v
unfolding values_lent lend_fields all_agree all_allowed
all_back [] v h = record { value = refl; agree = refl; allow = refl }
all_back (f ∷ fs) v h =
    let a = field_back f.kind v.0 h.0 in
    let b = all_back fs v.1 h.1 in
    record {
      value = λ j. (a.value j, b.value j);
      agree = rw a.agree b.agree;
      allow = rw a.allow b.allow;
    }
