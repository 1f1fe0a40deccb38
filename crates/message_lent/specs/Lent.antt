-- How values are lent to a writer (document 01, "Message layouts"): strings and ids as they are; of a list, each item of its elements as a column: its
-- numbers at 64 bits each; its strings joined, beside how long each of them is; its ids joined. Which lent values do not agree (48), which numbers are not
-- allowed (45), and the values that they stand for.
use Rattle.std.specs.Prelude.{ℕ, zero, suc, ◌+◌, ◌*◌, ◌^◌, Bool, true, cond, ◌&&◌, ◌||◌, List, [], ◌∷◌, length, take, drop, get_or, eqb, leb, ltb}
use Rattle.std.specs.List.{list_all}
use Rattle.wire.specs.declared.Limits.{Limits}
use Rattle.wire.specs.Layout.{size, at_most, Field, one, many, xid, Items, Fields, gtrid_most, bqual_most}
use Rattle.wire.specs.declared.Item.{Item}
use Rattle.wire.specs.declared.Item.TheVariants.{Raw, Num, Str}
use Rattle.wire.specs.declared.Width.{Width}
use Rattle.wire.specs.Values.{Xid, null, branch, Val, Vals, FieldVal, FieldVals, allowed}
use Rattle.message_layout.specs.Table.{any_value}

-- ---- the columns of a list

-- an item of all elements: a run of n bytes an element; a list of numbers; a list of lengths and the joined run
abbrev pub Column : Item → Type 0
Column (Raw n) = List ℕ
Column (Num w l) = List ℕ
Column Str = List ℕ × List ℕ

-- a column for each item
abbrev pub Columns : Items → Type 0
Columns [] = Unit
Columns (i ∷ is) = Column i.kind × Columns is

-- the first element's item
unfoldable pub first : (i : Item) → Column i → Val i
first (Raw n) run = take n run
first (Num w l) ns = get_or ns 0 0
first Str c = take (get_or c.0 0 0) c.1

-- the column of the elements after it
unfoldable pub rest : (i : Item) → Column i → Column i
rest (Raw n) run = drop n run
rest (Num w l) ns = drop 1 ns
rest Str c = (drop 1 c.0, drop (get_or c.0 0 0) c.1)

-- the first element: the first of each column
unfoldable pub firsts : (is : Items) → Columns is → Vals is
firsts [] cs = tt
firsts (i ∷ is) cs = (first i.kind cs.0, firsts is cs.1)

-- the columns of the elements after it
unfoldable pub rests : (is : Items) → Columns is → Columns is
rests [] cs = tt
rests (i ∷ is) cs = (rest i.kind cs.0, rests is cs.1)

-- n elements
unfoldable pub rows : (is : Items) → ℕ → Columns is → List (Vals is)
rows is zero cs = []
rows is (suc n) cs = firsts is cs ∷ rows is n (rests is cs)

-- ---- 48

-- the sum of lengths
unfoldable pub sum : List ℕ → ℕ
sum [] = 0
sum (n ∷ ns) = n + sum ns

-- a column is one of n elements: the run has its bytes an element; the list has n numbers; there are n lengths, which sum to the bytes lent
unfoldable pub column_agrees : ℕ → (i : Item) → Column i → Bool
column_agrees n (Raw k) run = eqb (length run) (k * n)
column_agrees n (Num w l) ns = eqb (length ns) n
column_agrees n Str c = eqb (length c.0) n && eqb (sum c.0) (length c.1)

-- every column is one of n elements
unfoldable pub columns_agree : ℕ → (is : Items) → Columns is → Bool
columns_agree n [] cs = true
columns_agree n (i ∷ is) cs = column_agrees n i.kind cs.0 && columns_agree n is cs.1

-- ---- 45

-- a number that is judged at all fits its width and is allowed
unfoldable pub judged : Width → Limits → ℕ → Bool
judged w l v = eqb l.most any_value || (ltb v (256 ^ size w) && allowed l v)

-- every number of a list
unfoldable pub all_judged : Width → Limits → List ℕ → Bool
all_judged w l vs = list_all (judged w l) vs

-- every number of a column is allowed; runs and strings are not judged
unfoldable pub column_allowed : (i : Item) → Column i → Bool
column_allowed (Raw n) run = true
column_allowed (Num w l) ns = all_judged w l ns
column_allowed Str c = true

-- every number of every column is allowed
unfoldable pub columns_allowed : (is : Items) → Columns is → Bool
columns_allowed [] cs = true
columns_allowed (i ∷ is) cs = column_allowed i.kind cs.0 && columns_allowed is cs.1

-- ---- the fields of a payload

-- an xid is lent as its formatID, its two lengths and its data
pub record LentXid : Type 0 where
  pub format : ℕ
  pub gtrid : ℕ
  pub bqual : ℕ
  pub bytes : List ℕ

-- an xid that is lent with these four
abbrev pub lent_xid : ℕ → ℕ → ℕ → List ℕ → LentXid
lent_xid f g b d = record { format = f; gtrid = g; bqual = b; bytes = d }

-- one item as it is; a list as its number of elements and its columns
abbrev pub Lent : Field → Type 0
Lent (one i) = Val i
Lent (many w m is) = ℕ × Columns is
Lent xid = LentXid

-- what is lent for each field of a payload
abbrev pub Lents : Fields → Type 0
Lents [] = Unit
Lents (f ∷ fs) = Lent f.kind × Lents fs

-- the xid that is lent: `null` where its formatID is 0, whatever else is lent
unfoldable pub xid_lent : LentXid → Xid
xid_lent x = cond (eqb x.format 0) null (branch x.format x.gtrid x.bqual x.bytes)

-- the value that is lent for a field
unfoldable pub value_lent : (f : Field) → Lent f → FieldVal f
value_lent (one i) l = l
value_lent (many w m is) l = rows is l.0 l.1
value_lent xid l = xid_lent l

-- the values that are lent for the fields of a payload
unfoldable pub values_lent : (fs : Fields) → Lents fs → FieldVals fs
values_lent [] l = tt
values_lent (f ∷ fs) l = (value_lent f.kind l.0, values_lent fs l.1)

-- 48, of one item: an id has its bytes; a number and a string that are lent by themselves always agree
unfoldable pub item_agrees : (i : Item) → Val i → Bool
item_agrees (Raw n) v = eqb (length v) n
item_agrees (Num w l) v = true
item_agrees Str v = true

-- 48, of an xid: its lengths sum to its data, and with formatID 0 there is no data
unfoldable pub xid_agrees : LentXid → Bool
xid_agrees x = eqb (x.gtrid + x.bqual) (length x.bytes) && (cond (eqb x.format 0) (eqb (length x.bytes) 0) true)

-- 48, of a field: one item; the columns of a list; an xid
unfoldable pub agrees : (f : Field) → Lent f → Bool
agrees (one i) l = item_agrees i l
agrees (many w m is) l = columns_agree l.0 is l.1
agrees xid l = xid_agrees l

-- 48, of a payload: every field agrees
unfoldable pub all_agree : (fs : Fields) → Lents fs → Bool
all_agree [] l = true
all_agree (f ∷ fs) l = agrees f.kind l.0 && all_agree fs l.1

-- 45, of one item: a number is allowed; bytes and strings are not judged
unfoldable pub item_allowed : (i : Item) → Val i → Bool
item_allowed (Raw n) v = true
item_allowed (Num w l) v = judged w l v
item_allowed Str v = true

-- 45, of an xid: gtrid_length and bqual_length are each within their limit
unfoldable pub xid_allowed : LentXid → Bool
xid_allowed x = leb x.gtrid gtrid_most && leb x.bqual bqual_most

-- 45, of a field: one item; the count and every number of a list; the two lengths of an xid
unfoldable pub field_allowed : (f : Field) → Lent f → Bool
field_allowed (one i) l = item_allowed i l
field_allowed (many w m is) l = judged w (at_most m) l.0 && columns_allowed is l.1
field_allowed xid l = xid_allowed l

-- 45, of a payload: every field is allowed
unfoldable pub all_allowed : (fs : Fields) → Lents fs → Bool
all_allowed [] l = true
all_allowed (f ∷ fs) l = field_allowed f.kind l.0 && all_allowed fs l.1
