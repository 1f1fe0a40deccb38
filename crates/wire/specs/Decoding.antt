-- The value that bytes hold at a place, by the layout alone: whether the bytes are a valid payload is judged in Reading.
use Rattle.std.specs.Prelude.{ℕ, zero, suc, ◌+◌, cond, List, [], ◌∷◌, take, drop, eqb}
use Rattle.wire.specs.Numbers.{number_at}
use Rattle.wire.specs.Layout.{size, Field, one, many, xid, Items, Fields}
use Rattle.wire.specs.declared.Item.{Item}
use Rattle.wire.specs.declared.Item.TheVariants.{Raw, Num, Str}
use Rattle.wire.specs.Values.{Xid, null, branch, Val, Vals, FieldVal, FieldVals}

-- ---- the place after a field that starts at p

-- after bytes, a number, a string's size and data
unfoldable pub after_item : Item → List ℕ → ℕ → ℕ
after_item (Raw n) s p = p + n
after_item (Num w l) s p = p + size w
after_item Str s p = p + 8 + number_at 8 s p

-- after an element
unfoldable pub after_items : Items → List ℕ → ℕ → ℕ
after_items [] s p = p
after_items (i ∷ is) s p = after_items is s (after_item i.kind s p)

-- after n elements
unfoldable pub after_elements : ℕ → Items → List ℕ → ℕ → ℕ
after_elements zero is s p = p
after_elements (suc n) is s p = after_elements n is s (after_items is s p)

-- after an xid whose lengths, if it has any, stand at q
unfoldable pub after_xid : List ℕ → ℕ → ℕ → ℕ
after_xid s f q = cond (eqb f 0) q (q + 8 + 8 + (number_at 8 s q + number_at 8 s (q + 8)))

-- after a field
unfoldable pub after_field : Field → List ℕ → ℕ → ℕ
after_field (one i) s p = after_item i s p
after_field (many w m is) s p = after_elements (number_at (size w) s p) is s (p + size w)
after_field xid s p = after_xid s (number_at 8 s p) (p + 8)

-- ---- the value of a field that starts at p

-- bytes, a number, a string's data
unfoldable pub item_at : (i : Item) → List ℕ → ℕ → Val i
item_at (Raw n) s p = take n (drop p s)
item_at (Num w l) s p = number_at (size w) s p
item_at Str s p = take (number_at 8 s p) (drop (p + 8) s)

-- an element
unfoldable pub items_at : (is : Items) → List ℕ → ℕ → Vals is
items_at [] s p = tt
items_at (i ∷ is) s p = (item_at i.kind s p, items_at is s (after_item i.kind s p))

-- n elements
unfoldable pub elements_at : ℕ → (is : Items) → List ℕ → ℕ → List (Vals is)
elements_at zero is s p = []
elements_at (suc n) is s p = items_at is s p ∷ elements_at n is s (after_items is s p)

-- an xid with formatID f, whose lengths, if it has any, stand at q
unfoldable pub xid_at : List ℕ → ℕ → ℕ → Xid
xid_at s f q =
    cond (eqb f 0) null
    (branch f (number_at 8 s q) (number_at 8 s (q + 8)) (take (number_at 8 s q + number_at 8 s (q + 8)) (drop (q + 8 + 8) s)))

-- a field
unfoldable pub field_at : (f : Field) → List ℕ → ℕ → FieldVal f
field_at (one i) s p = item_at i s p
field_at (many w m is) s p = elements_at (number_at (size w) s p) is s (p + size w)
field_at xid s p = xid_at s (number_at 8 s p) (p + 8)

-- the fields of a payload
unfoldable pub decode : (fs : Fields) → List ℕ → ℕ → FieldVals fs
decode [] s p = tt
decode (f ∷ fs) s p = (field_at f.kind s p, decode fs s (after_field f.kind s p))
