-- Reading a payload s from a place on, in two ways: as it is now, and by the rule before document 02's T-02, when data of a string that runs past was
-- answered at itself; all else is read as now. The second is kept to compare the two (message_explain/proofs/Before), and for nothing else; `present_fields` says that the other
-- one is specs/Reading's.
use Prim.Native.Nat.{ℕ, zero, suc}
use mathlib.Core.Path.{◌≡◌, refl, sym, ap, ◌∙◌}
use mathlib.Core.List.{List, [], ◌∷◌}
use Rattle.wire.specs.Numbers.{number_at}
use Rattle.wire.specs.Layout.{size, at_most, Field, one, many, xid, Items, Fields}
use Rattle.wire.specs.Reading.{Outcome, and_then, room, read_bytes, read_number, read_string, read_item, read_items, read_elements, read_list, read_xid, read_field, read_fields}
use Rattle.wire.specs.declared.Item.{Item}
use Rattle.wire.specs.declared.Item.TheVariants.{Raw, Num, Str}
use Rattle.std.specs.Prelude.{Ok, Err}
use Rattle.wire.specs.declared.Refused.{Refused}
use Rattle.wire.proofs.Parts.{item_refused, field_refused, elements_refused}

-- the rule for data of a string that runs past: now, and before T-02
pub data Rule : Type 0 where
  present : Rule
  former : Rule

-- where data at q that runs past is answered, behind a size at p
abbrev pub data_place : Rule → ℕ → ℕ → ℕ
data_place present p q = p
data_place former p q = q

-- a string: its size, and its data at q
abbrev pub string_by : Rule → List ℕ → ℕ → Outcome
string_by t s p = and_then (room 8 s p p) (λ q. room (number_at 8 s p) s q (data_place t p q))

-- an item; bytes and numbers are read as now
unfoldable pub item_by : Rule → Item → List ℕ → ℕ → Outcome
item_by t (Raw n) s p = read_bytes n s (Ok p)
item_by t (Num w l) s p = read_number w l s (Ok p)
item_by t Str s p = string_by t s p

-- an element
unfoldable pub items_by : Rule → Items → List ℕ → ℕ → Outcome
items_by t [] s p = Ok p
items_by t (i ∷ is) s p = and_then (item_by t i.kind s p) (items_by t is s)

-- n elements
unfoldable pub elements_by : Rule → ℕ → Items → List ℕ → ℕ → Outcome
elements_by t zero is s p = Ok p
elements_by t (suc n) is s p = and_then (items_by t is s p) (elements_by t n is s)

-- a field: an item; a list, which is its count and as many elements; an xid, which is read as now
unfoldable pub field_by : Rule → Field → List ℕ → ℕ → Outcome
field_by t (one i) s p = item_by t i s p
field_by t (many w m is) s p = and_then (read_number w (at_most m) s (Ok p)) (elements_by t (number_at (size w) s p) is s)
field_by t xid s p = read_xid s (Ok p)

-- the fields of a payload
unfoldable pub fields_by : Rule → Fields → List ℕ → ℕ → Outcome
fields_by t [] s p = Ok p
fields_by t (f ∷ fs) s p = and_then (field_by t f.kind s p) (fields_by t fs s)

-- ---- as it is now, it is specs/Reading's

-- what goes on from an outcome, and passes a refusal on
goes_on_lem : (o : Outcome) (next : ℕ → Outcome) (R : Outcome → Outcome)
    → ((p : ℕ) → next p ≡ R (Ok p)) → ((q : Refused) → R (Err q) ≡ Err q) → and_then o next ≡ R o
goes_on_lem (Ok p) next R on pass = on p
goes_on_lem (Err q) next R on pass = sym (pass q)

items_refused : (is : Items) (s : List ℕ) (q : Refused) → read_items is s (Err q) ≡ Err q
unfolding read_items
items_refused [] s q = refl
items_refused (i ∷ is) s q = rw (item_refused i.kind s q) (items_refused is s q)

fields_refused : (fs : Fields) (s : List ℕ) (q : Refused) → read_fields fs s (Err q) ≡ Err q
unfolding read_fields
fields_refused [] s q = refl
fields_refused (x ∷ xs) s q = rw (field_refused x.kind s q) (fields_refused xs s q)

module _ (s : List ℕ) where
  pub present_item : (i : Item) (p : ℕ) → item_by present i s p ≡ read_item i s (Ok p)
  unfolding item_by read_item read_string
  present_item (Raw n) p = refl
  present_item (Num w l) p = refl
  present_item Str p = refl

  present_items : (is : Items) (p : ℕ) → items_by present is s p ≡ read_items is s (Ok p)
  unfolding items_by read_items
  present_items [] p = refl
  present_items (i ∷ is) p =
      goes_on_lem _ _ (read_items is s) (present_items is) (items_refused is s) ∙ ap (read_items is s) (present_item i.kind p)

  present_elements : (n : ℕ) (is : Items) (p : ℕ) → elements_by present n is s p ≡ read_elements n is s (Ok p)
  unfolding elements_by read_elements
  present_elements zero is p = refl
  present_elements (suc n) is p =
      goes_on_lem _ _ (read_elements n is s) (present_elements n is) (λ q. elements_refused n is s (Err q) q refl)
      ∙ ap (read_elements n is s) (present_items is p)

  pub present_field : (f : Field) (p : ℕ) → field_by present f s p ≡ read_field f s (Ok p)
  unfolding field_by read_field read_list
  present_field (one i) p = present_item i p
  present_field (many w m is) p = λ k. and_then (read_number w (at_most m) s (Ok p)) (λ q. present_elements (number_at (size w) s p) is q k)
  present_field xid p = refl

  pub present_fields : (fs : Fields) (p : ℕ) → fields_by present fs s p ≡ read_fields fs s (Ok p)
  unfolding fields_by read_fields
  present_fields [] p = refl
  present_fields (f ∷ fs) p =
      goes_on_lem _ _ (read_fields fs s) (present_fields fs) (fields_refused fs s) ∙ ap (read_fields fs s) (present_field f.kind p)
