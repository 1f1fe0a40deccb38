-- The elements of a list that is found in accepted bytes hold what the elements of its value hold.
use Prim.Native.Nat.{ℕ, zero, suc, ◌+◌, ◌≤◌}
use native.Mathlib.Nat.{add-zero}
use mathlib.Core.Path.{◌≡◌, refl, sym, ap, ◌∙◌}
use mathlib.Core.Bool.{cond}
use mathlib.Core.List.{List, [], ◌∷◌}
use lib.ListN.{length, drop}
use lib.Dec.{ltb}
use Rattle.wire.specs.Numbers.{number_at}
use Rattle.wire.specs.Layout.{at_most}
use Rattle.wire.specs.Values.{FieldVals}
use Rattle.wire.specs.Decoding.{item_at, items_at, elements_at, field_at, after_item, after_items, after_field, decode}
use Rattle.wire.specs.Reading.{Outcome, read_number, read_item, read_items, read_elements, read_list, read_field, read_fields}
use Rattle.wire.specs.declared.Width.TheVariants.{U64}
use Rattle.std.specs.Prelude.{Option, None, Some, Ok}
use Rattle.wire.proofs.Parts.{was_then, number_accepted}
use Rattle.wire.proofs.Ends.{Was, first_element}
use Rattle.message_layout.specs.Table.{any_value, EnteredItem, item_entries, named_items, items_of, fields_of, item_fields, entries_from}
use Rattle.message_layout.specs.declared.Element.{Element}
use Rattle.message_layout.specs.declared.Source.TheVariants as source
use Rattle.message_fields.specs.Contents.{Content}
use Rattle.message_fields.specs.Fields.{content_at, content_from}
use Rattle.message_fields.specs.declared.Found.{Found}
use Rattle.message_fields.specs.declared.Found.TheVariants.{Bytes, Number, Xid, List as Listed}
use Rattle.message_lists.specs.Elements.{from_element, of_listed, of_found}
use Rattle.message_agree.specs.Contents.{content_of, as_fields, element_content, of_element, content_element}
use Rattle.message_agree.proofs.Below.{below_none, below_first, below_suc}
use Rattle.message_agree.proofs.Shift.{items_shift, drop_element, front_accepted}
use Rattle.message_agree.proofs.Found.{Stands, sought-agrees}

-- ---- an element

-- the items of an element are read, and give the values, as fields do
items_read : (es : List EnteredItem) (s : List ℕ) (o : Outcome) → read_fields (fields_of (item_fields es)) s o ≡ read_items (named_items es) s o
unfolding read_fields read_field read_items
items_read [] s o = refl
items_read (e ∷ es) s o = items_read es s (read_item e.item s o)

items_decoded : (es : List EnteredItem) (s : List ℕ) (p : ℕ) → decode (fields_of (item_fields es)) s p ≡ as_fields es (items_at (named_items es) s p)
unfolding decode field_at after_field items_at as_fields
items_decoded [] s p = refl
items_decoded (e ∷ es) s p =
    ap (λ (y : FieldVals (fields_of (item_fields es))). (item_at e.item s p, y)) (items_decoded es s (after_item e.item s p))

-- where an element is accepted at the front of s, the field that is found holds what its values hold under the role
front_agrees : (r : ℕ) (e : Element) (s : List ℕ) → Was (read_items (items_of e) s (Ok 0))
    → content_from r (source.Element e) s ≡ element_content r e (items_at (items_of e) s 0)
unfolding entries_from items_of element_content
front_agrees r e s a =
    let es : List EnteredItem = item_entries e in
    (sought-agrees r (item_fields es) s 0 a.0 (items_read es s (Ok 0) ∙ a.1)).0
    ∙ ap (content_of r (item_fields es)) (items_decoded es s 0)

-- where it is accepted at p, so does the field that is found in what follows p
element_agrees : (r : ℕ) (e : Element) (s : List ℕ) (p q : ℕ) → read_items (items_of e) s (Ok p) ≡ Ok q → p ≤ length s
    → content_from r (source.Element e) (drop p s) ≡ element_content r e (items_at (items_of e) s p)
element_agrees r e s p q h l =
    front_agrees r e (drop p s) (front_accepted s p l (items_of e) q h)
    ∙ ap (element_content r e) (sym (items_shift s p (items_of e) 0) ∙ ap (items_at (items_of e) s) (add-zero p))

-- ---- a list

-- an accepted list: its elements are accepted after its count
pub list_read : (e : Element) (s : List ℕ) (p : ℕ) → Stands s (Some (Listed e p))
    → Was (read_elements (number_at 8 s p) (items_of e) s (Ok (p + 8))) × (p + 8 ≤ length s)
unfolding read_field read_list
list_read e s p a =
    let c = was_then (read_number U64 (at_most any_value) s (Ok p)) (λ q. read_elements (number_at 8 s p) (items_of e) s (Ok q)) a.0 a.1 in
    let k = number_accepted U64 (at_most any_value) s p c.0 c.1 in
    let z : read_number U64 (at_most any_value) s (Ok p) ≡ Ok (p + 8) = c.1 ∙ ap Ok k.0 in
    ((a.0, rw z at a.1), k.1)

-- for any answer f of a content, and d where there is no element n
module _ {B : Type 0} (d : B) (f : Content → B) where
  -- of c elements that are accepted at p, the answer for element n is the one that their values give
  elements_agree : (r : ℕ) (e : Element) (s : List ℕ) (n c p q : ℕ) → read_elements c (items_of e) s (Ok p) ≡ Ok q → p ≤ length s
      → cond (ltb n c) (f (content_from r (source.Element e) (from_element n (items_of e) (drop p s)))) d
      ≡ of_element d (λ x. f (element_content r e x)) n (elements_at c (items_of e) s p)
  unfolding read_elements from_element elements_at of_element
  elements_agree r e s n zero p q h l = rw (below_none n) refl
  elements_agree r e s zero (suc c) p q h l =
      rw (below_first c) (ap f (element_agrees r e s p _ (first_element s c (items_of e) p q h l).0 l))
  elements_agree r e s (suc n) (suc c) p q h l =
      let k = first_element s c (items_of e) p q h l in
      rw (below_suc n c, drop_element (items_of e) s p) (elements_agree r e s n c (after_items (items_of e) s p) q k.2 k.1)

  -- the answer for element n of what was found is the one that its content gives
  pub element_content_lem : (x : Option Found) (n r : ℕ) (s : List ℕ) → Stands s x → of_found d f x n r s ≡ content_element d f n r (content_at x s)
  unfolding of_listed field_at
  element_content_lem None n r s a = refl
  element_content_lem (Some (Bytes p k)) n r s a = refl
  element_content_lem (Some (Number k)) n r s a = refl
  element_content_lem (Some (Xid p)) n r s a = refl
  element_content_lem (Some (Listed e p)) n r s a =
      let b = list_read e s p a in
      elements_agree r e s n (number_at 8 s p) (p + 8) b.0.0 b.0.1 b.1
