-- What a message holds under a role, taken from its values and not from its bytes.
use Rattle.std.specs.Prelude.{ℕ, zero, suc, cond, List, [], ◌∷◌, length, eqb, Ok, Err}
use Rattle.wire.specs.Values.{Vals, FieldVal, FieldVals}
use Rattle.wire.specs.declared.Item.TheVariants.{Raw, Num, Str}
use Rattle.message_layout.specs.Roles.{ProtocolVersions, Offered}
use Rattle.message_layout.specs.Table.{EnteredItem, item_entries, named_items, items_of, field_of, Entered, entries_of, item_fields, fields_of, layout}
use Rattle.message_layout.specs.Message.{Message}
use Rattle.message_layout.specs.declared.Element.{Element}
use Rattle.message_layout.specs.declared.Kind.{Kind}
use Rattle.message_layout.specs.declared.Kind.TheVariants as kind
use Rattle.message_fields.specs.Contents.{Content, lacking, bytes, numeral, xid, list, Value, content_number}

-- ---- contents

-- the value of a field, by its kind: of a part that follows a flag, the flag, which says whether the part is there
abbrev pub valued : (k : Kind) → FieldVal (field_of k) → Content
valued (kind.One (Raw n)) v = bytes v
valued (kind.One (Num w l)) v = numeral v
valued (kind.One Str) v = bytes v
valued (kind.List e) v = list e v
valued (kind.Optional e) v = numeral (length v)
valued kind.Xid v = xid v

-- of some fields, by their values: the first field that has the role
unfoldable pub content_of : ℕ → (es : List Entered) → FieldVals (fields_of es) → Content
content_of r [] v = lacking
content_of r (e ∷ es) v = cond (eqb r e.role) (valued e.kind v.0) (content_of r es v.1)

-- of a message
unfoldable pub content_in : ℕ → Message → Content
unfolding layout
content_in r x = content_of r (entries_of x.kind) x.values

-- the values of an element's items, as those of fields
unfoldable pub as_fields : (es : List EnteredItem) → Vals (named_items es) → FieldVals (fields_of (item_fields es))
as_fields [] v = tt
as_fields (e ∷ es) v = (v.0, as_fields es v.1)

-- of an element
unfoldable pub element_content : ℕ → (e : Element) → Vals (items_of e) → Content
unfolding items_of
element_content r e v = content_of r (item_fields (item_entries e)) (as_fields (item_entries e) v)

-- ---- a field of element n

-- what f gives for element n of a list, or d where there is none
unfoldable pub of_element : {A B : Type 0} → B → (A → B) → ℕ → List A → B
of_element d f n [] = d
of_element d f zero (x ∷ xs) = f x
of_element d f (suc n) (x ∷ xs) = of_element d f n xs

-- what f gives for the field of role r of element n, or d where there is no such element
abbrev pub content_element : {B : Type 0} → B → (Content → B) → ℕ → ℕ → Content → B
content_element d f n r lacking = d
content_element d f n r (bytes b) = d
content_element d f n r (numeral k) = d
content_element d f n r (xid x) = d
content_element d f n r (list e vs) = of_element d (λ x. f (element_content r e x)) n vs

-- ---- the versions that are offered

-- the numbers that the elements of a list hold under role r, one after the other
abbrev pub number_then : Value → List ℕ → List ℕ
number_then (Ok n) ns = n ∷ ns
number_then (Err e) ns = ns

unfoldable pub element_numbers : ℕ → (e : Element) → List (Vals (items_of e)) → List ℕ
element_numbers r e [] = []
element_numbers r e (x ∷ xs) = number_then (content_number (element_content r e x)) (element_numbers r e xs)

-- the offers in a list; none for other kinds
abbrev pub content_offers : Content → List ℕ
content_offers lacking = []
content_offers (bytes b) = []
content_offers (numeral k) = []
content_offers (xid x) = []
content_offers (list e vs) = element_numbers Offered e vs

-- of a message: those of its protocol.versions
abbrev pub offers_of : Message → List ℕ
offers_of x = content_offers (content_in ProtocolVersions x)
