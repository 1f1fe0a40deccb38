-- Where passing over the fields of a payload s stops: at the first field that reading refuses, or behind the last.
use Rattle.std.specs.Prelude.{ℕ, zero, suc, ◌+◌, List, [], ◌∷◌, Option, None, Some, Result, Ok, Err}
use Rattle.wire.specs.Layout.{at_most, Items}
use Rattle.wire.specs.Numbers.{number_at}
use Rattle.wire.specs.Reading.{Outcome, read_number, read_item, read_xid}
use Rattle.wire.specs.declared.Item.{Item}
use Rattle.wire.specs.declared.Item.TheVariants.{Raw, Num, Str}
use Rattle.wire.specs.declared.Width.TheVariants.{U8, U64}
use Rattle.message_layout.specs.Table.{any_value, items_of, Entered, entries_of}
use Rattle.message_layout.specs.declared.Element.{Element}
use Rattle.message_layout.specs.declared.Kind.{Kind}
use Rattle.message_layout.specs.declared.Kind.TheVariants as kind
use Rattle.payload_read.specs.declared.Shape.{Shape}
use Rattle.payload_read.specs.declared.Shape.TheVariants as shape
use Rattle.payload_read.specs.declared.InList.{InList}
use Rattle.payload_read.specs.declared.Stop.{Stop}

-- what passing over fields comes to: the place behind the last of them, or the first that is refused
abbrev pub Passed : Type 0
Passed = Result ℕ Stop

-- what an item is, without its limits
abbrev pub shape_of : Item → Shape
shape_of (Raw n) = shape.Bytes n
shape_of (Num w l) = shape.Number w
shape_of Str = shape.Str

-- field k of that shape, at p, which is refused and in no list
abbrev pub at_field : ℕ → Shape → ℕ → Stop
at_field k h p = record { field = k; shape = h; start = p; within = None }

-- goes on behind what is whole, and stays at what is refused
abbrev pub go_on : Passed → (ℕ → Passed) → Passed
go_on (Ok p) next = next p
go_on (Err r) next = Err r

-- field k of that shape, at p, of which reading comes to o
abbrev pub judged : ℕ → Shape → ℕ → Outcome → Passed
judged k h p (Ok q) = Ok q
judged k h p (Err r) = Err (at_field k h p)

-- an item at p, which is field k
unfoldable pub stop_item : ℕ → Item → List ℕ → ℕ → Passed
stop_item k i s p = judged k (shape_of i) p (read_item i s (Ok p))

-- the items of an element, from item k on
unfoldable pub stop_items : ℕ → Items → List ℕ → Passed → Passed
stop_items k [] s a = a
stop_items k (i ∷ is) s a = stop_items (k + 1) is s (go_on a (stop_item k i.kind s))

-- a place in a list that is known already, or that one
abbrev pub known_or : Option InList → InList → InList
known_or None i = i
known_or (Some x) i = x

-- a field that is refused, of an element with n left of c. One of an element already, which items do not give, stays
abbrev pub of_element : Element → ℕ → ℕ → Stop → Stop
of_element e c n x =
    record {
      field = x.field;
      shape = x.shape;
      start = x.start;
      within = Some (known_or x.within (record { element = e; count = c; left = n }));
    }

-- goes on behind a whole element; a field of it that is refused is that with n left of c
abbrev pub in_element : Element → ℕ → ℕ → Passed → (ℕ → Passed) → Passed
in_element e c n (Ok q) next = next q
in_element e c n (Err x) next = Err (of_element e c n x)

-- n elements at p, the last n of a list of c; c is 0 behind a flag
unfoldable pub stop_elements : Element → ℕ → ℕ → List ℕ → ℕ → Passed
stop_elements e c zero s p = Ok p
stop_elements e c (suc n) s p = in_element e c (suc n) (stop_items 0 (items_of e) s (Ok p)) (stop_elements e c n s)

-- a field at p: one item; a list, which is its count and as many elements; a flag, and what follows it; an xid
unfoldable pub stop_kind : ℕ → Kind → List ℕ → ℕ → Passed
stop_kind k (kind.One i) s p = stop_item k i s p
stop_kind k (kind.List e) s p =
    go_on (judged k (shape.Number U64) p (read_number U64 (at_most any_value) s (Ok p))) (stop_elements e (number_at 8 s p) (number_at 8 s p) s)
stop_kind k (kind.Optional e) s p =
    go_on (judged k (shape.Number U8) p (read_number U8 (at_most 1) s (Ok p))) (stop_elements e 0 (number_at 1 s p) s)
stop_kind k kind.Xid s p = judged k shape.Xid p (read_xid s (Ok p))

-- the fields of a message, from field k on
unfoldable pub stop_fields : ℕ → List Entered → List ℕ → Passed → Passed
stop_fields k [] s a = a
stop_fields k (e ∷ es) s a = stop_fields (k + 1) es s (go_on a (stop_kind k e.kind s))

-- all fields of a message of type t
unfoldable pub stop_of : ℕ → List ℕ → Passed
stop_of t s = stop_fields 0 (entries_of t) s (Ok 0)
