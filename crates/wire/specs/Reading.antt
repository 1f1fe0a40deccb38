-- Reading a payload s by a layout: field by field, up to the first fault. Each kind takes what the fields before it came to and passes a refusal
-- on. The numbers and places are document 01's 44, 45 and 46; the place of a string's data is document 02's (T-02).
use Rattle.std.specs.Prelude.{Result, Ok, Err, ℕ, zero, suc, ◌+◌, cond, List, [], ◌∷◌, length, leb, eqb}
use Rattle.wire.specs.Numbers.{number_at}
use Rattle.wire.specs.Layout.{size, at_most, Field, one, many, xid, Items, Fields, halves}
use Rattle.wire.specs.declared.Limits.{Limits}
use Rattle.wire.specs.declared.Item.{Item}
use Rattle.wire.specs.declared.Item.TheVariants.{Raw, Num, Str}
use Rattle.wire.specs.Values.{allowed}
use Rattle.wire.specs.declared.Width.{Width}
use Rattle.wire.specs.declared.Refused.{Refused}
use Rattle.wire.specs.declared.Fault.{Fault}
use Rattle.wire.specs.declared.Fault.TheVariants.{RunsPast, NotAllowed, BytesAfter}

-- what reading a field comes to: the place after it, or why it is refused
abbrev pub Outcome : Type 0
Outcome = Result ℕ Refused

-- a fault, and the place that is answered
abbrev pub refused : Fault → ℕ → Refused
refused f p = record { fault = f; place = p }

-- goes on from an accepted outcome
abbrev pub and_then : Outcome → (ℕ → Outcome) → Outcome
and_then (Ok p) next = next p
and_then (Err r) next = Err r

-- n bytes at p lie in the payload, or 44 at the place given
unfoldable pub room : ℕ → List ℕ → ℕ → ℕ → Outcome
room n s p place = cond (leb (p + n) (length s)) (Ok (p + n)) (Err (refused RunsPast place))

-- n bytes, or 44 at them
unfoldable pub read_bytes : ℕ → List ℕ → Outcome → Outcome
read_bytes n s (Ok p) = room n s p p
read_bytes n s (Err r) = Err r

-- a number: its bytes are there, or 44; its value is allowed, or 45; each at the number
unfoldable pub read_number : Width → Limits → List ℕ → Outcome → Outcome
read_number w l s (Ok p) =
    and_then (room (size w) s p p) (λ q. cond (allowed l (number_at (size w) s p)) (Ok q) (Err (refused NotAllowed p)))
read_number w l s (Err r) = Err r

-- a string: its size, and its data behind it; 44 at the size, whichever of the two runs past (document 02's T-02)
unfoldable pub read_string : List ℕ → Outcome → Outcome
read_string s (Ok p) = and_then (room 8 s p p) (λ q. room (number_at 8 s p) s q p)
read_string s (Err r) = Err r

-- an item
unfoldable pub read_item : Item → List ℕ → Outcome → Outcome
read_item (Raw n) s o = read_bytes n s o
read_item (Num w l) s o = read_number w l s o
read_item Str s o = read_string s o

-- an element
unfoldable pub read_items : Items → List ℕ → Outcome → Outcome
read_items [] s o = o
read_items (i ∷ is) s o = read_items is s (read_item i.kind s o)

-- n elements, up to the first fault
unfoldable pub read_elements : ℕ → Items → List ℕ → Outcome → Outcome
read_elements zero is s o = o
read_elements (suc n) is s (Ok p) = read_elements n is s (read_items is s (Ok p))
read_elements (suc n) is s (Err r) = Err r

-- a list: its count, and as many elements
unfoldable pub read_list : Width → ℕ → Items → List ℕ → Outcome → Outcome
read_list w m is s (Ok p) =
    and_then (read_number w (at_most m) s (Ok p)) (λ q. read_elements (number_at (size w) s p) is s (Ok q))
read_list w m is s (Err r) = Err r

-- the lengths and the data of an xid, at q
unfoldable pub read_halves : List ℕ → ℕ → Outcome
read_halves s q = read_items (halves (number_at 8 s q) (number_at 8 s (q + 8))) s (Ok q)

-- an xid: its formatID; where that is 0 nothing more
unfoldable pub read_xid : List ℕ → Outcome → Outcome
read_xid s (Ok p) = and_then (room 8 s p p) (λ q. cond (eqb (number_at 8 s p) 0) (Ok q) (read_halves s q))
read_xid s (Err r) = Err r

-- a field
unfoldable pub read_field : Field → List ℕ → Outcome → Outcome
read_field (one i) s o = read_item i s o
read_field (many w m is) s o = read_list w m is s o
read_field xid s o = read_xid s o

-- the fields of a payload
unfoldable pub read_fields : Fields → List ℕ → Outcome → Outcome
read_fields [] s o = o
read_fields (f ∷ fs) s o = read_fields fs s (read_field f.kind s o)

-- no byte after the last field, or 46 at the first byte left over
unfoldable pub read_end : List ℕ → Outcome → Outcome
read_end s (Ok p) = cond (eqb p (length s)) (Ok p) (Err (refused BytesAfter p))
read_end s (Err r) = Err r
