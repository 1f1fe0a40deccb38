-- The place of a field of element n of what was found in s, from what the element holds.
use Rattle.std.proofs.Common.{◌≡◌, ℕ, ◌+◌, ◌-◌, ◌≤◌, List, [], length, drop, ap, arith, Bool, true, false, cond, Option, None, Some, Result, Ok, Err}
use Rattle.std.proofs.lemmas.List.{length-drop}
use lib.Dec.{ltb}
use Rattle.wire.specs.Numbers.{number_at}
use Rattle.wire.specs.declared.Refused.{Refused}
use Rattle.message_layout.specs.Table.{items_of}
use Rattle.message_layout.specs.Message.{header_size, payload_in}
use Rattle.message_layout.specs.declared.Source.TheVariants as source
use Rattle.message_read.specs.Reading.{Reading}
use Rattle.message_fields.specs.Contents.{content_bytes, content_part, no_element}
use Rattle.message_fields.specs.Fields.{field_in, content_from, sought_in}
use Rattle.message_fields.specs.declared.Found.{Found}
use Rattle.message_fields.specs.declared.Found.TheVariants.{Bytes, Number, Xid, List as Listed}
use Rattle.message_lists.specs.Elements.{element_at, of_listed, of_found, element_sought, list_in}
use Rattle.message_lists.proofs.Steps.{element_none, from_last}
use Rattle.message_places.specs.Places.{element_start, place_in, list_place, place_at, Placed, placed, placed_in, element_placed}

-- the place of what was found, as one answer
abbrev pub at_element : Option Found → ℕ → ℕ → List ℕ → Placed
at_element g n r s = placed (place_at g n r s) (length (of_found [] content_bytes g n r s)) (of_found (Err no_element) content_part g n r s)

module _ (n r : ℕ) (s : List ℕ) where
  pub place_none : (g : Option Found) (e : Refused) → Err e ≡ element_sought g n r s → Err e ≡ at_element g n r s
  place_none g e h = ap (placed (place_at g n r s) (length (of_found [] content_bytes g n r s))) (element_none content_part n r s g e h)

  pub place_some : (g : Option Found) (x : List ℕ) (h : Option Found) → Ok (x, h) ≡ element_sought g n r s
      → placed_in (header_size + (length s - length x)) h x ≡ at_element g n r s
  unfolding of_listed list_place
  place_some None x h k = cc
  place_some (Some (Bytes p j)) x h k = cc
  place_some (Some (Number j)) x h k = cc
  place_some (Some (Xid p)) x h k = cc
  place_some (Some (Listed d p)) x h k = go (ltb n (number_at 8 s p)) k
    where
      go : (b : Bool) → ◌≡◌ {A = Result (List ℕ × Option Found) Refused} (Ok (x, h)) (cond b (Ok (element_at d p n s, field_in r (source.Element d) (element_at d p n s))) (Err no_element))
          → placed_in (header_size + (length s - length x)) h x
          ≡ placed (cond b (place_in (element_start d p n s) (field_in r (source.Element d) (element_at d p n s)) (element_at d p n s)) 0)
          (length (cond b (content_bytes (content_from r (source.Element d) (element_at d p n s))) []))
          (cond b (content_part (content_from r (source.Element d) (element_at d p n s))) (Err no_element))
      go true j =
          let e : ◌≡◌ {A = List ℕ × Option Found} (x, h) (element_at d p n s, field_in r (source.Element d) (element_at d p n s)) = cc in
          ap (λ (q : List ℕ × Option Found). placed_in (header_size + (length s - length q.0)) q.1 q.0) e
      go false j = cc

  -- what follows an element is no longer than what the list stands in
  pub from_within : (g : Option Found) (x : List ℕ) (h : Option Found) → Ok (x, h) ≡ element_sought g n r s → length x ≤ length s
  from_within None x h k = cc
  from_within (Some (Bytes p j)) x h k = cc
  from_within (Some (Number j)) x h k = cc
  from_within (Some (Xid p)) x h k = cc
  from_within (Some (Listed d p)) x h k = go (ltb n (number_at 8 s p)) k
    where
      go : (b : Bool) → ◌≡◌ {A = Result (List ℕ × Option Found) Refused} (Ok (x, h)) (cond b (Ok (element_at d p n s, field_in r (source.Element d) (element_at d p n s))) (Err no_element))
          → length x ≤ length s
      go true j =
          let e : ◌≡◌ {A = List ℕ × Option Found} (x, h) (element_at d p n s, field_in r (source.Element d) (element_at d p n s)) = cc in
          let l : length x ≡ length (element_at d p n s) = ap (λ (q : List ℕ × Option Found). length q.0) e in
          omega (arith, (from_last n (items_of d) (drop (p + 8) s)).0, length-drop (p + 8) s)
      go false j = cc

-- of a message that was read as a, in whose payload b g was found under the role l
pub placed_from : (m : List ℕ) (l n r : ℕ) (b : List ℕ) (g : Option Found) (a : Reading) → Ok (b, g) ≡ sought_in a l m → at_element g n r b ≡ element_placed a l n r m
placed_from m l n r b g (Ok a) h =
    let e : ◌≡◌ {A = List ℕ × Option Found} (b, g) (payload_in m, list_in l a.kind m) = cc in
    ap (λ (q : List ℕ × Option Found). at_element q.1 n r q.0) e
placed_from m l n r b g (Err e) h = cc
