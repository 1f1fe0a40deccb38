-- Where accepted fields end: an outcome that goes on to be accepted was accepted, and each end is the place that the layout gives.
use Prim.Native.Nat.{ℕ, zero, suc, ◌+◌, ◌≤◌}
use native.Mathlib.Decide.{ℕ_discrete}
use native.Mathlib.Omega.{arith}
use mathlib.Core.Path.{◌≡◌, refl, sym, ap, ◌∙◌}
use mathlib.Core.Bool.{cond}
use mathlib.Core.List.{List, [], ◌∷◌}
use lib.ListN.{length}
use lib.Dec.{eqb}
use borrow.Author.Tests.{eq-eqb, ne_eqb}
use Rattle.wire.specs.Numbers.{number_at}
use Rattle.wire.specs.Layout.{size, at_most, Field, one, many, xid, Items, Fields, halves}
use Rattle.wire.specs.declared.Item.{Item}
use Rattle.wire.specs.declared.Item.TheVariants.{Raw, Num, Str}
use Rattle.wire.specs.Decoding.{after_item, after_items, after_elements, after_xid, after_field}
use Rattle.wire.specs.Reading.{Outcome, room, read_bytes, read_number, read_string, read_item, read_items, read_elements, read_list, read_halves, read_xid, read_field, read_fields, read_end}
use Rattle.std.specs.Prelude.{Ok, Err}
use Rattle.wire.proofs.Parts.{never, was_then, room_accepted, number_accepted}

-- ---- what went on to be accepted was accepted

abbrev pub Was : Outcome → Type 0
Was o = (m : ℕ) × (o ≡ Ok m)

was_item : (i : Item) (s : List ℕ) (o : Outcome) (e : ℕ) → read_item i s o ≡ Ok e → Was o
unfolding read_item read_bytes read_number read_string
was_item i s (Ok m) e h = (m, refl)
was_item (Raw n) s (Err q) e h = never h
was_item (Num w l) s (Err q) e h = never h
was_item Str s (Err q) e h = never h

was_items : (is : Items) (s : List ℕ) (o : Outcome) (e : ℕ) → read_items is s o ≡ Ok e → Was o
unfolding read_items
was_items [] s o e h = (e, h)
was_items (i ∷ is) s o e h =
    let m = was_items is s (read_item i.kind s o) e h in
    was_item i.kind s o m.0 m.1

was_elements : (n : ℕ) (is : Items) (s : List ℕ) (o : Outcome) (e : ℕ) → read_elements n is s o ≡ Ok e → Was o
unfolding read_elements
was_elements zero is s o e h = (e, h)
was_elements (suc n) is s (Ok m) e h = (m, refl)
was_elements (suc n) is s (Err q) e h = never h

was_field : (f : Field) (s : List ℕ) (o : Outcome) (e : ℕ) → read_field f s o ≡ Ok e → Was o
unfolding read_field read_list read_xid
was_field (one i) s o e h = was_item i s o e h
was_field (many w c is) s (Ok m) e h = (m, refl)
was_field (many w c is) s (Err q) e h = never h
was_field xid s (Ok m) e h = (m, refl)
was_field xid s (Err q) e h = never h

was_fields : (fs : Fields) (s : List ℕ) (o : Outcome) (e : ℕ) → read_fields fs s o ≡ Ok e → Was o
unfolding read_fields
was_fields [] s o e h = (e, h)
was_fields (f ∷ fs) s o e h =
    let m = was_fields fs s (read_field f.kind s o) e h in
    was_field f.kind s o m.0 m.1

-- ---- each end is the place that the layout gives, and lies in the payload

abbrev Ends : List ℕ → ℕ → ℕ → Type 0
Ends s e p = (e ≡ p) × (e ≤ length s)

module _ (s : List ℕ) where
  room_ends : (n p k e : ℕ) → room n s p k ≡ Ok e → Ends s e (p + n)
  room_ends n p k e h = let r = room_accepted n s p k e h in (r.0, omega arith)

  pub item_ends : (i : Item) (p e : ℕ) → read_item i s (Ok p) ≡ Ok e → Ends s e (after_item i s p)
  unfolding read_item read_bytes read_string after_item
  item_ends (Raw n) p e h = room_ends n p p e h
  item_ends (Num w l) p e h = let k = number_accepted w l s p e h in (k.0, omega arith)
  item_ends Str p e h =
      let m = was_then (room 8 s p p) (λ q. room (number_at 8 s p) s q p) e h in
      let z : room 8 s p p ≡ Ok (p + 8) = m.1 ∙ ap Ok (room_ends 8 p p m.0 m.1).0 in
      room_ends (number_at 8 s p) (p + 8) p e (rw z at h)

  -- the first of several items, and the rest
  pub first-item : (i : Item) (is : Items) (p e : ℕ) → read_items is s (read_item i s (Ok p)) ≡ Ok e
      → (read_item i s (Ok p) ≡ Ok (after_item i s p)) × (after_item i s p ≤ length s) × (read_items is s (Ok (after_item i s p)) ≡ Ok e)
  first-item i is p e h =
      let m = was_items is s (read_item i s (Ok p)) e h in
      let k = item_ends i p m.0 m.1 in
      let z : read_item i s (Ok p) ≡ Ok (after_item i s p) = m.1 ∙ ap Ok k.0 in
      (z, omega arith, ap (read_items is s) (sym z) ∙ h)

  pub items_ends : (is : Items) (p e : ℕ) → read_items is s (Ok p) ≡ Ok e → p ≤ length s → Ends s e (after_items is s p)
  unfolding read_items after_items
  items_ends [] p e h l = let z : e ≡ p = cc in (z, omega arith)
  items_ends (i ∷ is) p e h l =
      let k = first-item i.kind is p e h in
      items_ends is (after_item i.kind s p) e k.2 k.1

  -- the first of several elements, and the rest
  pub first_element : (n : ℕ) (is : Items) (p e : ℕ) → read_elements n is s (read_items is s (Ok p)) ≡ Ok e → p ≤ length s
      → (read_items is s (Ok p) ≡ Ok (after_items is s p)) × (after_items is s p ≤ length s) × (read_elements n is s (Ok (after_items is s p)) ≡ Ok e)
  first_element n is p e h l =
      let m = was_elements n is s (read_items is s (Ok p)) e h in
      let k = items_ends is p m.0 m.1 l in
      let z : read_items is s (Ok p) ≡ Ok (after_items is s p) = m.1 ∙ ap Ok k.0 in
      (z, omega arith, ap (read_elements n is s) (sym z) ∙ h)

  pub elements_ends : (n : ℕ) (is : Items) (p e : ℕ) → read_elements n is s (Ok p) ≡ Ok e → p ≤ length s
      → Ends s e (after_elements n is s p)
  unfolding read_elements after_elements
  elements_ends zero is p e h l = let z : e ≡ p = cc in (z, omega arith)
  elements_ends (suc n) is p e h l =
      let k = first_element n is p e h l in
      elements_ends n is (after_items is s p) e k.2 k.1

  -- an xid: where it stands, whether its formatID is 0 or not
  pub xid_format : (p e : ℕ) → read_xid s (Ok p) ≡ Ok e
      → (room 8 s p p ≡ Ok (p + 8)) × (p + 8 ≤ length s) × (cond (eqb (number_at 8 s p) 0) (Ok (p + 8)) (read_halves s (p + 8)) ≡ Ok e)
  unfolding read_xid
  xid_format p e h =
      let m = was_then (room 8 s p p) (λ q. cond (eqb (number_at 8 s p) 0) (Ok q) (read_halves s q)) e h in
      let k = room_ends 8 p p m.0 m.1 in
      let z : room 8 s p p ≡ Ok (p + 8) = m.1 ∙ ap Ok k.0 in
      (z, omega arith, rw z at h)

  halves_ends : (q e : ℕ) → read_halves s q ≡ Ok e → q ≤ length s → Ends s e (q + 8 + 8 + (number_at 8 s q + number_at 8 s (q + 8)))
  unfolding read_halves after_items after_item
  halves_ends q e h l = items_ends (halves (number_at 8 s q) (number_at 8 s (q + 8))) q e h l

  xid_ends : (p e : ℕ) → read_xid s (Ok p) ≡ Ok e → Ends s e (after_xid s (number_at 8 s p) (p + 8))
  unfolding after_xid
  xid_ends p e h = go (xid_format p e h) (ℕ_discrete (number_at 8 s p) 0)
    where
      go : (room 8 s p p ≡ Ok (p + 8)) × (p + 8 ≤ length s) × (cond (eqb (number_at 8 s p) 0) (Ok (p + 8)) (read_halves s (p + 8)) ≡ Ok e)
          → Dec (number_at 8 s p ≡ 0) → Ends s e (after_xid s (number_at 8 s p) (p + 8))
      go k (yes z) =
          let y : Ok (p + 8) ≡ Ok e = rw (eq-eqb (number_at 8 s p) 0 z) at k.2 in
          let x : e ≡ p + 8 = cc in
          rw (eq-eqb (number_at 8 s p) 0 z) ((x, omega arith))
      go k (no z) =
          let y : read_halves s (p + 8) ≡ Ok e = rw (ne_eqb (number_at 8 s p) 0 z) at k.2 in
          rw (ne_eqb (number_at 8 s p) 0 z) (halves_ends (p + 8) e y k.1)

  pub field_ends : (f : Field) (p e : ℕ) → read_field f s (Ok p) ≡ Ok e → Ends s e (after_field f s p)
  unfolding read_field read_list after_field
  field_ends (one i) p e h = item_ends i p e h
  field_ends (many w m is) p e h =
      let c = was_then (read_number w (at_most m) s (Ok p)) (λ q. read_elements (number_at (size w) s p) is s (Ok q)) e h in
      let k = number_accepted w (at_most m) s p c.0 c.1 in
      let z : read_number w (at_most m) s (Ok p) ≡ Ok (p + size w) = c.1 ∙ ap Ok k.0 in
      elements_ends (number_at (size w) s p) is (p + size w) e (rw z at h) k.1
  field_ends xid p e h = xid_ends p e h

  -- the first of several fields, and the rest
  pub first_field : (f : Field) (fs : Fields) (p e : ℕ) → read_fields fs s (read_field f s (Ok p)) ≡ Ok e
      → (read_field f s (Ok p) ≡ Ok (after_field f s p)) × (after_field f s p ≤ length s) × (read_fields fs s (Ok (after_field f s p)) ≡ Ok e)
  first_field f fs p e h =
      let m = was_fields fs s (read_field f s (Ok p)) e h in
      let k = field_ends f p m.0 m.1 in
      let z : read_field f s (Ok p) ≡ Ok (after_field f s p) = m.1 ∙ ap Ok k.0 in
      (z, omega arith, ap (read_fields fs s) (sym z) ∙ h)

  -- a payload with no byte left over ends at its length
  pub end_accepted : (o : Outcome) (e : ℕ) → read_end s o ≡ Ok e → (o ≡ Ok (length s)) × (e ≡ length s)
  unfolding read_end
  end_accepted (Err q) e h = never h
  end_accepted (Ok p) e h = go (ℕ_discrete p (length s))
    where
      go : Dec (p ≡ length s) → (◌≡◌ {A = Outcome} (Ok p) (Ok (length s))) × (e ≡ length s)
      go (yes z) =
          let y : ◌≡◌ {A = Outcome} (Ok p) (Ok e) = rw (eq-eqb p (length s) z) at h in
          let x : p ≡ e = cc in
          (ap Ok z, sym x ∙ z)
      go (no z) = never (rw (ne_eqb p (length s) z) at h)
