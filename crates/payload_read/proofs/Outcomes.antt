-- What reading comes to from where passing over the fields stops is what the fields' reading comes to.
use Prim.Native.Nat.{ℕ, zero, suc, ◌+◌}
use mathlib.Core.Path.{◌≡◌, refl, sym, subst, ◌∙◌}
use mathlib.Core.Bool.{Bool, true, false, cond}
use mathlib.Core.List.{List, [], ◌∷◌}
use Rattle.std.specs.Prelude.{Ok, Err}
use Rattle.wire.specs.Numbers.{number_at}
use Rattle.wire.specs.Layout.{size, at_most, Items}
use Rattle.wire.specs.Values.{allowed}
use Rattle.wire.specs.Reading.{Outcome, refused, and_then, room, read_bytes, read_number, read_string, read_item, read_items, read_elements, read_list, read_xid, read_field, read_fields}
use Rattle.wire.specs.declared.Limits.{Limits}
use Rattle.wire.specs.declared.Item.{Item}
use Rattle.wire.specs.declared.Item.TheVariants.{Raw, Num, Str}
use Rattle.wire.specs.declared.Width.{Width}
use Rattle.wire.specs.declared.Width.TheVariants.{U8, U64}
use Rattle.wire.specs.declared.Fault.TheVariants.{NotAllowed}
use Rattle.wire.specs.declared.Refused.{Refused}
use Rattle.wire.proofs.Parts.{never, item_refused, field_refused, elements_refused}
use Rattle.message_layout.specs.Table.{any_value, items_of, Entered, entries_of, field_of, fields_of, layout}
use Rattle.message_layout.specs.declared.Element.{Element}
use Rattle.message_layout.specs.declared.Kind.{Kind}
use Rattle.message_layout.specs.declared.Kind.TheVariants as kind
use Rattle.payload_read.specs.declared.Shape.{Shape}
use Rattle.payload_read.specs.declared.Shape.TheVariants as shape
use Rattle.payload_read.specs.declared.Stop.{Stop}
use Rattle.payload_read.specs.Stops.{Passed, at_field, go_on, judged, stop_item, stop_items, of_element, in_element, stop_elements, stop_kind, stop_fields, stop_of}
use Rattle.payload_read.specs.Outcomes.{shape_outcome, outcome_of}

-- passing stops at a, where reading comes to o: behind what is accepted, or at a field that is refused as o says
pub data Reads (s : List ℕ) : Passed → Outcome → Type 0 where
  whole : (p : ℕ) → Reads s (Ok p) (Ok p)
  stopped : (x : Stop) (r : Refused) → shape_outcome x.shape s x.start ≡ Err r → Reads s (Err x) (Err r)

pub reads_outcome : {s : List ℕ} {a : Passed} {o : Outcome} → Reads s a o → outcome_of s a ≡ o
unfolding outcome_of
reads_outcome (whole p) = refl
reads_outcome (stopped x r e) = e

module _ (s : List ℕ) where
  -- a field that is judged by what its shape tells
  judged-reads : (k : ℕ) (h : Shape) (p : ℕ) (o : Outcome) → ((r : Refused) → o ≡ Err r → shape_outcome h s p ≡ Err r)
      → Reads s (judged k h p o) o
  judged-reads k h p (Ok q) g = whole q
  judged-reads k h p (Err r) g = stopped (at_field k h p) r (g r refl)

  -- and then another, which passes a refusal on
  on : {a : Passed} {o : Outcome} (next : ℕ → Passed) (R : Outcome → Outcome) → ((r : Refused) → R (Err r) ≡ Err r)
      → Reads s a o → ((p : ℕ) → o ≡ Ok p → Reads s (next p) (R (Ok p))) → Reads s (go_on a next) (R o)
  on next R pass (whole p) g = g p refl
  on next R pass (stopped x r e) g = subst (Reads s (Err x)) (sym (pass r)) (stopped x r e)

  -- a number that is refused
  number_shape : (w : Width) (l : Limits) (p : ℕ) (r : Refused) → read_number w l s (Ok p) ≡ Err r → shape_outcome (shape.Number w) s p ≡ Err r
  unfolding read_number read_bytes
  number_shape w l p r h = go (room (size w) s p p) (allowed l (number_at (size w) s p)) h
    where
      go : (o : Outcome) (t : Bool) → and_then o (λ u. cond t (Ok u) (Err (refused NotAllowed p))) ≡ Err r → and_then o (λ u. Err (refused NotAllowed p)) ≡ Err r
      go (Err g) t e = e
      go (Ok x) false e = e
      go (Ok x) true e = never (sym e)

  number-reads : (k : ℕ) (w : Width) (l : Limits) (p : ℕ) → Reads s (judged k (shape.Number w) p (read_number w l s (Ok p))) (read_number w l s (Ok p))
  number-reads k w l p = judged-reads k (shape.Number w) p (read_number w l s (Ok p)) (number_shape w l p)

  -- ---- the kinds

  item-reads : (k : ℕ) (i : Item) (p : ℕ) → Reads s (stop_item k i s p) (read_item i s (Ok p))
  unfolding stop_item read_item
  item-reads k (Raw n) p = judged-reads k (shape.Bytes n) p (read_bytes n s (Ok p)) (λ r e. e)
  item-reads k (Num w l) p = number-reads k w l p
  item-reads k Str p = judged-reads k shape.Str p (read_string s (Ok p)) (λ r e. e)

  items_read : (k : ℕ) (is : Items) (a : Passed) (o : Outcome) → Reads s a o → Reads s (stop_items k is s a) (read_items is s o)
  unfolding stop_items read_items
  items_read k [] a o h = h
  items_read k (i ∷ is) a o h =
      items_read (k + 1) is (go_on a (stop_item k i.kind s)) (read_item i.kind s o)
      (on (stop_item k i.kind s) (read_item i.kind s) (item_refused i.kind s) h (λ p e. item-reads k i.kind p))

  elements_read : (e : Element) (c n p : ℕ) → Reads s (stop_elements e c n s p) (read_elements n (items_of e) s (Ok p))
  unfolding stop_elements read_elements
  elements_read e c zero p = whole p
  elements_read e c (suc n) p = go (items_read 0 (items_of e) (Ok p) (Ok p) (whole p)) (λ q. elements_read e c n q)
    where
      go : {a : Passed} {o : Outcome} → Reads s a o → ((q : ℕ) → Reads s (stop_elements e c n s q) (read_elements n (items_of e) s (Ok q)))
          → Reads s (in_element e c (suc n) a (stop_elements e c n s)) (read_elements n (items_of e) s o)
      go (whole q) rest = rest q
      go (stopped x r z) rest =
          let y = of_element e c (suc n) x in
          subst (Reads s (Err y)) (sym (elements_refused n (items_of e) s (Err r) r refl)) (stopped y r z)

  pub kind_reads : (k : ℕ) (κ : Kind) (p : ℕ) → Reads s (stop_kind k κ s p) (read_field (field_of κ) s (Ok p))
  unfolding stop_kind read_field read_list
  kind_reads k (kind.One i) p = item-reads k i p
  kind_reads k (kind.List e) p =
      on (stop_elements e (number_at 8 s p) (number_at 8 s p) s) (λ o. and_then o (λ q. read_elements (number_at 8 s p) (items_of e) s (Ok q))) (λ r. refl)
      (number-reads k U64 (at_most any_value) p) (λ q z. elements_read e (number_at 8 s p) (number_at 8 s p) q)
  kind_reads k (kind.Optional e) p =
      on (stop_elements e 0 (number_at 1 s p) s) (λ o. and_then o (λ q. read_elements (number_at 1 s p) (items_of e) s (Ok q))) (λ r. refl)
      (number-reads k U8 (at_most 1) p) (λ q z. elements_read e 0 (number_at 1 s p) q)
  kind_reads k kind.Xid p = judged-reads k shape.Xid p (read_xid s (Ok p)) (λ r e. e)

  fields_read : (k : ℕ) (es : List Entered) (a : Passed) (o : Outcome) → Reads s a o → Reads s (stop_fields k es s a) (read_fields (fields_of es) s o)
  unfolding stop_fields read_fields
  fields_read k [] a o h = h
  fields_read k (e ∷ es) a o h =
      fields_read (k + 1) es (go_on a (stop_kind k e.kind s)) (read_field (field_of e.kind) s o)
      (on (stop_kind k e.kind s) (read_field (field_of e.kind) s) (field_refused (field_of e.kind) s) h (λ p z. kind_reads k e.kind p))

  -- the payload of a message of type t
  pub stop_reads : (t : ℕ) → outcome_of s (stop_of t s) ≡ read_fields (layout t) s (Ok 0)
  unfolding stop_of layout
  stop_reads t = reads_outcome (fields_read 0 (entries_of t) (Ok 0) (Ok 0) (whole 0))

  pub list-reads : (e : Element) (p k : ℕ) (a : Passed) → a ≡ stop_kind k (kind.List e) s p
      → (r : Outcome) → r ≡ outcome_of s a → r ≡ read_field (field_of (kind.List e)) s (Ok p)
  list-reads e p k a ea r er = er ∙ (rw ea (reads_outcome (kind_reads k (kind.List e) p)))
