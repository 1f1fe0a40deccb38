-- The part that follows a flag is read along the row of its element.
use Prim.Native.Nat.{ℕ, ◌+◌, ◌≤◌, ◌<◌}
use native.Mathlib.Omega.{arith}
use mathlib.Core.Path.{◌≡◌, refl, sym, ap, ◌∙◌}
use mathlib.Core.List.{List, [], ◌∷◌}
use lib.ListN.{length, drop, get_or}
use Rattle.std.specs.Prelude.{Ok}
use Rattle.wire.specs.Numbers.{number_at}
use Rattle.wire.specs.Layout.{at_most, Items}
use Rattle.wire.specs.Reading.{Outcome, read_number, read_item, read_items, read_elements, read_list}
use Rattle.wire.specs.declared.Limits.{Limits}
use Rattle.wire.specs.declared.Width.TheVariants.{U8}
use Rattle.wire.proofs.Parts.{list_counted, number_most}
use Rattle.message_layout.specs.Table.{EnteredItem, item_entries, item_fields, named_items, items_of}
use Rattle.message_layout.specs.Rows.{row_of}
use Rattle.message_layout.specs.declared.Element.{Element}
use Rattle.message_layout.specs.declared.Field.{Field}
use Rattle.payload_read.specs.Inner.{read_one}
use Rattle.payload_read.proofs.Along.{past_all, at_place}

-- ---- a row is read as the items of its element are

abbrev pub row_read : List Field → List ℕ → Outcome → Outcome
row_read [] s o = o
row_read (x ∷ xs) s o = row_read xs s (read_one x.kind s o)

same : (es : List EnteredItem) (s : List ℕ) (o : Outcome) → row_read (row_of (item_fields es)) s o ≡ read_items (named_items es) s o
unfolding read_items
same [] s o = refl
same (e ∷ es) s o = same es s (read_item e.item s o)

pub row_read_lem : (e : Element) (s : List ℕ) (o : Outcome) → row_read (row_of (item_fields (item_entries e))) s o ≡ read_items (items_of e) s o
unfolding items_of
row_read_lem e s o = same (item_entries e) s o

-- the walk: w says that reading comes to the same from place k on as from the first
module _ (xs : List Field) (s : List ℕ) (k : ℕ) (o f : Outcome) (w : row_read (drop k xs) s o ≡ f) where
  -- behind the last place
  pub walk_all : length xs ≤ k → o ≡ f
  walk_all h = past_all (λ (l : List Field). row_read l s o) xs k f w h

  -- at a place, which holds x
  pub walk_next : k < length xs → (d : Field) (p : Outcome) → p ≡ read_one (get_or xs k d).kind s o → row_read (drop (k + 1) xs) s p ≡ f
  walk_next h d p z =
      ap (row_read (drop (k + 1) xs) s) z ∙ at_place (λ (l : List Field). row_read l s o) xs k f w d h (get_or xs k d) refl

-- ---- a flag of 0, and of 1

module _ (is : Items) (s : List ℕ) (p : ℕ) (o : Outcome) (at : o ≡ Ok p) (l : Limits) (limit : l ≡ at_most 1) (q : Outcome) (first : q ≡ read_number U8 l s (Ok p))
    (e n : ℕ) (whole : q ≡ Ok e) (flag : n ≡ number_at 1 s p) where
  abbrev read : q ≡ read_number U8 (at_most 1) s (Ok p)
  read = rw limit at first

  pub part_none : n ≡ 0 → Ok e ≡ read_list U8 1 is s o
  unfolding read_elements
  part_none z = list_counted s o q p at U8 1 is read e n whole flag (Ok e) (rw z (sym whole))

  pub part_there : (n ≡ 0 → ⊥) → (r : Outcome) → r ≡ read_items is s (Ok e) → r ≡ read_list U8 1 is s o
  unfolding read_elements
  part_there z r k =
      let m : n ≤ 1 = rw flag (number_most U8 1 s p e (sym read ∙ whole)) in
      let i : n ≡ 1 = omega arith in
      list_counted s o q p at U8 1 is read e n whole flag r (rw i (rw whole k))
