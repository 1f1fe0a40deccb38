-- Every field of the walk stands where the table and Decoding say.
use Prim.Native.Nat.{ℕ, zero, suc, ◌+◌, ◌-◌, ◌*◌, ◌<◌}
use native.Mathlib.Omega.{arith}
use mathlib.Core.Path.{◌≡◌, refl, sym, ap, subst, ◌∙◌}
use mathlib.Core.Bool.{Bool, true, false, cond}
use mathlib.Core.List.{List, [], ◌∷◌}
use Rattle.std.specs.Prelude.{Option, None, Some}
use lib.ListN.{drop}
use lib.Dec.{eqb}
use borrow.Author.Tests.{eq-eqb, ne_eqb}
use Rattle.wire.specs.Numbers.{number_at}
use Rattle.wire.specs.Layout.{Items}
use Rattle.wire.specs.Decoding.{after_item, after_items, after_elements, after_xid, after_field}
use Rattle.wire.specs.declared.Item.{Item}
use Rattle.wire.specs.declared.Item.TheVariants.{Raw, Num, Str}
use Rattle.message_layout.specs.Table.{EnteredItem, item_entries, item_fields, named_items, items_of, Entered, entries_of, entries_from, entry_at, field_of}
use Rattle.message_layout.specs.declared.Element.{Element}
use Rattle.message_layout.specs.declared.Kind.{Kind}
use Rattle.message_layout.specs.declared.Kind.TheVariants as kind
use Rattle.message_layout.specs.declared.Source.{Source}
use Rattle.message_layout.specs.declared.Source.TheVariants as source
use Rattle.message_walk.specs.declared.Form.{Form}
use Rattle.message_walk.specs.declared.Piece.{Piece}
use Rattle.message_walk.specs.Walk.{Walk, end, ◌then◌, mark, index_of, piece_of, item_from, gtrid_from, xid_from, items_from, elements_from, field_from, fields_from, walk}
use Rattle.message_walk.specs.Reasons.{Passes, here, over}
use Rattle.message_walk.specs.Standing.{field, Formed, bytes, number, size, string_data, list_size, flagged, format_id, gtrid, bqual, xid_data, place_in, field_place, PieceOf, Stands, in_message, in_element, in_part}
use Rattle.message_walk.proofs.Stepping.{head_of, entry_head, drop_fields, drop_tail}

-- ---- places

-- behind field k
place_next : (es : List Entered) (k : ℕ) (s : List ℕ) (p : ℕ) (y : Entered) (ys : List Entered) → drop k es ≡ y ∷ ys
    → place_in es (k + 1) s p ≡ after_field (field_of y.kind) s (place_in es k s p)
place_next [] zero s p y ys h = cc
place_next [] (suc k) s p y ys h = cc
place_next (e ∷ es) zero s p y ys h = let z : e ≡ y = cc in ap (λ (x : Entered). after_field (field_of x.kind) s p) z
place_next (e ∷ es) (suc k) s p y ys h =
    let z : suc k + 1 ≡ suc (k + 1) = omega arith in
    ap (λ (n : ℕ). place_in (e ∷ es) n s p) z ∙ place_next es k s (after_field (field_of e.kind) s p) y ys h

-- behind one element more
elements_next : (n : ℕ) (is : Items) (s : List ℕ) (p : ℕ) → after_elements (n + 1) is s p ≡ after_items is s (after_elements n is s p)
unfolding after_elements
elements_next zero is s p = refl
elements_next (suc n) is s p =
    let z : suc n + 1 ≡ suc (n + 1) = omega arith in
    ap (λ (m : ℕ). after_elements m is s p) z ∙ elements_next n is s (after_items is s p)

module _ (s : List ℕ) (t : ℕ) where
  -- every field of a walk stands in the payload
  data All : Walk → Type 0 where
    none : (p : ℕ) → All (end p)
    more : {x : Piece} {w : Walk} → Stands s t x → All w → All (x then w)

  reached : {w u : Walk} → Passes s w u → All w → All u
  reached here a = a
  reached (over e k) (more h a) = reached k a

  first : {x : Piece} {w : Walk} → All (x then w) → Stands s t x
  first (more h a) = h

  -- a layout that starts at b: what is a piece of it stands in the payload
  abbrev Within : Source → Option ℕ → ℕ → Type 0
  Within src i b = (x : Piece) → x.index ≡ i → PieceOf s src b x → Stands s t x

  module _ (src : Source) (i : Option ℕ) (b : ℕ) (stands : Within src i b) (k r p : ℕ) (at : p ≡ place_in (entries_from src) k s b) where
    module _ (κ : Kind) (e : entry_at (entries_from src) k ≡ Some (field r κ)) where
      -- piece j of field k, and then others that stand there
      piece : (j : ℕ) (f : Form) → Formed s p κ j f → (q : ℕ) → q ≡ p + 8 * j → {w : Walk} → All w → All (piece_of (mark src k i) j f q then w)
      piece j f g q z a = more (stands (piece_of (mark src k i) j f q) refl (record { layout = refl; role = r; kind = κ; entry = e; formed = subst (λ (o : ℕ). Formed s o κ j f) at g; place = rw (← at) z })) a

    item_all : (x : Item) → entry_at (entries_from src) k ≡ Some (field r (kind.One x)) → (next : ℕ → Walk) → All (next (after_item x s p)) → All (item_from s (mark src k i) x 0 0 p next)
    unfolding after_item
    item_all (Raw n) e next a = piece _ e 0 _ (bytes n) p (omega arith) a
    item_all (Num w l) e next a = piece _ e 0 _ (number w l) p (omega arith) a
    item_all Str e next a = piece _ e 0 _ size p (omega arith) (piece _ e 1 _ string_data (p + 8) (omega arith) a)

    halves_all : (number_at 8 s p ≡ 0 → ⊥) → entry_at (entries_from src) k ≡ Some (field r kind.Xid) → (next : ℕ → Walk) → All (next (p + 8 + 8 + 8 + (number_at 8 s (p + 8) + number_at 8 s (p + 8 + 8))))
        → All (gtrid_from s (mark src k i) (p + 8) next)
    halves_all z e next a =
        piece _ e 1 _ (gtrid z) (p + 8) (omega arith) (piece _ e 2 _ (bqual z) (p + 8 + 8) (omega arith) (piece _ e 3 _ (xid_data z) (p + 8 + 8 + 8) (omega arith) a))

    xid_all : entry_at (entries_from src) k ≡ Some (field r kind.Xid) → (next : ℕ → Walk) → All (next (after_xid s (number_at 8 s p) (p + 8))) → All (xid_from s (mark src k i) 0 0 p next)
    unfolding after_xid
    xid_all e next a = piece _ e 0 _ format_id p (omega arith) (go (eqb (number_at 8 s p) 0) refl a)
      where
        go : (c : Bool) → eqb (number_at 8 s p) 0 ≡ c → All (next (cond c (p + 8) (p + 8 + 8 + 8 + (number_at 8 s (p + 8) + number_at 8 s (p + 8 + 8))))) → All (cond c (next (p + 8)) (gtrid_from s (mark src k i) (p + 8) next))
        go true z h = h
        go false z h = halves_all (λ i. let y : eqb (number_at 8 s p) 0 ≡ true = eq-eqb (number_at 8 s p) 0 i in cc) e next h

  -- the items of an element that starts at b
  items_all : (d : Element) (i : Option ℕ) (b : ℕ) → Within (source.Element d) i b → (k : ℕ) (xs : List EnteredItem) → drop k (item_entries d) ≡ xs
      → (p : ℕ) → p ≡ place_in (item_fields (item_entries d)) k s b → (next : ℕ → Walk) → All (next (after_items (named_items xs) s p)) → All (items_from s d i k xs p next)
  unfolding items_from entries_from after_items after_field
  items_all d i b stands k [] h p at next a = a
  items_all d i b stands k (x ∷ xs) h p at next a =
      let e : drop k (item_fields (item_entries d)) ≡ item_fields (x ∷ xs) = drop_fields (item_entries d) k ∙ ap item_fields h in
      item_all (source.Element d) i b stands k x.role p at x.item (entry_head (item_fields (item_entries d)) k ∙ ap head_of e) _
      (items_all d i b stands (k + 1) xs (drop_tail (item_entries d) k x xs h) (after_item x.item s p)
      (ap (after_item x.item s) at ∙ sym (place_next (item_fields (item_entries d)) k s b _ _ e)) next a)

  -- elements, the first of which starts at b: n of them are passed, and left of them follow
  elements_all : (d : Element) (c b n left : ℕ) → ((m l : ℕ) → m < n + left → l ≡ n + left - m → Within (source.Element d) (index_of c l) (after_elements m (items_of d) s b))
      → (p : ℕ) → p ≡ after_elements n (items_of d) s b → (next : ℕ → Walk) → All (next (after_elements left (items_of d) s p)) → All (elements_from s d c left p next)
  unfolding elements_from after_elements items_of
  elements_all d c b n zero stands p at next a = a
  elements_all d c b n (suc left) stands p at next a =
      let z : n + 1 + left ≡ n + suc left = omega arith in
      items_all d (index_of c (suc left)) p (subst (Within (source.Element d) (index_of c (suc left))) (sym at) (stands n (suc left) (omega arith) (omega arith))) 0 (item_entries d) refl p refl _
      (elements_all d c b (n + 1) left (rw z stands) (after_items (items_of d) s p) (ap (after_items (items_of d) s) at ∙ sym (elements_next n (items_of d) s b)) next a)

  -- ---- the fields of the message

  in_message_lem : Within (source.Message t) None 0
  in_message_lem x i o = in_message i o

  module _ (k r p : ℕ) (at : p ≡ field_place s t k) where
    -- element m of a list of n, where n is what stands at the field, and of a part that follows a flag
    in_list : (d : Element) → entry_at (entries_from (source.Message t)) k ≡ Some (field r (kind.List d))
        → (m l : ℕ) → m < 0 + number_at 8 s p → l ≡ 0 + number_at 8 s p - m → Within (source.Element d) (index_of (number_at 8 s p) l) (after_elements m (items_of d) s (p + 8))
    in_list d e m l h z x i o =
        let y : eqb (number_at 8 s p) 0 ≡ false = ne_eqb (number_at 8 s p) 0 (λ v. omega arith) in
        let j : number_at 8 s p - l ≡ m = omega arith in
        in_element k r m d e (i ∙ rw (y, j)) (rw (← at) (omega arith)) (rw (← at) o)

    in_part_lem : (d : Element) → entry_at (entries_from (source.Message t)) k ≡ Some (field r (kind.Optional d))
        → (m l : ℕ) → m < 0 + number_at 1 s p → l ≡ 0 + number_at 1 s p - m → Within (source.Element d) (index_of 0 l) (after_elements m (items_of d) s (p + 1))
    in_part_lem d e m l h z x i o = in_part k r m d e i (rw (← at) (omega arith)) (rw (← at) o)

    field_all : (κ : Kind) → entry_at (entries_from (source.Message t)) k ≡ Some (field r κ) → (next : ℕ → Walk) → All (next (after_field (field_of κ) s p))
        → All (field_from s (mark (source.Message t) k None) κ 0 0 p next)
    unfolding after_field after_elements
    field_all (kind.One x) e next a = item_all (source.Message t) None 0 in_message_lem k r p at x e next a
    field_all (kind.List d) e next a =
        piece (source.Message t) None 0 in_message_lem k r p at _ e 0 _ (list_size d) p (omega arith)
        (elements_all d (number_at 8 s p) (p + 8) 0 (number_at 8 s p) (in_list d e) (p + 8) refl next a)
    field_all (kind.Optional d) e next a =
        piece (source.Message t) None 0 in_message_lem k r p at _ e 0 _ (flagged d) p (omega arith)
        (elements_all d 0 (p + 1) 0 (number_at 1 s p) (in_part_lem d e) (p + 1) refl next a)
    field_all kind.Xid e next a = xid_all (source.Message t) None 0 in_message_lem k r p at e next a

  fields_all : (k : ℕ) (es : List Entered) → drop k (entries_of t) ≡ es → (p : ℕ) → p ≡ field_place s t k → All (fields_from s t k es p)
  unfolding fields_from entries_from
  fields_all k [] h p at = none p
  fields_all k (x ∷ xs) h p at =
      field_all k x.role p at x.kind (entry_head (entries_of t) k ∙ ap head_of h) _
      (fields_all (k + 1) xs (drop_tail (entries_of t) k x xs h) _ (ap (after_field (field_of x.kind) s) at ∙ sym (place_next (entries_of t) k s 0 x xs h)))

  -- a field that the walk of a payload comes to
  pub standing : (x : Piece) (w : Walk) → Passes s (walk s t) (x then w) → Stands s t x
  standing x w k = first (reached k (fields_all 0 (entries_of t) refl 0 refl))
