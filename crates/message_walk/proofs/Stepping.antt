-- A step from a position goes to the next field of the walk: what is left of the walk is the field at the position, and then, where that is not at fault,
-- what is left from the position behind it. So a walk of steps from the start is the walk of the layout.
use Prim.Native.Nat.{ℕ, zero, suc, ◌+◌, ◌-◌, ◌≤◌, ◌<◌}
use native.Mathlib.Numerals.{sub-one}
use native.Mathlib.Omega.{arith}
use mathlib.Core.Path.{◌≡◌, refl, sym, ap, ◌∙◌}
use mathlib.Core.Bool.{Bool, true, false, cond}
use mathlib.Core.List.{List, [], ◌∷◌}
use Rattle.std.specs.Prelude.{Option, None, Some, Ok, Err}
use lib.ListN.{drop}
use lib.Seq.{drop-drop}
use lib.Dec.{leb, eqb}
use borrow.Author.Tests.{leb-true, leb-false, ne_eqb}
use Rattle.wire.specs.Numbers.{number_at}
use Rattle.wire.specs.Layout.{gtrid_most}
use Rattle.wire.specs.declared.Item.{Item}
use Rattle.wire.specs.declared.Item.TheVariants.{Raw, Num, Str}
use Rattle.wire.proofs.Parts.{allowed_most}
use Rattle.message_layout.specs.Table.{row_field, EnteredItem, item_entries, item_fields, Entered, entries_of, entries_from, entry_at}
use Rattle.message_layout.specs.declared.Element.{Element}
use Rattle.message_layout.specs.declared.Element.TheVariants.{Version, ServiceName, QueueName, Domain, Service, Queue, Message}
use Rattle.message_layout.specs.declared.Field.{Field}
use Rattle.message_layout.specs.declared.Kind.{Kind}
use Rattle.message_layout.specs.declared.Kind.TheVariants as kind
use Rattle.message_layout.specs.declared.Source.TheVariants as source
use Rattle.message_walk.specs.declared.Piece.{Piece}
use Rattle.message_walk.specs.declared.Reason.{Reason}
use Rattle.message_walk.specs.declared.Position.{Position}
use Rattle.message_walk.specs.declared.Met.{Met}
use Rattle.message_walk.specs.Walk.{Walk, end, ◌then◌, item_from, items_from, elements_from, field_from, fields_from, bqual_from, gtrid_from, index_of, walk}
use Rattle.message_walk.specs.Reasons.{fault_of, left_over, reason_of}
use Rattle.message_walk.specs.Positions.{source_in, mark_of, piece_at, start, to_field, to_element, is_end, onward, inward, next_of, Step, field, done, field_step, step_in, step_at, rest_of, from_field, walk_from}
use Rattle.message_walk.proofs.Leaves.{faultless, gtrid_told_lem}

-- ---- what is left of a layout, and the entry at its front

abbrev pub head_of : List Entered → Option Field
head_of [] = None
head_of (e ∷ es) = Some (row_field e)

pub entry_head : (es : List Entered) (k : ℕ) → entry_at es k ≡ head_of (drop k es)
entry_head [] zero = refl
entry_head [] (suc k) = refl
entry_head (e ∷ es) zero = refl
entry_head (e ∷ es) (suc k) = entry_head es k

pub drop_fields : (xs : List EnteredItem) (k : ℕ) → drop k (item_fields xs) ≡ item_fields (drop k xs)
drop_fields [] zero = refl
drop_fields [] (suc k) = refl
drop_fields (x ∷ xs) zero = refl
drop_fields (x ∷ xs) (suc k) = drop_fields xs k

pub drop_tail : {A : Type 0} (xs : List A) (k : ℕ) (y : A) (ys : List A) → drop k xs ≡ y ∷ ys → drop (k + 1) xs ≡ ys
drop_tail xs k y ys h = sym (drop-drop 1 k xs) ∙ ap (drop 1) h

-- how many fields a walk has
abbrev pub field_count : Walk → ℕ
field_count (end p) = 0
field_count (x then w) = suc (field_count w)

module _ (s : List ℕ) where
  -- the field y comes first, and where it is not at fault, what is left from the position behind it
  abbrev Follows : Walk → Piece → Walk → Type 0
  Follows u y next = (w : Walk) × (u ≡ y then w) × (fault_of s y ≡ None → w ≡ next)

  -- the same of an equal walk
  follows_of : {u v next : Walk} {y : Piece} → u ≡ v → Follows v y next → Follows u y next
  follows_of e f = (f.0, e ∙ f.1, f.2)

  -- ---- a position at the front of a field

  module _ (t k q c left after : ℕ) where
    abbrev in_message : Position
    in_message = record { kind = t; within = None; field = k; piece = 0; told = 0; place = q; count = c; left = left; after = after }

    front : (es : List Entered) → from_field s in_message es ≡ fields_from s t k es q
    unfolding fields_from
    front [] = refl
    front (e ∷ es) = refl

    pub at_field : walk_from s in_message ≡ rest_of s t k q
    unfolding walk_from
    at_field = front (drop k (entries_of t))

  -- of an element
  module _ (t q c after : ℕ) where
    abbrev in_element : Element → ℕ → Position
    in_element e left = record { kind = t; within = Some e; field = 0; piece = 0; told = 0; place = q; count = c; left = left; after = after }

    pub at_element : (e : Element) (m : ℕ) → walk_from s (in_element e (suc m)) ≡ elements_from s e c (suc m) q (rest_of s t after)
    unfolding walk_from elements_from items_from
    at_element Version m = rw sub-one
    at_element ServiceName m = rw sub-one
    at_element QueueName m = rw sub-one
    at_element Domain m = rw sub-one
    at_element Service m = rw sub-one
    at_element Queue m = rw sub-one
    at_element Message m = rw sub-one

  -- ---- a step among the fields of a message: field k is x, and xs are behind it

  module _ (t k c l a : ℕ) (x : Entered) (xs : List Entered) (h : drop k (entries_of t) ≡ x ∷ xs) where
    abbrev field_at : ℕ → ℕ → ℕ → Position
    field_at j o p = record { kind = t; within = None; field = k; piece = j; told = o; place = p; count = c; left = l; after = a }

    abbrev behind_field : ℕ → Walk
    behind_field q = fields_from s t (k + 1) xs q

    field-onward : (q : ℕ) → walk_from s (in_message t (k + 1) q c l a) ≡ behind_field q
    field-onward q = at_field t (k + 1) q c l a ∙ ap (λ (ys : List Entered). fields_from s t (k + 1) ys q) (drop_tail (entries_of t) k x xs h)

    field_from_lem : (j o p : ℕ) → walk_from s (field_at j o p) ≡ field_from s (mark_of (field_at j o p)) x.kind j o p behind_field
    unfolding walk_from
    field_from_lem j o p = rw h

    field-inward : (d : Element) (n m j o p q : ℕ) → walk_from s (inward d n m (field_at j o p) q) ≡ elements_from s d n m q behind_field
    unfolding elements_from
    field-inward d n zero j o p q = field-onward q
    field-inward d n (suc m) j o p q =
        let z : eqb (suc m) 0 ≡ false = ne_eqb (suc m) 0 (λ i. omega arith) in
        rw z
        (at_element t q n (k + 1) d m
        ∙ ap (λ (ys : List Entered). elements_from s d n (suc m) q (λ u. fields_from s t (k + 1) ys u)) (drop_tail (entries_of t) k x xs h))

    -- an xid's formatID of v: nothing more, or its lengths
    format_onward : (j o p q : ℕ) → x.kind ≡ kind.Xid → (b : Bool)
        → cond b (behind_field q) (gtrid_from s (mark_of (field_at j o p)) q behind_field) ≡ walk_from s (cond b (in_message t (k + 1) q c l a) (field_at 1 0 q))
    format_onward j o p q e true = sym (field-onward q)
    format_onward j o p q e false = sym (field_from_lem 1 0 q ∙ ap (λ (κ : Kind). field_from s (mark_of (field_at 1 0 q)) κ 1 0 q behind_field) e)

    -- the next piece of the same field
    field-piece : (κ : Kind) → x.kind ≡ κ → (j o p : ℕ) → field_from s (mark_of (field_at j o p)) κ j o p behind_field ≡ walk_from s (field_at j o p)
    field-piece κ e j o p = sym (field_from_lem j o p ∙ ap (λ (z : Kind). field_from s (mark_of (field_at j o p)) z j o p behind_field) e)

    -- a first length within its limit is told as it is
    gtrid_piece : (o p : ℕ) → x.kind ≡ kind.Xid → fault_of s (piece_at (field_at 1 o p) kind.Xid) ≡ None
        → bqual_from s (mark_of (field_at 1 o p)) (number_at 8 s p) (p + 8) behind_field ≡ walk_from s (field_at 2 (number_at 8 s p) (p + 8))
    gtrid_piece o p e f =
        let g : number_at 8 s p ≤ gtrid_most = allowed_most gtrid_most (number_at 8 s p) (faultless s (piece_at (field_at 1 o p) kind.Xid) f).1 in
        ap (λ (z : ℕ). bqual_from s (mark_of (field_at 1 o p)) z (p + 8) behind_field) (gtrid_told_lem (number_at 8 s p) g)
        ∙ field-piece kind.Xid e 2 (number_at 8 s p) (p + 8)

    field_step_lem : (κ : Kind) → x.kind ≡ κ → (j o p : ℕ)
        → Follows (field_from s (mark_of (field_at j o p)) κ j o p behind_field) (piece_at (field_at j o p) κ) (walk_from s (next_of s (field_at j o p) κ))
    field_step_lem (kind.One (Raw n)) e j o p = (_, refl, λ z. sym (field-onward _))
    field_step_lem (kind.One (Num w n)) e j o p = (_, refl, λ z. sym (field-onward _))
    field_step_lem (kind.One Str) e zero o p = (_, refl, λ z. field-piece (kind.One Str) e 1 _ _)
    field_step_lem (kind.One Str) e (suc j) o p = (_, refl, λ z. sym (field-onward _))
    field_step_lem (kind.List d) e j o p = (_, refl, λ z. sym (field-inward d _ _ j o p _))
    field_step_lem (kind.Optional d) e j o p = (_, refl, λ z. sym (field-inward d _ _ j o p _))
    field_step_lem kind.Xid e zero o p = (_, refl, λ z. format_onward 0 o p _ e (eqb (number_at 8 s p) 0))
    field_step_lem kind.Xid e (suc zero) o p = (_, refl, λ z. gtrid_piece o p e z)
    field_step_lem kind.Xid e (suc (suc zero)) o p = (_, refl, λ z. field-piece kind.Xid e 3 _ _)
    field_step_lem kind.Xid e (suc (suc (suc j))) o p = (_, refl, λ z. sym (field-onward _))

  -- ---- a step among the items of an element: item k is x, and xs are behind it

  module _ (t k c l a : ℕ) (d : Element) (x : EnteredItem) (xs : List EnteredItem) (h : drop k (item_entries d) ≡ x ∷ xs) where
    abbrev item_at : ℕ → ℕ → ℕ → Position
    item_at j o p = record { kind = t; within = Some d; field = k; piece = j; told = o; place = p; count = c; left = l; after = a }

    abbrev behind_element : ℕ → Walk
    behind_element q = elements_from s d c (l - 1) q (rest_of s t a)

    abbrev behind_item : ℕ → Walk
    behind_item q = items_from s d (index_of c l) (k + 1) xs q behind_element

    item_from_lem : (j o p : ℕ) → walk_from s (item_at j o p) ≡ item_from s (mark_of (item_at j o p)) x.item j o p behind_item
    unfolding walk_from
    item_from_lem j o p = rw h

    element_onward : (j o p q : ℕ) (b : Bool) → leb l 1 ≡ b → walk_from s (cond b (in_message t a q 0 0 0) (in_element t q c a d (l - 1))) ≡ behind_element q
    unfolding elements_from
    element_onward j o p q true e =
        let i : l ≤ 1 = leb-true l 1 e in
        let z : l - 1 ≡ 0 = omega arith in
        rw z (at_field t a q 0 0 0)
    element_onward j o p q false e =
        let i : 1 < l = leb-false l 1 e in
        let z : l - 1 ≡ suc (l - 2) = omega arith in
        rw z (at_element t q c a d (l - 2))

    next_entry : entry_at (entries_from (source.Element d)) (k + 1) ≡ head_of (item_fields xs)
    unfolding entries_from
    next_entry = entry_head (item_fields (item_entries d)) (k + 1) ∙ ap head_of (drop_fields (item_entries d) (k + 1) ∙ ap item_fields (drop_tail (item_entries d) k x xs h))

    item-onward : (j o p q : ℕ) → walk_from s (onward (Some d) (item_at j o p) q) ≡ behind_item q
    unfolding walk_from items_from
    item-onward j o p q = rw next_entry (go xs (drop_tail (item_entries d) k x xs h))
      where
        go : (ys : List EnteredItem) → drop (k + 1) (item_entries d) ≡ ys
            → walk_from s (cond (is_end (head_of (item_fields ys))) (to_element (item_at j o p) q) (to_field (item_at j o p) (k + 1) q)) ≡ items_from s d (index_of c l) (k + 1) ys q behind_element
        go [] e = element_onward j o p q (leb l 1) refl
        go (y ∷ ys) e = rw e

    item-piece : (i : Item) → x.item ≡ i → (j o p : ℕ) → item_from s (mark_of (item_at j o p)) i j o p behind_item ≡ walk_from s (item_at j o p)
    item-piece i e j o p = sym (item_from_lem j o p ∙ ap (λ (z : Item). item_from s (mark_of (item_at j o p)) z j o p behind_item) e)

    item-step : (i : Item) → x.item ≡ i → (j o p : ℕ)
        → Follows (item_from s (mark_of (item_at j o p)) i j o p behind_item) (piece_at (item_at j o p) (kind.One i)) (walk_from s (next_of s (item_at j o p) (kind.One i)))
    item-step (Raw n) e j o p = (_, refl, λ z. sym (item-onward j o p _))
    item-step (Num w n) e j o p = (_, refl, λ z. sym (item-onward j o p _))
    item-step Str e zero o p = (_, refl, λ z. item-piece Str e 1 _ _)
    item-step Str e (suc j) o p = (_, refl, λ z. sym (item-onward (suc j) o p _))

  -- ---- a step from any position

  abbrev Goes : Position → Option Field → Type 0
  Goes x None = walk_from s x ≡ end x.place
  Goes x (Some f) = Follows (walk_from s x) (piece_at x f.kind) (walk_from s (next_of s x f.kind))

  module _ (t k j o p c l a : ℕ) where
    in_message_lem : (es : List Entered) → drop k (entries_of t) ≡ es → Goes (record { kind = t; within = None; field = k; piece = j; told = o; place = p; count = c; left = l; after = a }) (head_of es)
    unfolding walk_from
    in_message_lem [] h = rw h
    in_message_lem (x ∷ xs) h = follows_of (field_from_lem t k c l a x xs h j o p) (field_step_lem t k c l a x xs h x.kind refl j o p)

    in_element_lem : (d : Element) (is : List EnteredItem) → drop k (item_entries d) ≡ is
        → Goes (record { kind = t; within = Some d; field = k; piece = j; told = o; place = p; count = c; left = l; after = a }) (head_of (item_fields is))
    unfolding walk_from
    in_element_lem d [] h = rw h
    in_element_lem d (x ∷ xs) h = follows_of (item_from_lem t k c l a d x xs h j o p) (item-step t k c l a d x xs h x.item refl j o p)

    in_either : (w : Option Element) → Goes (record { kind = t; within = w; field = k; piece = j; told = o; place = p; count = c; left = l; after = a }) (entry_at (entries_from (source_in t w)) k)
    unfolding entries_from
    in_either None = rw (entry_head (entries_of t) k) (in_message_lem (drop k (entries_of t)) refl)
    in_either (Some d) =
        rw (entry_head (item_fields (item_entries d)) k, drop_fields (item_entries d) k) (in_element_lem d (drop k (item_entries d)) refl)

  pub goes : (x : Position) → Goes x (entry_at (entries_from (source_in x.kind x.within)) x.field)
  goes x = in_either x.kind x.field x.piece x.told x.place x.count x.left x.after x.within

  -- the walk from the start
  pub from_start : (t : ℕ) → walk_from s (start t) ≡ walk s t
  from_start t = at_field t 0 0 0 0 0

  -- ---- what a step answers

  -- a field that is not at fault is the next of the walk, and a walk that is done has its reason
  abbrev Answers : Position → Step → Type 0
  Answers x (Ok (Some a)) = (walk_from s x ≡ a.piece then walk_from s a.next) × (fault_of s a.piece ≡ None)
  Answers x (Ok None) = reason_of s (walk_from s x) ≡ None
  Answers x (Err r) = reason_of s (walk_from s x) ≡ Some r

  answers_done : (x : Position) (r : Option Reason) → reason_of s (walk_from s x) ≡ r → Answers x (done r)
  answers_done x None h = h
  answers_done x (Some r) h = h

  answers_in : (x : Position) (e : Option Field) → Goes x e → Answers x (step_in s x e)
  unfolding step_in reason_of
  answers_in x None g = answers_done x (left_over s x.place) (rw g)
  answers_in x (Some y) g = go (fault_of s (piece_at x y.kind)) refl
    where
      go : (f : Option Reason) → fault_of s (piece_at x y.kind) ≡ f → Answers x (field_step f (piece_at x y.kind) (next_of s x y.kind))
      go None e = (g.1 ∙ ap (λ (w : Walk). piece_at x y.kind then w) (g.2 e), e)
      go (Some r) e = rw (g.1, e)

  answers : (x : Position) → Answers x (step_at s x)
  answers x = answers_in x (entry_at (entries_from (source_in x.kind x.within)) x.field) (goes x)

  pub step_field : (x : Position) (y : Piece) (next : Position) → step_at s x ≡ field y next → (walk_from s x ≡ y then walk_from s next) × (fault_of s y ≡ None)
  step_field x y next h = rw h at (answers x)

  pub step_done : (x : Position) (r : Option Reason) → step_at s x ≡ done r → reason_of s (walk_from s x) ≡ r
  step_done x None h = rw h at (answers x)
  step_done x (Some r) h = rw h at (answers x)

  -- the same for a loop over steps: v is the reason from where it began
  module _ (x : Position) (r : Step) (h : r ≡ step_at s x) where
    module _ (a : Option Met) (i : r ≡ Ok a) where
      pub walk_ended : a ≡ None → (v : Option Reason) → reason_of s (walk_from s x) ≡ v → None ≡ v
      walk_ended e v k = sym (step_done x None (sym h ∙ i ∙ ap Ok e)) ∙ k

      module _ (y : Met) (e : a ≡ Some y) where
        pub walk_on : (v : Option Reason) → reason_of s (walk_from s x) ≡ v → reason_of s (walk_from s y.next) ≡ v
        unfolding reason_of
        walk_on v k = let b = step_field x y.piece y.next (sym h ∙ i ∙ ap Ok e) in (rw (b.0, b.1) at k)

        pub walk_less : field_count (walk_from s y.next) < field_count (walk_from s x)
        walk_less = let b = step_field x y.piece y.next (sym h ∙ i ∙ ap Ok e) in rw b.0 (omega arith)

    pub walk_refused : (q : Reason) → r ≡ Err q → (v : Option Reason) → reason_of s (walk_from s x) ≡ v → Some q ≡ v
    walk_refused q e v k = sym (step_done x (Some q) (sym h ∙ e)) ∙ k
