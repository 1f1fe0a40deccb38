-- The reason from where passing over the fields of a payload s stops is that of the first fault of its walk.
use Prim.Native.Nat.{ℕ, zero, suc, ◌+◌, ◌-◌, ◌≤◌, ◌<◌}
use native.Mathlib.Decide.{dec_le}
use native.Mathlib.Omega.{arith}
use mathlib.Core.Path.{◌≡◌, refl, sym, ap, subst, ◌∙◌}
use mathlib.Core.Bool.{Bool, true, false}
use mathlib.Core.List.{List, [], ◌∷◌}
use lib.ListN.{length}
use lib.Dec.{eqb}
use borrow.Author.Tests.{le-leb, lt-leb, lt-ltb, le-ltb}
use Rattle.std.specs.Prelude.{Option, None, Some, Ok, Err}
use Rattle.wire.specs.Numbers.{Bytes, number_at}
use Rattle.wire.specs.Layout.{size, at_most, gtrid_most, bqual_most, Items}
use Rattle.wire.specs.Values.{allowed}
use Rattle.wire.specs.Reading.{Outcome, refused, read_bytes, read_number, read_string, read_item, read_items, read_halves, read_xid, read_field}
use Rattle.wire.specs.declared.Limits.{Limits}
use Rattle.wire.specs.declared.Refused.{Refused}
use Rattle.wire.specs.declared.Item.{Item}
use Rattle.wire.specs.declared.Item.TheVariants.{Raw, Num, Str}
use Rattle.wire.specs.declared.Width.{Width}
use Rattle.wire.specs.declared.Width.TheVariants.{U8, U64}
use Rattle.wire.proofs.Bytes.{number_below}
use Rattle.wire.proofs.Parts.{never, room_fits, most_allowed, any_allowed}
use Rattle.wire.proofs.Before.{Rule, present, field_by, present_item}
use Rattle.message_layout.specs.Table.{any_value, EnteredItem, item_entries, named_items, items_of, Entered, entries_of}
use Rattle.message_layout.specs.declared.Element.{Element}
use Rattle.message_layout.specs.declared.Kind.{Kind}
use Rattle.message_layout.specs.declared.Kind.TheVariants as kind
use Rattle.message_layout.specs.declared.Source.{Source}
use Rattle.message_layout.specs.declared.Source.TheVariants as source
use Rattle.payload_read.specs.declared.InList.{InList}
use Rattle.payload_read.specs.declared.Shape.{Shape}
use Rattle.payload_read.specs.declared.Shape.TheVariants as shape
use Rattle.payload_read.specs.declared.Stop.{Stop}
use Rattle.payload_read.specs.Stops.{Passed, shape_of, at_field, go_on, judged, stop_item, stop_items, of_element, in_element, stop_elements, stop_kind, stop_fields, stop_of}
use Rattle.message_walk.specs.declared.Form.{Form}
use Rattle.message_walk.specs.declared.Form.TheVariants as form
use Rattle.message_walk.specs.declared.Reason.{Reason}
use Rattle.message_walk.specs.Walk as w
use Rattle.message_walk.specs.Walk.{Walk, end, ◌then◌, size_of, count, gtrid_length, bqual_length, Mark, mark, index_of, piece_of, item_from, xid_from, items_from, elements_from, field_from, fields_from, walk}
use Rattle.message_walk.specs.Reasons.{value_at, allows, left_over, reason_of}
use Rattle.message_walk.proofs.Ends.{passes_reason, answered, Ends, passed, stopped, item_ends, field_ends}
use Rattle.message_explain.specs.declared.stops.Told.{Told}
use Rattle.message_explain.specs.Inner.{short, not_allowed, number_in, and_then, or_told, length_in, told_of, told_reason, refused_at}

-- the reason from a stop; src and i are the layout and the element that a field is in where the stop names none
abbrev pub stop_reason : Source → Option ℕ → List ℕ → Passed → Option Reason
stop_reason src i s (Ok p) = left_over s p
stop_reason src i s (Err x) = Some (refused_at src i s x)

-- ---- a number that is above m

most_out : (m v : ℕ) → m < v → allowed (at_most m) v ≡ false
unfolding allowed
most_out m v h = simp (lt-leb v m h, le-leb 0 v (omega arith), lt-leb v 0 (omega arith))

module _ (s : List ℕ) (bytes : Bytes s) where
  -- ---- one piece, and what follows

  module _ (m : Mark) (j p : ℕ) (v : Walk) where
    piece-short : (f : Form) → length s < p + size_of f
        → reason_of s (piece_of m j f p then v) ≡ Some (told_reason m.source m.field m.index (short j (size_of f) (length s - p)))
    unfolding reason_of
    piece-short f h = rw (lt-leb (p + size_of f) (length s) h)

    piece_good : (f : Form) → p + size_of f ≤ length s → allows f (value_at f s p) ≡ true → reason_of s (piece_of m j f p then v) ≡ reason_of s v
    unfolding reason_of
    piece_good f h a = rw (le-leb (p + size_of f) (length s) h, a)

    piece_bad : (x : Width) (l : Limits) → p + size x ≤ length s → allowed l (number_at (size x) s p) ≡ false
        → reason_of s (piece_of m j (form.Number x l) p then v) ≡ Some (told_reason m.source m.field m.index (not_allowed j (number_at (size x) s p)))
    unfolding reason_of
    piece_bad x l h e = rw (le-leb (p + size x) (length s) h, e)

    -- a size, a count or a formatID
    count_good : p + 8 ≤ length s → reason_of s (piece_of m j count p then v) ≡ reason_of s v
    count_good h = piece_good count h (any_allowed (number_at 8 s p) (number_below 8 s p bytes))

  -- the same of what is told
  number_short : (j : ℕ) (x : Width) (p : ℕ) → p ≤ length s → length s < p + size x → number_in j x s p ≡ Err (short j (size x) (length s - p))
  number_short j x p l h = rw (lt-ltb (length s - p) (size x) (omega arith))

  number_there : (j : ℕ) (x : Width) (p : ℕ) → p + size x ≤ length s → number_in j x s p ≡ Ok (number_at (size x) s p)
  number_there j x p h = rw (le-ltb (length s - p) (size x) (omega arith))

  -- ---- a field that is refused

  module _ (m : Mark) (p : ℕ) (inside : p ≤ length s) (next : ℕ → Walk) where
    abbrev Says : Walk → Told → Type 0
    Says u t = reason_of s u ≡ Some (told_reason m.source m.field m.index t)

    raw_told : (n : ℕ) (r : Refused) → read_bytes n s (Ok p) ≡ Err r → Says (w.one m 0 (form.Bytes n) p next) (short 0 n (length s - p))
    unfolding read_bytes
    raw_told n r e = go (dec_le (p + n) (length s))
      where
        go : Dec (p + n ≤ length s) → Says (w.one m 0 (form.Bytes n) p next) (short 0 n (length s - p))
        go (yes h) = never (sym e ∙ room_fits n s p p h)
        go (no h) = piece-short m 0 p (next (p + n)) (form.Bytes n) (omega arith)

    number_told_lem : (x : Width) (h : Limits) (r : Refused) → read_number x h s (Ok p) ≡ Err r
        → Says (w.one m 0 (form.Number x h) p next) (told_of (shape.Number x) s p)
    unfolding read_number
    number_told_lem x h r e = go (dec_le (p + size x) (length s)) (allowed h (number_at (size x) s p)) refl
      where
        go : Dec (p + size x ≤ length s) → (t : Bool) → allowed h (number_at (size x) s p) ≡ t → Says (w.one m 0 (form.Number x h) p next) (told_of (shape.Number x) s p)
        go (yes l) true z = let y : read_number x h s (Ok p) ≡ Ok (p + size x) = rw (room_fits (size x) s p p l, z) in never (sym e ∙ y)
        go (yes l) false z = rw (number_there 0 x p l) (piece_bad m 0 p (next (p + size x)) x h l z)
        go (no l) t z =
            let k : length s < p + size x = omega arith in
            rw (number_short 0 x p inside k) (piece-short m 0 p (next (p + size x)) (form.Number x h) k)

    string_told : (r : Refused) → read_string s (Ok p) ≡ Err r → Says (item_from s m Str 0 0 p next) (told_of shape.Str s p)
    unfolding read_string
    string_told r e = go (dec_le (p + 8) (length s)) (dec_le (p + 8 + n) (length s))
      where
        n : ℕ
        n = number_at 8 s p

        go : Dec (p + 8 ≤ length s) → Dec (p + 8 + n ≤ length s) → Says (item_from s m Str 0 0 p next) (told_of shape.Str s p)
        go (yes l) (yes k) = let y : read_string s (Ok p) ≡ Ok (p + 8 + n) = rw (room_fits 8 s p p l, room_fits n s (p + 8) p k) in never (sym e ∙ y)
        go (yes l) (no k) =
            rw (number_there 0 U64 p l) (count_good m 0 p _ l ∙ piece-short m 1 (p + 8) (next (p + 8 + n)) (form.Bytes n) (omega arith))
        go (no l) k =
            let y : length s < p + 8 = omega arith in
            rw (number_short 0 U64 p inside y) (piece-short m 0 p _ count y)

    item_told : (i : Item) (r : Refused) → read_item i s (Ok p) ≡ Err r → Says (item_from s m i 0 0 p next) (told_of (shape_of i) s p)
    unfolding read_item
    item_told (Raw n) r e = raw_told n r e
    item_told (Num x h) r e = number_told_lem x h r e
    item_told Str r e = string_told r e

    -- an xid, from its second length on, after a first one of g; its data is at d
    abbrev second : ℕ → ℕ → ℕ → Told
    second g q d = or_told (and_then (length_in 2 bqual_most s q) (λ b. Ok (g + b))) (λ n. short 3 n (length s - d))

    second_told : (g q d : ℕ) → d ≡ q + 8 → q ≤ length s → ((e : ℕ) → read_bytes (g + number_at 8 s q) s (read_number U64 (at_most bqual_most) s (Ok q)) ≡ Ok e → ⊥)
        → Says (w.bqual_from s m g q next) (second g q d)
    unfolding read_bytes read_number
    second_told g q d at l refused = go (dec_le (q + 8) (length s)) (dec_le b bqual_most) (dec_le (q + 8 + (g + b)) (length s))
      where
        b : ℕ
        b = number_at 8 s q

        go : Dec (q + 8 ≤ length s) → Dec (b ≤ bqual_most) → Dec (q + 8 + (g + b) ≤ length s) → Says (w.bqual_from s m g q next) (second g q d)
        go (no h) y z =
            let k : length s < q + 8 = omega arith in
            rw (number_short 2 U64 q l k) (piece-short m 2 q _ bqual_length k)
        go (yes h) (no y) z =
            let k : bqual_most < b = omega arith in
            rw (number_there 2 U64 q h, lt-ltb bqual_most b k) (piece_bad m 2 q _ U64 (at_most bqual_most) h (most_out bqual_most b k))
        go (yes h) (yes y) (no z) =
            rw (number_there 2 U64 q h, le-ltb bqual_most b y, at)
            (piece_good m 2 q _ bqual_length h (most_allowed bqual_most b y) ∙ piece-short m 3 (q + 8) _ (form.Bytes (g + b)) (omega arith))
        go (yes h) (yes y) (yes z) =
            absurd (refused (q + 8 + (g + b)) (rw (room_fits 8 s q q h, most_allowed bqual_most b y, room_fits (g + b) s (q + 8) (q + 8) z)))

    -- from its first length on; its second is at c
    abbrev first : ℕ → ℕ → ℕ → Told
    first q c d = or_told (and_then (length_in 1 gtrid_most s q) (λ g. and_then (length_in 2 bqual_most s c) (λ b. Ok (g + b)))) (λ n. short 3 n (length s - d))

    first_told : (q c d : ℕ) → c ≡ q + 8 → d ≡ q + 8 + 8 → q ≤ length s → ((e : ℕ) → read_halves s q ≡ Ok e → ⊥) → Says (w.gtrid_from s m q next) (first q c d)
    unfolding read_halves read_items read_item read_number
    first_told q c d ec ed l refused = go (dec_le (q + 8) (length s)) (dec_le g gtrid_most)
      where
        g : ℕ
        g = number_at 8 s q

        go : Dec (q + 8 ≤ length s) → Dec (g ≤ gtrid_most) → Says (w.gtrid_from s m q next) (first q c d)
        go (no h) y =
            let k : length s < q + 8 = omega arith in
            rw (number_short 1 U64 q l k) (piece-short m 1 q _ gtrid_length k)
        go (yes h) (no y) =
            let k : gtrid_most < g = omega arith in
            rw (number_there 1 U64 q h, lt-ltb gtrid_most g k) (piece_bad m 1 q _ U64 (at_most gtrid_most) h (most_out gtrid_most g k))
        go (yes h) (yes y) =
            rw (number_there 1 U64 q h, le-ltb gtrid_most g y, ec)
            (piece_good m 1 q _ gtrid_length h (most_allowed gtrid_most g y)
            ∙ second_told g (q + 8) d ed h (λ e z. refused e (rw (room_fits 8 s q q h, most_allowed gtrid_most g y) z)))

    xid_told_lem : (r : Refused) → read_xid s (Ok p) ≡ Err r → Says (xid_from s m 0 0 p next) (told_of shape.Xid s p)
    unfolding read_xid
    xid_told_lem r e = go (dec_le (p + 8) (length s)) (eqb (number_at 8 s p) 0) refl
      where
        go : Dec (p + 8 ≤ length s) → (t : Bool) → eqb (number_at 8 s p) 0 ≡ t → Says (xid_from s m 0 0 p next) (told_of shape.Xid s p)
        go (no h) t z =
            let k : length s < p + 8 = omega arith in
            rw (number_short 0 U64 p inside k) (piece-short m 0 p _ count k)
        go (yes h) true z = let y : read_xid s (Ok p) ≡ Ok (p + 8) = rw (room_fits 8 s p p h, z) in never (sym e ∙ y)
        go (yes h) false z =
            let y : read_xid s (Ok p) ≡ read_halves s (p + 8) = rw (room_fits 8 s p p h, z) in
            rw (number_there 0 U64 p h)
            (count_good m 0 p _ h ∙ rw z (first_told (p + 8) (p + 16) (p + 24) (omega arith) (omega arith) h (λ u v. never (sym e ∙ y ∙ v))))

  -- ---- what passing comes to: the walk goes on behind what is whole, and the reason is that of what is refused

  data Meets (src : Source) (i : Option ℕ) (u : Walk) (next : ℕ → Walk) : Passed → Type 0 where
    goes : (q : ℕ) → q ≤ length s → reason_of s u ≡ reason_of s (next q) → Meets src i u next (Ok q)
    stays : (x : Stop) → reason_of s u ≡ Some (refused_at src i s x) → Meets src i u next (Err x)

  -- one part, and then another, which leaves what is refused
  chain : {src : Source} {i : Option ℕ} {u : Walk} {mid next : ℕ → Walk} {a : Passed} (F : Passed → Passed) → ((x : Stop) → F (Err x) ≡ Err x)
      → Meets src i u mid a → ((q : ℕ) → q ≤ length s → Meets src i (mid q) next (F (Ok q))) → Meets src i u next (F a)
  chain {src} {i} {u} {mid} {next} {a} F keeps (goes q l e) g = go (g q l)
    where
      go : {b : Passed} → Meets src i (mid q) next b → Meets src i u next b
      go (goes x h z) = goes x h (e ∙ z)
      go (stays x z) = stays x (e ∙ z)
  chain {src} {i} {u} {mid} {next} {a} F keeps (stays x e) g = subst (Meets src i u next) (sym (keeps x)) (stays x e)

  -- a field that is judged
  judged_meets : (m : Mark) (h : Shape) (p : ℕ) {u : Walk} {next : ℕ → Walk} {o : Rule → Outcome} → Ends s u next o
      → ((r : Refused) → o present ≡ Err r → reason_of s u ≡ Some (told_reason m.source m.field m.index (told_of h s p)))
      → Meets m.source m.index u next (judged m.field h p (o present))
  judged_meets m h p {u} {next} {o} (passed q e l k) told =
      subst (λ (t : Outcome). Meets m.source m.index u next (judged m.field h p t)) (sym (e present)) (goes q l (passes_reason k))
  judged_meets m h p {u} {next} {o} (stopped x v f d e l k z) told =
      subst (λ (t : Outcome). Meets m.source m.index u next (judged m.field h p t)) (sym (e present))
      (stays (at_field m.field h p) (told (refused f (answered present x)) (e present)))

  -- ---- the kinds

  item_meets : (m : Mark) (i : Item) (p : ℕ) → p ≤ length s → (next : ℕ → Walk)
      → Meets m.source m.index (item_from s m i 0 0 p next) next (stop_item m.field i s p)
  unfolding stop_item
  item_meets m i p l next =
      rw (present_item s i p) at (judged_meets m (shape_of i) p (item_ends s bytes m i p l next) (λ r e. item_told m p l next i r (sym (present_item s i p) ∙ e)))

  items_keep : (k : ℕ) (is : Items) (x : Stop) → stop_items k is s (Err x) ≡ Err x
  unfolding stop_items
  items_keep k [] x = refl
  items_keep k (i ∷ is) x = items_keep (k + 1) is x

  items_meet : (e : Element) (i : Option ℕ) (k : ℕ) (xs : List EnteredItem) (p : ℕ) → p ≤ length s → (next : ℕ → Walk)
      → Meets (source.Element e) i (items_from s e i k xs p next) next (stop_items k (named_items xs) s (Ok p))
  unfolding items_from stop_items
  items_meet e i k [] p l next = goes p l refl
  items_meet e i k (x ∷ xs) p l next =
      chain (stop_items (k + 1) (named_items xs) s) (items_keep (k + 1) (named_items xs)) (item_meets (mark (source.Element e) k i) x.item p l _)
      (λ q h. items_meet e i (k + 1) xs q h next)

  -- a field of an element is named as one of that element
  of_element_lem : (t : ℕ) (e : Element) (c n k : ℕ) (h : Shape) (p : ℕ) (l : Option InList)
      → let x : Stop = record { field = k; shape = h; start = p; within = l } in
      refused_at (source.Element e) (index_of c n) s x ≡ refused_at (source.Message t) None s (of_element e c n x)
  of_element_lem t e c n k h p None = refl
  of_element_lem t e c n k h p (Some l) = refl

  elements_meet : (t : ℕ) (e : Element) (c n p : ℕ) → p ≤ length s → (next : ℕ → Walk)
      → Meets (source.Message t) None (elements_from s e c n p next) next (stop_elements e c n s p)
  unfolding elements_from stop_elements items_of
  elements_meet t e c zero p l next = goes p l refl
  elements_meet t e c (suc n) p l next = go (items_meet e (index_of c (suc n)) 0 (item_entries e) p l (λ q. elements_from s e c n q next)) (λ q h. elements_meet t e c n q h next)
    where
      u : Walk
      u = items_from s e (index_of c (suc n)) 0 (item_entries e) p (λ q. elements_from s e c n q next)

      go : {a : Passed} → Meets (source.Element e) (index_of c (suc n)) u (λ q. elements_from s e c n q next) a
          → ((q : ℕ) → q ≤ length s → Meets (source.Message t) None (elements_from s e c n q next) next (stop_elements e c n s q))
          → Meets (source.Message t) None u next (in_element e c (suc n) a (stop_elements e c n s))
      go (goes q h z) rest = on (rest q h)
        where
          on : {b : Passed} → Meets (source.Message t) None (elements_from s e c n q next) next b → Meets (source.Message t) None u next b
          on (goes x k y) = goes x k (z ∙ y)
          on (stays x y) = stays x (z ∙ y)
      go (stays x z) rest = stays (of_element e c (suc n) x) (z ∙ ap Some (of_element_lem t e c (suc n) x.field x.shape x.start x.within))

  kind_meets : (t k : ℕ) (κ : Kind) (p : ℕ) → p ≤ length s → (next : ℕ → Walk)
      → Meets (source.Message t) None (field_from s (mark (source.Message t) k None) κ 0 0 p next) next (stop_kind k κ s p)
  unfolding stop_kind stop_item read_item read_field field_by
  kind_meets t k (kind.One i) p l next = item_meets (mark (source.Message t) k None) i p l next
  kind_meets t k (kind.List e) p l next =
      chain (λ a. go_on a (stop_elements e (number_at 8 s p) (number_at 8 s p) s)) (λ x. refl) (item_meets (mark (source.Message t) k None) (Num U64 (at_most any_value)) p l _)
      (λ q h. elements_meet t e (number_at 8 s p) (number_at 8 s p) q h next)
  kind_meets t k (kind.Optional e) p l next =
      chain (λ a. go_on a (stop_elements e 0 (number_at 1 s p) s)) (λ x. refl) (item_meets (mark (source.Message t) k None) (Num U8 (at_most 1)) p l _)
      (λ q h. elements_meet t e 0 (number_at 1 s p) q h next)
  kind_meets t k kind.Xid p l next =
      judged_meets (mark (source.Message t) k None) shape.Xid p (field_ends s bytes (mark (source.Message t) k None) kind.Xid p l next)
      (xid_told_lem (mark (source.Message t) k None) p l next)

  fields_keep : (k : ℕ) (es : List Entered) (x : Stop) → stop_fields k es s (Err x) ≡ Err x
  unfolding stop_fields
  fields_keep k [] x = refl
  fields_keep k (e ∷ es) x = fields_keep (k + 1) es x

  fields_meet : (t k : ℕ) (es : List Entered) (p : ℕ) → p ≤ length s → Meets (source.Message t) None (fields_from s t k es p) end (stop_fields k es s (Ok p))
  unfolding fields_from stop_fields
  fields_meet t k [] p l = goes p l refl
  fields_meet t k (e ∷ es) p l =
      chain (stop_fields (k + 1) es s) (fields_keep (k + 1) es) (kind_meets t k e.kind p l _) (λ q h. fields_meet t (k + 1) es q h)

  -- the payload of a message of type t
  pub stop_explains : (t : ℕ) → stop_reason (source.Message t) None s (stop_of t s) ≡ reason_of s (walk s t)
  unfolding stop_of reason_of
  stop_explains t = go (fields_meet t 0 (entries_of t) 0 (omega arith))
    where
      go : {a : Passed} → Meets (source.Message t) None (walk s t) end a → stop_reason (source.Message t) None s a ≡ reason_of s (walk s t)
      go (goes q l e) = sym e
      go (stays x e) = sym e
