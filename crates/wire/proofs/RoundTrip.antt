-- The round trip, once over the kinds. `read-..`: the bytes of a valid value are accepted and give the value back. `back-..`: accepted bytes are
-- the bytes of the value that they give, which is valid.
use Prim.Native.Nat.{ℕ, zero, suc, ◌+◌, ◌^◌, ◌≤◌, ◌<◌}
use native.Mathlib.Nat.{zero-add, add_assoc, add-zero}
use native.Mathlib.Decide.{ℕ_discrete}
use native.Mathlib.Omega.{arith}
use mathlib.Core.Path.{◌≡◌, refl, sym, ap, ◌∙◌}
use mathlib.Core.Bool.{cond}
use mathlib.Core.List.{List, [], ◌∷◌, ◌++◌, append_assoc, append-nil}
use lib.ListN.{length, take, drop, length-append, length-drop, take-append-drop}
use lib.Seq.{drop-drop, take-append_seam, drop-append_seam, length-take-le, drop-length}
use lib.Dec.{eqb}
use borrow.Author.Tests.{eq-eqb, ne_eqb}
use Rattle.wire.specs.Numbers.{Bytes, be, bytes_of, number_at}
use Rattle.wire.specs.Layout.{size, at_most, Field, one, many, xid, Items, Fields, gtrid_most, bqual_most, halves}
use Rattle.wire.specs.declared.Item.{Item}
use Rattle.wire.specs.declared.Item.TheVariants.{Raw, Num, Str}
use Rattle.wire.specs.Values.{Xid, null, branch, Val, Vals, FieldVal, FieldVals, Valid, Valids, AllValid, FieldValid, FieldsValid, encode_item, encode_items, encode_elements, encode_field, encode}
use Rattle.wire.specs.Decoding.{after_item, after_items, after_elements, after_field, item_at, items_at, elements_at, xid_at, field_at, decode}
use Rattle.wire.specs.Reading.{Outcome, room, read_bytes, read_number, read_string, read_item, read_items, read_elements, read_list, read_halves, read_xid, read_field, read_fields, read_end}
use Rattle.std.specs.Prelude.{Ok}
use Rattle.wire.proofs.Bytes.{bytes_take, bytes_drop, number_below, length-bytes_of, be-bytes_of, bytes_of-number}
use Rattle.wire.proofs.Parts.{was_then, room_fits, room_accepted, number_accepted, allowed_most, most_allowed}
use Rattle.wire.proofs.Ends.{item_ends, items_ends, first-item, first_element, xid_format, field_ends, first_field, end_accepted}

-- ---- the bytes x and then r stand at p

abbrev At : List ℕ → ℕ → List ℕ → Type 0
At s p r = (drop p s ≡ r) × (p ≤ length s)

module _ (s : List ℕ) (p : ℕ) (x r : List ℕ) (a : At s p (x ++ r)) where
  at_fits : p + length x ≤ length s
  at_fits = omega (arith, simp (length-drop, length-append) at (ap length a.0))

  at_take : take (length x) (drop p s) ≡ x
  at_take = rw a.0 (take-append_seam x r)

  at_next : At s (p + length x) r
  at_next = (rw (← drop-drop (length x) p s, a.0) (drop-append_seam x r), at_fits)

  at_room : (k : ℕ) → room (length x) s p k ≡ Ok (p + length x)
  at_room k = room_fits (length x) s p k at_fits

at_assoc : (s : List ℕ) (p : ℕ) (x y r : List ℕ) → At s p ((x ++ y) ++ r) → At s p (x ++ (y ++ r))
at_assoc s p x y r a = (a.0 ∙ append_assoc x y r, a.1)

-- a number of w bytes stands at p
module _ (s : List ℕ) (p w n : ℕ) (r : List ℕ) (a : At s p (bytes_of w n ++ r)) where
  num_room : room w s p p ≡ Ok (p + w)
  num_room = rw (length-bytes_of w n) at (at_room s p (bytes_of w n) r a p)

  num_next : At s (p + w) r
  num_next = rw (length-bytes_of w n) at (at_next s p (bytes_of w n) r a)

  num_value : n < 256 ^ w → number_at w s p ≡ n
  num_value h = ap be (rw (length-bytes_of w n) at (at_take s p (bytes_of w n) r a)) ∙ be-bytes_of w n h

-- ---- the bytes of a valid value are accepted, and give it back

abbrev Read : Outcome → ℕ → List ℕ → Type 0
Read o p x = o ≡ Ok (p + length x)

-- two parts, one after the other
length_two : (p : ℕ) (x y : List ℕ) → p + length x + length y ≡ p + length (x ++ y)
length_two p x y = rw length-append (add_assoc p (length x) (length y))

read_item_lem : (i : Item) (v : Val i) → Valid i v → (s : List ℕ) (p : ℕ) (r : List ℕ) → At s p (encode_item i v ++ r)
    → Read (read_item i s (Ok p)) p (encode_item i v) × (item_at i s p ≡ v)
unfolding read_item encode_item item_at read_bytes read_number read_string
read_item_lem (Raw n) v h s p r a = (rw (← h.0) (at_room s p v r a p), rw (← h.0) (at_take s p v r a))
read_item_lem (Num w l) v h s p r a =
    let n : number_at (size w) s p ≡ v = num_value s p (size w) v r a h.0 in
    (rw (length-bytes_of (size w) v, num_room s p (size w) v r a, n, h.1), n)
read_item_lem Str v h s p r a =
    let l : List ℕ = bytes_of 8 (length v) in
    let a₁ : At s p (l ++ (v ++ r)) = at_assoc s p l v r a in
    let n : number_at 8 s p ≡ length v = num_value s p 8 (length v) (v ++ r) a₁ h.0 in
    let a₂ : At s (p + 8) (v ++ r) = num_next s p 8 (length v) (v ++ r) a₁ in (
      rw (num_room s p 8 (length v) (v ++ r) a₁, n, at_room s (p + 8) v r a₂ p, length-append, length-bytes_of) (ap Ok (add_assoc p 8 (length v))),
      rw n (at_take s (p + 8) v r a₂),
    )

read_items_lem : (is : Items) (v : Vals is) → Valids is v → (s : List ℕ) (p : ℕ) (r : List ℕ) → At s p (encode_items is v ++ r)
    → Read (read_items is s (Ok p)) p (encode_items is v) × (items_at is s p ≡ v)
unfolding read_items encode_items items_at
read_items_lem [] v h s p r a = (rw add-zero, refl)
read_items_lem (i ∷ is) v h s p r a =
    let x : List ℕ = encode_item i.kind v.0 in
    let y : List ℕ = encode_items is v.1 in
    let a₁ : At s p (x ++ (y ++ r)) = at_assoc s p x y r a in
    let f = read_item_lem i.kind v.0 h.0 s p (y ++ r) a₁ in
    let g = read_items_lem is v.1 h.1 s (p + length x) r (at_next s p x (y ++ r) a₁) in
    let z : p + length x ≡ after_item i.kind s p = (item_ends s i.kind p (p + length x) f.0).0 in
    (rw (f.0, g.0) (ap Ok (length_two p x y)), rw (← z) (λ k. (f.1 k, g.1 k)))

read_elements_lem : (is : Items) (vs : List (Vals is)) → AllValid is vs → (s : List ℕ) (p : ℕ) (r : List ℕ) → At s p (encode_elements is vs ++ r)
    → Read (read_elements (length vs) is s (Ok p)) p (encode_elements is vs) × (elements_at (length vs) is s p ≡ vs)
unfolding read_elements encode_elements elements_at
read_elements_lem is [] h s p r a = (rw add-zero, refl)
read_elements_lem is (v ∷ vs) h s p r a =
    let x : List ℕ = encode_items is v in
    let y : List ℕ = encode_elements is vs in
    let a₁ : At s p (x ++ (y ++ r)) = at_assoc s p x y r a in
    let f = read_items_lem is v h.0 s p (y ++ r) a₁ in
    let g = read_elements_lem is vs h.1 s (p + length x) r (at_next s p x (y ++ r) a₁) in
    let z : p + length x ≡ after_items is s p = (items_ends s is p (p + length x) f.0 a.1).0 in (
      ap (read_elements (length vs) is s) f.0 ∙ g.0 ∙ ap Ok (length_two p x y),
      (λ k. f.1 k ∷ (ap (elements_at (length vs) is s) (sym z) ∙ g.1) k),
    )

-- a valid xid's lengths and data are valid items
halves_valid : (f g b : ℕ) (d : List ℕ) → FieldValid xid (branch f g b d) → Valids (halves g b) ((g, (b, (d, tt))))
halves_valid f g b d h =
    let hg : g ≤ gtrid_most = h.2 in
    let hb : b ≤ bqual_most = h.3 in
    ((omega arith, most_allowed gtrid_most g hg), ((omega arith, most_allowed bqual_most b hb), ((h.4, h.5), tt)))

read_xid_lem : (v : Xid) → FieldValid xid v → (s : List ℕ) (p : ℕ) (r : List ℕ) → At s p (encode_field xid v ++ r)
    → Read (read_xid s (Ok p)) p (encode_field xid v) × (field_at xid s p ≡ v)
unfolding encode_field field_at xid_at read_xid read_halves encode_items encode_item
read_xid_lem null h s p r a =
    let n : number_at 8 s p ≡ 0 = num_value s p 8 0 r a (omega arith) in
    (rw (num_room s p 8 0 r a, n, length-bytes_of), rw n)
read_xid_lem (branch f g b d) h s p r a =
    let T : List ℕ = encode_items (halves g b) ((g, (b, (d, tt)))) in
    let a₁ : At s p (bytes_of 8 f ++ (T ++ r)) = at_assoc s p (bytes_of 8 f) T r a in
    let n : number_at 8 s p ≡ f = num_value s p 8 f (T ++ r) a₁ h.0 in
    let a₂ : At s (p + 8) (T ++ r) = num_next s p 8 f (T ++ r) a₁ in
    let i = halves_valid f g b d h in
    let R = read_items_lem (halves g b) ((g, (b, (d, tt)))) i s (p + 8) r a₂ in
    let a₃ = at_assoc s (p + 8) (bytes_of 8 g) (bytes_of 8 b ++ (d ++ [])) r a₂ in
    let n₁ : number_at 8 s (p + 8) ≡ g = num_value s (p + 8) 8 g _ a₃ i.0.0 in
    let a₄ = at_assoc s (p + 8 + 8) (bytes_of 8 b) (d ++ []) r (num_next s (p + 8) 8 g _ a₃) in
    let n₂ : number_at 8 s (p + 8 + 8) ≡ b = num_value s (p + 8 + 8) 8 b _ a₄ i.1.0.0 in
    let a₅ = at_assoc s (p + 8 + 8 + 8) d [] r (num_next s (p + 8 + 8) 8 b _ a₄) in
    let t : take (g + b) (drop (p + 8 + 8 + 8) s) ≡ d = rw (← h.4) (at_take s (p + 8 + 8 + 8) d _ a₅) in (
      rw (num_room s p 8 f (T ++ r) a₁, n, ne_eqb f 0 h.1, n₁, n₂, R.0)
          (ap Ok (ap (λ (k : ℕ). p + k + length T) (sym (length-bytes_of 8 f)) ∙ length_two p (bytes_of 8 f) T)),
      rw (n, ne_eqb f 0 h.1, n₁, n₂, t),
    )

read_field_lem : (f : Field) (v : FieldVal f) → FieldValid f v → (s : List ℕ) (p : ℕ) (r : List ℕ) → At s p (encode_field f v ++ r)
    → Read (read_field f s (Ok p)) p (encode_field f v) × (field_at f s p ≡ v)
unfolding read_field read_item encode_item item_at encode_field field_at read_list
read_field_lem (one i) v h s p r a = read_item_lem i v h s p r a
read_field_lem (many w m is) vs h s p r a =
    let l : List ℕ = bytes_of (size w) (length vs) in
    let y : List ℕ = encode_elements is vs in
    let a₁ : At s p (l ++ (y ++ r)) = at_assoc s p l y r a in
    let n = read_item_lem (Num w (at_most m)) (length vs) h.0 s p (y ++ r) a₁ in
    let g = read_elements_lem is vs h.1 s (p + size w) r (num_next s p (size w) (length vs) (y ++ r) a₁) in
    (rw (n.0, n.1, length-bytes_of, g.0, length-append, length-bytes_of) (ap Ok (add_assoc p (size w) (length y))), rw n.1 g.1)
read_field_lem xid v h s p r a = read_xid_lem v h s p r a

read_fields_lem : (fs : Fields) (v : FieldVals fs) → FieldsValid fs v → (s : List ℕ) (p : ℕ) (r : List ℕ) → At s p (encode fs v ++ r)
    → Read (read_fields fs s (Ok p)) p (encode fs v) × (decode fs s p ≡ v)
unfolding read_fields encode decode
read_fields_lem [] v h s p r a = (rw add-zero, refl)
read_fields_lem (f ∷ fs) v h s p r a =
    let x : List ℕ = encode_field f.kind v.0 in
    let y : List ℕ = encode fs v.1 in
    let a₁ : At s p (x ++ (y ++ r)) = at_assoc s p x y r a in
    let j = read_field_lem f.kind v.0 h.0 s p (y ++ r) a₁ in
    let g = read_fields_lem fs v.1 h.1 s (p + length x) r (at_next s p x (y ++ r) a₁) in
    let z : p + length x ≡ after_field f.kind s p = (field_ends s f.kind p (p + length x) j.0).0 in
    (rw (j.0, g.0) (ap Ok (length_two p x y)), rw (← z) (λ k. (j.1 k, g.1 k)))

-- ---- accepted bytes are the bytes of a valid value

-- the bytes x stand at p, and e is the place after them
abbrev Back : List ℕ → ℕ → ℕ → List ℕ → Type 0
Back s p e x = drop p s ≡ x ++ drop e s

back_two : (s : List ℕ) (p m e : ℕ) (x y : List ℕ) → Back s p m x → Back s m e y → Back s p e (x ++ y)
back_two s p m e x y f g = f ∙ ap (λ (r : List ℕ). x ++ r) g ∙ sym (append_assoc x y (drop e s))

module _ (s : List ℕ) (b : Bytes s) where
  back_take : (n p : ℕ) → Back s p (p + n) (take n (drop p s))
  back_take n p = rw (← drop-drop n p s) (sym (take-append-drop n (drop p s)))

  back_number : (w p : ℕ) → p + w ≤ length s → Back s p (p + w) (bytes_of w (number_at w s p))
  back_number w p h = rw (bytes_of-number w s p b h) (back_take w p)

  part_length : (n p : ℕ) → p + n ≤ length s → length (take n (drop p s)) ≡ n
  part_length n p h = length-take-le n (drop p s) (simp length-drop (omega arith))

  part_bytes : (n p : ℕ) → Bytes (take n (drop p s))
  part_bytes n p = bytes_take n (drop p s) (bytes_drop p s b)

  back_item : (i : Item) (p : ℕ) → read_item i s (Ok p) ≡ Ok (after_item i s p)
      → Back s p (after_item i s p) (encode_item i (item_at i s p)) × Valid i (item_at i s p)
  unfolding read_item read_bytes read_string after_item encode_item item_at
  back_item (Raw n) p h =
      let k = room_accepted n s p p (p + n) h in
      (back_take n p, (part_length n p k.1, part_bytes n p))
  back_item (Num w l) p h =
      let k = number_accepted w l s p (p + size w) h in
      (back_number (size w) p k.1, (number_below (size w) s p b, k.2))
  back_item Str p h =
      let n : ℕ = number_at 8 s p in
      let m = was_then (room 8 s p p) (λ q. room n s q p) (p + 8 + n) h in
      let j = room_accepted 8 s p p m.0 m.1 in
      let k = room_accepted n s (p + 8) p (p + 8 + n) (rw (m.1 ∙ ap Ok j.0) at h) in
      let l : length (take n (drop (p + 8) s)) ≡ n = part_length n (p + 8) k.1 in (
        rw l (back_two s p (p + 8) (p + 8 + n) (bytes_of 8 n) (take n (drop (p + 8) s)) (back_number 8 p j.1) (back_take n (p + 8))),
        (rw l (number_below 8 s p b), part_bytes n (p + 8)),
      )

  back_items : (is : Items) (p e : ℕ) → read_items is s (Ok p) ≡ Ok e → Back s p e (encode_items is (items_at is s p)) × Valids is (items_at is s p)
  unfolding read_items encode_items items_at
  back_items [] p e h = let q : p ≡ e = cc in (ap (λ (j : ℕ). drop j s) q, tt)
  back_items (i ∷ is) p e h =
      let m : ℕ = after_item i.kind s p in
      let k = first-item s i.kind is p e h in
      let f = back_item i.kind p k.0 in
      let g = back_items is m e k.2 in
      (back_two s p m e (encode_item i.kind (item_at i.kind s p)) (encode_items is (items_at is s m)) f.0 g.0, (f.1, g.1))

  back_elements : (n : ℕ) (is : Items) (p e : ℕ) → read_elements n is s (Ok p) ≡ Ok e → p ≤ length s
      → Back s p e (encode_elements is (elements_at n is s p)) × AllValid is (elements_at n is s p) × (length (elements_at n is s p) ≡ n)
  unfolding read_elements encode_elements elements_at
  back_elements zero is p e h l = let q : p ≡ e = cc in (ap (λ (j : ℕ). drop j s) q, tt, refl)
  back_elements (suc n) is p e h l =
      let m : ℕ = after_items is s p in
      let k = first_element s n is p e h l in
      let f = back_items is p m k.0 in
      let g = back_elements n is m e k.2 k.1 in
      (back_two s p m e (encode_items is (items_at is s p)) (encode_elements is (elements_at n is s m)) f.0 g.0, (f.1, g.1), ap suc g.2)

  -- the lengths and the data stand where they should
  halves-at : (q : ℕ) → (g n : ℕ) → items_at (halves g n) s q ≡ ((number_at 8 s q, (number_at 8 s (q + 8), (take (g + n) (drop (q + 8 + 8) s), tt))))
  unfolding items_at item_at after_item
  halves-at q g n = refl

  back_xid : (p e : ℕ) → read_xid s (Ok p) ≡ Ok e → Back s p e (encode_field xid (field_at xid s p)) × FieldValid xid (field_at xid s p)
  unfolding read_halves encode_field field_at xid_at
  back_xid p e h = go (xid_format s p e h) (ℕ_discrete (number_at 8 s p) 0)
    where
      go : (room 8 s p p ≡ Ok (p + 8)) × (p + 8 ≤ length s) × (cond (eqb (number_at 8 s p) 0) (Ok (p + 8)) (read_halves s (p + 8)) ≡ Ok e)
          → Dec (number_at 8 s p ≡ 0) → Back s p e (encode_field xid (field_at xid s p)) × FieldValid xid (field_at xid s p)
      go k (yes z) =
          let y : Ok (p + 8) ≡ Ok e = rw (eq-eqb (number_at 8 s p) 0 z) at k.2 in
          let q : p + 8 ≡ e = cc in
          rw (z, ← q) ((rw z at (back_number 8 p k.1), tt))
      go k (no z) =
          let G : ℕ = number_at 8 s (p + 8) in
          let N : ℕ = number_at 8 s (p + 8 + 8) in
          let y : read_items (halves G N) s (Ok (p + 8)) ≡ Ok e = rw (ne_eqb (number_at 8 s p) 0 z) at k.2 in
          let g = rw (halves-at (p + 8) G N) at (back_items (halves G N) (p + 8) e y) in
          rw (ne_eqb (number_at 8 s p) 0 z)
          ((
            back_two s p (p + 8) e (bytes_of 8 (number_at 8 s p)) _ (back_number 8 p k.1) g.0,
            (number_below 8 s p b, z, allowed_most gtrid_most G g.1.0.1, allowed_most bqual_most N g.1.1.0.1, g.1.1.1.0.0, g.1.1.1.0.1),
          ))

  back_field : (f : Field) (p : ℕ) → read_field f s (Ok p) ≡ Ok (after_field f s p)
      → Back s p (after_field f s p) (encode_field f (field_at f s p)) × FieldValid f (field_at f s p)
  unfolding read_field read_list after_field encode_field field_at
  back_field (one i) p h = back_item i p h
  back_field (many w m is) p h =
      let n : ℕ = number_at (size w) s p in
      let e : ℕ = after_elements n is s (p + size w) in
      let j = was_then (read_number w (at_most m) s (Ok p)) (λ q. read_elements n is s (Ok q)) e h in
      let k = number_accepted w (at_most m) s p j.0 j.1 in
      let y : read_elements n is s (Ok (p + size w)) ≡ Ok e = rw (j.1 ∙ ap Ok k.0) at h in
      let g = back_elements n is (p + size w) e y k.1 in
      rw g.2
      ((
        back_two s p (p + size w) e (bytes_of (size w) n) (encode_elements is (elements_at n is s (p + size w))) (back_number (size w) p k.1) g.0,
        ((number_below (size w) s p b, k.2), g.1),
      ))
  back_field xid p h = back_xid p (after_field xid s p) h

  back_fields : (fs : Fields) (p e : ℕ) → read_fields fs s (Ok p) ≡ Ok e → Back s p e (encode fs (decode fs s p)) × FieldsValid fs (decode fs s p)
  unfolding read_fields encode decode
  back_fields [] p e h = let q : p ≡ e = cc in (ap (λ (j : ℕ). drop j s) q, tt)
  back_fields (f ∷ fs) p e h =
      let m : ℕ = after_field f.kind s p in
      let k = first_field s f.kind fs p e h in
      let j = back_field f.kind p k.0 in
      let g = back_fields fs m e k.2 in
      (back_two s p m e (encode_field f.kind (field_at f.kind s p)) (encode fs (decode fs s m)) j.0 g.0, (j.1, g.1))

-- ---- fields at the front of more bytes

-- a valid value's bytes give it back, whatever follows them
pub front_read : (fs : Fields) (v : FieldVals fs) → FieldsValid fs v → (r : List ℕ) → decode fs (encode fs v ++ r) 0 ≡ v
front_read fs v h r = (read_fields_lem fs v h (encode fs v ++ r) 0 r (refl, omega arith)).1

-- ---- the two halves, for a whole payload

-- a valid value's bytes are accepted to the last one, and read back as the value
pub valid_read : (fs : Fields) (v : FieldVals fs) → FieldsValid fs v
    → (read_end (encode fs v) (read_fields fs (encode fs v) (Ok 0)) ≡ Ok (length (encode fs v))) × (decode fs (encode fs v) 0 ≡ v)
unfolding read_end
valid_read fs v h =
    let r = read_fields_lem fs v h (encode fs v) 0 [] (sym (append-nil (encode fs v)), omega arith) in
    (rw (rw zero-add at r.0, eq-eqb (length (encode fs v)) (length (encode fs v)) refl), r.1)

-- bytes that are accepted to the last one are the encoding of the value that they give, and that is valid
pub accepted_encoded : (fs : Fields) (s : List ℕ) (e : ℕ) → Bytes s → read_end s (read_fields fs s (Ok 0)) ≡ Ok e
    → (encode fs (decode fs s 0) ≡ s) × FieldsValid fs (decode fs s 0)
accepted_encoded fs s e b h =
    let r = back_fields s b fs 0 (length s) (end_accepted s (read_fields fs s (Ok 0)) e h).0 in
    (sym (r.0 ∙ ap (λ (t : List ℕ). encode fs (decode fs s 0) ++ t) (drop-length s) ∙ append-nil (encode fs (decode fs s 0))), r.1)
