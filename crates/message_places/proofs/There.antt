-- The bytes at the place that a call gives, as many as it says, are the part that the calls of message_fields and message_lists hand back, and lie in
-- the message: for every message, version and role.
use Prim.Native.Nat.{ℕ, zero, suc, ◌+◌, ◌-◌, ◌≤◌, min}
use native.Mathlib.Decide.{dec_le}
use native.Mathlib.Omega.{arith}
use mathlib.Core.Path.{◌≡◌, refl, sym, ap, ◌∙◌}
use mathlib.Core.Bool.{Bool, true, false, cond}
use mathlib.Core.List.{List, [], ◌∷◌}
use lib.ListN.{length, take, drop, length-take, length-drop, drop_of_length-le}
use lib.Seq.{take-nil, take-take, take_all, drop-drop}
use lib.Dec.{eqb, ltb}
use Rattle.wire.specs.Numbers.{number_at}
use Rattle.wire.specs.Layout.{xid}
use Rattle.wire.specs.Values.{null, branch}
use Rattle.wire.specs.Decoding.{xid_at, field_at}
use Rattle.wire.specs.Contents.{data_of}
use Rattle.message_layout.specs.Table.{items_of}
use Rattle.message_layout.specs.Message.{header_size, size_in, payload_in}
use Rattle.message_layout.specs.declared.Element.{Element}
use Rattle.message_layout.specs.declared.Source.TheVariants as source
use Rattle.std.specs.Prelude.{Option, None, Some, Ok, Err}
use Rattle.message_read.specs.Reading.{Reading, accepted, reading}
use Rattle.message_fields.specs.Contents.{content_bytes}
use Rattle.message_fields.specs.Fields.{within, field_in, content_at, correlation_part, part_of}
use Rattle.message_fields.specs.declared.Found.{Found}
use Rattle.message_fields.specs.declared.Found.TheVariants.{Bytes, Number, Xid, List as Listed}
use Rattle.message_read.proofs.Exact.{Passed, accepted_passed}
use Rattle.message_lists.specs.Elements.{element_at, list_in, of_listed, of_found, element_part}
use Rattle.message_lists.proofs.Steps.{from_last}
use Rattle.message_fields.proofs.Within.{drop-within}
use Rattle.message_places.specs.Places.{xid_place, place_in, list_place, place_at, correlation_place, correlation_size, part_place, part_size, element_place, element_size}

-- ---- parts of parts

-- what follows q in the first k is the first k - q of what follows q
drop-take : (q k : ℕ) (l : List ℕ) → drop q (take k l) ≡ take (k - q) (drop q l)
drop-take zero k l = let z : k ≡ k - 0 = omega arith in ap (λ (j : ℕ). take j l) z
drop-take (suc q) zero l = let z : 0 ≡ zero - suc q = omega arith in ap (λ (j : ℕ). take j (drop (suc q) l)) z
drop-take (suc q) (suc k) [] = sym (take-nil (suc k - suc q))
drop-take (suc q) (suc k) (x ∷ l) = let z : k - q ≡ suc k - suc q = omega arith in drop-take q k l ∙ ap (λ (j : ℕ). take j (drop q l)) z

-- the first n, and as many as they are
take_own : (n : ℕ) (l : List ℕ) → take (length (take n l)) l ≡ take n l
take_own zero l = refl
take_own (suc n) [] = refl
take_own (suc n) (x ∷ l) = ap (λ (y : List ℕ). x ∷ y) (take_own n l)

-- the first n of the first k, and as many as they are
take_own_own : (n k : ℕ) (l : List ℕ) → take (length (take n (take k l))) l ≡ take n (take k l)
take_own_own n k l = go (dec_le n k)
  where
    go : Dec (n ≤ k) → take (length (take n (take k l))) l ≡ take n (take k l)
    go (yes h) = rw (take-take n k l h) (take_own n l)
    go (no h) =
        let e : take n (take k l) ≡ take k l = take_all n (take k l) (let z : length (take k l) ≡ min k (length l) = length-take k l in omega arith) in
        rw e (take_own k l)

-- ---- s is the first k bytes of m from b on

abbrev pub Stands : ℕ → ℕ → List ℕ → List ℕ → Type 0
Stands b k m s = s ≡ take k (drop b m)

-- a part of s at q, or at its end, stands in m at b + q
pub part_stands : (b k q n : ℕ) (m s : List ℕ) → Stands b k m s
    → take (length (take n (drop q s))) (drop (b + within s q) m) ≡ take n (drop q s)
part_stands b k q n m s h =
    let w : ℕ = within s q in
    rw (← drop-within s q, ← drop-drop w b m)
    (let e : drop w s ≡ take (k - w) (drop w (drop b m)) = ap (drop w) h ∙ drop-take w k (drop b m) in rw e (take_own_own n (k - w) (drop w (drop b m))))

part_in : (b q n : ℕ) (s : List ℕ) → b + within s q + length (take n (drop q s)) ≤ b + length s
part_in b q n s = omega (arith, length-take n (drop q s), length-drop q s)

-- ---- a field that was found in s

-- what is said of bytes y that have the place p: they stand there in m, and end where s ends at the latest
pub record Placed (m s : List ℕ) (b p : ℕ) (y : List ℕ) : Type 0 where
  pub there : take (length y) (drop p m) ≡ y
  pub inside : p + length y ≤ b + length s

module _ (b k : ℕ) (m s : List ℕ) (h : Stands b k m s) where
  nothing : Placed m s b 0 []
  nothing = record { there = refl; inside = omega arith }

  part_placed : (q n : ℕ) → Placed m s b (b + within s q) (take n (drop q s))
  part_placed q n = record { there = part_stands b k q n m s h; inside = part_in b q n s }

  xid_placed : (p : ℕ) → Placed m s b (xid_place b s p) (data_of (field_at xid s p))
  unfolding xid_place field_at xid_at
  xid_placed p = go (eqb (number_at 8 s p) 0)
    where
      go : (t : Bool) → Placed m s b (cond t 0 (b + within s (p + 24)))
          (data_of (cond t null (branch (number_at 8 s p) (number_at 8 s (p + 8)) (number_at 8 s (p + 8 + 8)) (take (number_at 8 s (p + 8) + number_at 8 s (p + 8 + 8)) (drop (p + 8 + 8 + 8) s)))))
      go true = nothing
      go false = let z : p + 24 ≡ p + 8 + 8 + 8 = omega arith in rw z (part_placed (p + 8 + 8 + 8) (number_at 8 s (p + 8) + number_at 8 s (p + 8 + 8)))

  pub field-placed : (f : Option Found) → Placed m s b (place_in b f s) (content_bytes (content_at f s))
  field-placed None = nothing
  field-placed (Some (Bytes p n)) = part_placed p n
  field-placed (Some (Number n)) = nothing
  field-placed (Some (Xid p)) = xid_placed p
  field-placed (Some (Listed e p)) = nothing

-- ---- a field of an element

-- bytes at the end of s are its last ones, as many as they are
last_bytes : (j : ℕ) (s x : List ℕ) → x ≡ drop j s → x ≡ drop (length s - length x) s
last_bytes j s x e = go (dec_le j (length s))
  where
    l : length x ≡ length s - j
    l = ap length e ∙ length-drop j s

    go : Dec (j ≤ length s) → x ≡ drop (length s - length x) s
    go (yes h) = let z : j ≡ length s - length x = omega (arith, l) in e ∙ ap (λ (q : ℕ). drop q s) z
    go (no h) = e ∙ drop_of_length-le s {i = j} (omega arith) ∙ sym (drop_of_length-le s {i = length s - length x} (omega (arith, l)))

element_last : (e : Element) (p n : ℕ) (s : List ℕ) → element_at e p n s ≡ drop (length s - length (element_at e p n s)) s
element_last e p n s =
    let x : List ℕ = element_at e p n s in
    let t : List ℕ = drop (p + 8) s in
    last_bytes (p + 8 + (length t - length x)) s x (sym (from_last n (items_of e) t).1 ∙ drop-drop (length t - length x) (p + 8) s)

module _ (k : ℕ) (m s : List ℕ) (h : Stands header_size k m s) where
  list-placed : (e : Element) (p n r : ℕ) → Placed m s header_size (list_place e p n r s) (of_listed [] content_bytes e p n r s)
  unfolding list_place of_listed
  list-placed e p n r = go (ltb n (number_at 8 s p))
    where
      x : List ℕ
      x = element_at e p n s

      o : ℕ
      o = length s - length x

      from : x ≡ drop o s
      from = element_last e p n s

      stands : Stands (header_size + o) (k - o) m x
      stands = from ∙ ap (drop o) h ∙ drop-take o k (drop header_size m) ∙ ap (take (k - o)) (drop-drop o header_size m)

      f : Option Found
      f = field_in r (source.Element e) x

      go : (t : Bool) → Placed m s header_size (cond t (place_in (header_size + o) f x) 0) (cond t (content_bytes (content_at f x)) [])
      go true =
          let d : Placed m x (header_size + o) (place_in (header_size + o) f x) (content_bytes (content_at f x)) = field-placed (header_size + o) (k - o) m x stands f in
          record { there = d.there; inside = omega (arith, d.inside, ap length from, length-drop o s) }
      go false = nothing header_size k m s h

  pub element_placed : (f : Option Found) (n r : ℕ) → Placed m s header_size (place_at f n r s) (of_found [] content_bytes f n r s)
  element_placed None n r = nothing header_size k m s h
  element_placed (Some (Bytes p j)) n r = nothing header_size k m s h
  element_placed (Some (Number j)) n r = nothing header_size k m s h
  element_placed (Some (Xid p)) n r = nothing header_size k m s h
  element_placed (Some (Listed e p)) n r = list-placed e p n r

-- ---- the parts of a message

-- the n bytes at p are y, and lie in m
pub record Holds (m : List ℕ) (p n : ℕ) (y : List ℕ) : Type 0 where
  pub there : take n (drop p m) ≡ y
  pub inside : p + n ≤ length m

none : (m : List ℕ) → Holds m 0 0 []
none m = record { there = refl; inside = omega arith }

-- of an accepted message: its payload lies in it
payload_inside : (v : ℕ) (m : List ℕ) (t u : ℕ) → reading v m ≡ Ok (accepted t u) → header_size + length (payload_in m) ≤ length m
payload_inside v m t u h =
    let p : Passed v m t u = accepted_passed v m t u h in
    omega (arith, p.whole, length-take (size_in m) (drop header_size m))

held : (v : ℕ) (m : List ℕ) (t u : ℕ) → reading v m ≡ Ok (accepted t u) → (p : ℕ) (y : List ℕ) → Placed m (payload_in m) header_size p y → Holds m p (length y) y
held v m t u h p y d = record { there = d.there; inside = omega (arith, d.inside, payload_inside v m t u h) }

module _ (v : ℕ) (m : List ℕ) where
  pub correlation_there : Holds m (correlation_place (reading v m)) (correlation_size (reading v m)) (correlation_part (reading v m) m)
  correlation_there = go (reading v m) refl
    where
      go : (r : Reading) → reading v m ≡ r → Holds m (correlation_place r) (correlation_size r) (correlation_part r m)
      go (Ok x) h = record { there = refl; inside = omega (arith, (accepted_passed v m x.kind x.used h).whole_header) }
      go (Err e) h = none m

  pub part_there : (r : ℕ) → Holds m (part_place (reading v m) r m) (part_size (reading v m) r m) (part_of (reading v m) r m)
  part_there r = go (reading v m) refl
    where
      go : (a : Reading) → reading v m ≡ a → Holds m (part_place a r m) (part_size a r m) (part_of a r m)
      go (Ok x) h =
          let f : Option Found = field_in r (source.Message x.kind) (payload_in m) in
          held v m x.kind x.used h (place_in header_size f (payload_in m)) (content_bytes (content_at f (payload_in m))) (field-placed header_size (size_in m) m (payload_in m) refl f)
      go (Err e) h = none m

  pub element_there : (l n r : ℕ) → Holds m (element_place (reading v m) l n r m) (element_size (reading v m) l n r m) (element_part (reading v m) l n r m)
  element_there l n r = go (reading v m) refl
    where
      go : (a : Reading) → reading v m ≡ a → Holds m (element_place a l n r m) (element_size a l n r m) (element_part a l n r m)
      go (Ok x) h =
          let f : Option Found = list_in l x.kind m in
          held v m x.kind x.used h (place_at f n r (payload_in m)) (of_found [] content_bytes f n r (payload_in m)) (element_placed (size_in m) m (payload_in m) refl f n r)
      go (Err e) h = none m
