-- Laws of stepping past elements, and of what the calls answer of them.
use Rattle.std.proofs.Common.{◌≡◌, ℕ, zero, suc, ◌+◌, ◌-◌, ◌≤◌, List, [], ◌∷◌, length, take, drop, refl, sym, ap, ◌∙◌, arith, Bool, true, false, cond, Option, Some, None, Result, Ok, Err}
use Rattle.std.proofs.lemmas.List.{drop_all, length-drop}
use lib.Seq.{drop-drop}
use native.Mathlib.Decide.{dec_le}
use Rattle.wire.specs.Numbers.{number_at}
use Rattle.wire.specs.Layout.{Items}
use Rattle.wire.specs.Decoding.{after_item, after_items, elements_at, field_at}
use Rattle.wire.specs.declared.Refused.{Refused}
use Rattle.wire.specs.declared.Item.{Item}
use Rattle.wire.specs.declared.Item.TheVariants.{Raw, Num, Str}
use Rattle.message_layout.specs.declared.Element.{Element}
use Rattle.message_layout.specs.declared.Element.TheVariants.{ServiceName, QueueName}
use mathlib.Core.Logic.{◌⊎◌, inl, inr}
use Rattle.message_layout.specs.Table.{items_of}
use lib.Dec.{ltb}
use Rattle.message_layout.specs.Message.{payload_in}
use Rattle.message_layout.specs.declared.Source.TheVariants as source
use Rattle.message_read.specs.Reading.{Reading}
use Rattle.message_fields.specs.Contents.{Content, content_part, content_number, content_count, no_element}
use Rattle.message_fields.specs.Fields.{within, field_in, content_at, content_from, sought_in}
use Rattle.message_fields.proofs.Within.{drop-within, after_within}
use Rattle.message_fields.specs.declared.Found.{Found}
use Rattle.message_fields.specs.declared.Found.TheVariants.{Bytes, Number, Xid, List as Listed}
use Rattle.message_lists.specs.Elements.{from_element, element_at, of_listed, of_found, element_sought, list_in, element_answer, element_value}

-- ---- places

-- an item takes no bytes back
after_grows : (i : Item) (s : List ℕ) (p : ℕ) → p ≤ after_item i s p
unfolding after_item
after_grows (Raw n) s p = omega arith
after_grows (Num w l) s p = omega arith
after_grows Str s p = omega arith

-- a place past the end stays past it
pub within-item : (i : Item) (s : List ℕ) (p : ℕ) → within s (after_item i s (within s p)) ≡ within s (after_item i s p)
within-item i s p = go (dec_le p (length s))
  where
    go : Dec (p ≤ length s) → within s (after_item i s (within s p)) ≡ within s (after_item i s p)
    go (yes h) = let z : within s p ≡ p = omega arith in ap (λ (q : ℕ). within s (after_item i s q)) z
    go (no h) =
        let a : within s p ≤ after_item i s (within s p) = after_grows i s (within s p) in
        let b : p ≤ after_item i s p = after_grows i s p in
        omega arith

-- one item after another, each from where the last one ended
module _ (s : List ℕ) (p q r : ℕ) (e : q ≡ within s p) where
  pub then_bytes : (n : ℕ) → r ≡ within s (q + n) → r ≡ within s (p + n)
  then_bytes n h = omega arith

  pub then_string : r ≡ within s (after_item Str s q) → r ≡ within s (after_item Str s p)
  then_string h = h ∙ ap (λ (k : ℕ). within s (after_item Str s k)) e ∙ within-item Str s p

-- an element that is a string
pub text_element : (x : Element) (s : List ℕ) (r : ℕ) → (x ≡ ServiceName) ⊎ (x ≡ QueueName) → r ≡ within s (after_item Str s 0) → r ≡ within s (after_items (items_of x) s 0)
unfolding items_of after_items
text_element x s r (inl e) h = rw e h
text_element x s r (inr e) h = rw e h

-- ---- from element n on

-- the bytes from an element on are the last bytes, as many as they are
pub from_last : (n : ℕ) (is : Items) (s : List ℕ) → (length (from_element n is s) ≤ length s) × (drop (length s - length (from_element n is s)) s ≡ from_element n is s)
unfolding from_element
from_last zero is s = (omega arith, let z : length s - length s ≡ 0 = omega arith in ap (λ (k : ℕ). drop k s) z)
from_last (suc n) is s =
    let p : ℕ = within s (after_items is s 0) in
    let d : drop p s ≡ drop (after_items is s 0) s = drop-within s (after_items is s 0) in
    rw (← d)
    (let r = from_last n is (drop p s) in
    let l : length (drop p s) ≡ length s - p = length-drop p s in
    let k : length (from_element n is (drop p s)) ≤ length (drop p s) = r.0 in
    let z : length s - length (from_element n is (drop p s)) ≡ p + (length (drop p s) - length (from_element n is (drop p s))) = omega arith in
    (omega arith, ap (λ (y : ℕ). drop y s) z ∙ sym (drop-drop (length (drop p s) - length (from_element n is (drop p s))) p s) ∙ r.1))

-- where no bytes are left there are none from any element on
from_none : (n : ℕ) (is : Items) → from_element n is [] ≡ []
unfolding from_element
from_none zero is = refl
from_none (suc n) is = rw (drop_all {X = ℕ} (after_items is [] 0) [] (omega arith)) (from_none n is)

-- no step
pub first-from : (n : ℕ) (is : Items) (s : List ℕ) → n ≡ 0 → s ≡ from_element n is s
unfolding from_element
first-from n is s h = rw h

-- no bytes are left
pub none-from : (n : ℕ) (is : Items) (s : List ℕ) → length s ≡ 0 → s ≡ from_element n is s
none-from n is [] h = sym (from_none n is)
none-from n is (x ∷ s) h = absurd (omega arith)

-- no bytes are left behind the last one
pub none-after : (s : List ℕ) (p : ℕ) → p ≡ length s → length (take (length s - p) (drop p s)) ≡ 0
none-after s p e = let z : length s - p ≡ 0 = omega arith in rw z refl

-- a step
pub next-from : (n : ℕ) (is : Items) (s : List ℕ) → (n ≡ 0 → ⊥) → (p : ℕ) → p ≡ within s (after_items is s 0)
    → from_element (n - 1) is (take (length s - p) (drop p s)) ≡ from_element n is s
unfolding from_element
next-from zero is s h p e = absurd (h refl)
next-from (suc n) is s h p e =
    let z : suc n - 1 ≡ n = omega arith in
    rw (after_within s (after_items is s 0) p e, z)

-- ---- the count of a list

-- a list has as many values as its count says
pub count_elements : (c : ℕ) (is : Items) (s : List ℕ) (p : ℕ) → length (elements_at c is s p) ≡ c
unfolding elements_at
count_elements zero is s p = refl
count_elements (suc c) is s p = ap suc (count_elements c is s (after_items is s p))

pub count_listed : (s : List ℕ) (f : Option Found) (e : Element) (p : ℕ) → f ≡ Some (Listed e p) → (n : ℕ) → n ≡ number_at 8 s p → Ok n ≡ content_count (content_at f s)
unfolding field_at
count_listed s f e p h n k = rw (h, k) (ap Ok (sym (count_elements (number_at 8 s p) (items_of e) s (p + 8))))

-- ---- a field of element n of what was found in s, from what the element holds

module _ {B : Type 0} (f : Content → Result B Refused) (n r : ℕ) (s : List ℕ) where
  pub element_none : (g : Option Found) (e : Refused) → Err e ≡ element_sought g n r s → Err e ≡ of_found (Err no_element) f g n r s
  unfolding of_listed
  element_none None e h = cc
  element_none (Some (Bytes p k)) e h = cc
  element_none (Some (Number k)) e h = cc
  element_none (Some (Xid p)) e h = cc
  element_none (Some (Listed d p)) e h = go (ltb n (number_at 8 s p)) h
    where
      go : (b : Bool) → ◌≡◌ {A = Result (List ℕ × Option Found) Refused} (Err e) (cond b (Ok (element_at d p n s, field_in r (source.Element d) (element_at d p n s))) (Err no_element))
          → Err e ≡ cond b (f (content_from r (source.Element d) (element_at d p n s))) (Err no_element)
      go true k = cc
      go false k = cc

  pub element_some : (g : Option Found) (x : List ℕ) (h : Option Found) → Ok (x, h) ≡ element_sought g n r s → f (content_at h x) ≡ of_found (Err no_element) f g n r s
  unfolding of_listed
  element_some None x h k = cc
  element_some (Some (Bytes p j)) x h k = cc
  element_some (Some (Number j)) x h k = cc
  element_some (Some (Xid p)) x h k = cc
  element_some (Some (Listed d p)) x h k = go (ltb n (number_at 8 s p)) k
    where
      go : (b : Bool) → ◌≡◌ {A = Result (List ℕ × Option Found) Refused} (Ok (x, h)) (cond b (Ok (element_at d p n s, field_in r (source.Element d) (element_at d p n s))) (Err no_element))
          → f (content_at h x) ≡ cond b (f (content_from r (source.Element d) (element_at d p n s))) (Err no_element)
      go true j = let e : ◌≡◌ {A = List ℕ × Option Found} (x, h) (element_at d p n s, field_in r (source.Element d) (element_at d p n s)) = cc in ap (λ (q : List ℕ × Option Found). f (content_at q.1 q.0)) e
      go false j = cc

-- what a call answers of a message that was read as a, in whose payload b g was found under the role l
module _ (m : List ℕ) (l n r : ℕ) (b : List ℕ) (g : Option Found) where
  pub part_from : (a : Reading) → Ok (b, g) ≡ sought_in a l m → of_found (Err no_element) content_part g n r b ≡ element_answer a l n r m
  part_from (Ok a) h =
      let e : ◌≡◌ {A = List ℕ × Option Found} (b, g) (payload_in m, list_in l a.kind m) = cc in
      ap (λ (q : List ℕ × Option Found). of_found (Err no_element) content_part q.1 n r q.0) e
  part_from (Err e) h = cc

  pub value_from : (a : Reading) → Ok (b, g) ≡ sought_in a l m → of_found (Err no_element) content_number g n r b ≡ element_value a l n r m
  value_from (Ok a) h =
      let e : ◌≡◌ {A = List ℕ × Option Found} (b, g) (payload_in m, list_in l a.kind m) = cc in
      ap (λ (q : List ℕ × Option Found). of_found (Err no_element) content_number q.1 n r q.0) e
  value_from (Err e) h = cc
