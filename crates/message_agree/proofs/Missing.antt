-- 49 and 50 are given exactly where the message has no such element or field. Of the number beside bytes, `content_reply` says it by its definition.
use Prim.Native.Nat.{ℕ, zero, suc}
use mathlib.Core.Path.{◌≡◌, refl}
use mathlib.Core.Bool.{Bool, false, cond}
use mathlib.Core.List.{List, [], ◌∷◌}
use lib.ListN.{length}
use lib.Dec.{ltb}
use Rattle.std.specs.Prelude.{Err}
use Rattle.wire.specs.Replies.{number}
use Rattle.wire.specs.declared.Fault.TheVariants.{NoField, NoElement}
use Rattle.wire.specs.declared.values.XidNumber.{XidNumber}
use Rattle.message_fields.specs.Contents.{Content, lacking, bytes, numeral, xid, list, has_bytes, has_number, is_xid, is_list, element_count, content_reply, no_element, content_number, content_xid, content_count}
use Rattle.message_fields.specs.Fields.{value_number}
use Rattle.message_agree.specs.Contents.{element_content, of_element, content_element}
use Rattle.message_agree.proofs.Below.{below_none, below_first, below_suc}

-- ---- 50: no number, no xid

pub number_exact : (c : Content) → value_number (content_number c) ≡ cond (has_number c) 0 (number NoField)
number_exact lacking = refl
number_exact (bytes b) = refl
number_exact (numeral n) = refl
number_exact (xid x) = refl
number_exact (list e vs) = refl

pub xid_exact : (x : XidNumber) (c : Content) → value_number (content_xid x c) ≡ cond (is_xid c) 0 (number NoField)
xid_exact x lacking = refl
xid_exact x (bytes b) = refl
xid_exact x (numeral n) = refl
xid_exact x (xid y) = refl
xid_exact x (list e vs) = refl

-- ---- 49: no list, no such element

pub count_exact : (c : Content) → value_number (content_count c) ≡ cond (is_list c) 0 (number NoElement)
count_exact lacking = refl
count_exact (bytes b) = refl
count_exact (numeral n) = refl
count_exact (xid x) = refl
count_exact (list e vs) = refl

-- for an answer f of a content whose number k f is 0 or 50 by a test g, and an answer d whose number is 49
module _ {B : Type 0} (d : B) (f : Content → B) (k : B → ℕ) (g : Content → Bool) where
  abbrev Exact : Type 0
  Exact = (k d ≡ number NoElement) × ((c : Content) → k (f c) ≡ cond (g c) 0 (number NoField))

  -- element n of a list, h giving the content that is asked for
  of_element_lem : Exact → {A : Type 0} (h : A → Content) (n : ℕ) (l : List A)
      → k (of_element d (λ x. f (h x)) n l) ≡ cond (ltb n (length l)) (cond (of_element false (λ x. g (h x)) n l) 0 (number NoField)) (number NoElement)
  unfolding of_element
  of_element_lem a h n [] = rw (below_none n) a.0
  of_element_lem a h zero (x ∷ xs) = rw (below_first (length xs)) (a.1 (h x))
  of_element_lem a h (suc n) (x ∷ xs) = rw (below_suc n (length xs)) (of_element_lem a h n xs)

  element_exact : Exact → (n r : ℕ) (c : Content)
      → k (content_element d f n r c) ≡ cond (ltb n (element_count c)) (cond (content_element false g n r c) 0 (number NoField)) (number NoElement)
  element_exact a n r lacking = rw (below_none n) a.0
  element_exact a n r (bytes b) = rw (below_none n) a.0
  element_exact a n r (numeral m) = rw (below_none n) a.0
  element_exact a n r (xid x) = rw (below_none n) a.0
  element_exact a n r (list e vs) = of_element_lem a (element_content r e) n vs

pub element_reply_exact : (n r : ℕ) (c : Content)
    → content_element (number NoElement) content_reply n r c ≡ cond (ltb n (element_count c)) (cond (content_element false has_bytes n r c) 0 (number NoField)) (number NoElement)
element_reply_exact = element_exact (number NoElement) content_reply (λ k. k) has_bytes ((refl, λ c. refl))

pub element_number_exact : (n r : ℕ) (c : Content)
    → value_number (content_element (Err no_element) content_number n r c) ≡ cond (ltb n (element_count c)) (cond (content_element false has_number n r c) 0 (number NoField)) (number NoElement)
element_number_exact = element_exact (Err no_element) content_number value_number has_number ((refl, number_exact))
