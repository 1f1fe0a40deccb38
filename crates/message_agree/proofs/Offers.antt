-- The versions that an accepted message offers are the elements of its list of versions; only a 7200 has one.
use Prim.Native.Nat.{ℕ, zero, suc, ◌+◌, ◌≤◌}
use mathlib.Core.Path.{◌≡◌, refl, sym, ap, ◌∙◌}
use mathlib.Core.Bool.{Bool, true, false, cond, ◌&&◌, true≢false}
use mathlib.Core.List.{List, [], ◌∷◌}
use lib.ListN.{length}
use lib.Dec.{eqb}
use native.Mathlib.Decide.{ℕ_discrete}
use borrow.Author.Tests.{eq-eqb, ne_eqb, le-leb}
use Rattle.wire.specs.Numbers.{number_at}
use Rattle.wire.specs.Values.{FieldVals}
use Rattle.wire.specs.Decoding.{item_at, items_at, elements_at, field_at, after_item, after_items}
use Rattle.wire.specs.Reading.{Outcome, read_elements, read_field, read_fields}
use Rattle.std.specs.Prelude.{Option, None, Ok, Err}
use Rattle.wire.proofs.Parts.{both}
use Rattle.wire.proofs.Ends.{first_element}
use Rattle.message_layout.specs.Roles.{ProtocolVersions, Offered}
use Rattle.message_layout.specs.Table.{items_of, list, Entered, execution, domain_id, domain_name, Row, table, entries_in, entries_of, field_of, fields_of, layout}
use Rattle.message_layout.specs.Message.{Message}
use Rattle.message_layout.specs.declared.Element.TheVariants.{Version}
use Rattle.message_fields.specs.Contents.{lacking}
use Rattle.message_fields.specs.Fields.{found, sought, content_at}
use Rattle.message_fields.specs.declared.Found.{Found}
use Rattle.message_choice.specs.Choice.{numbers_at, offers_at}
use Rattle.message_agree.specs.Contents.{content_of, content_in, as_fields, element_content, element_numbers, content_offers, offers_of}
use Rattle.message_agree.proofs.Found.{Stands}
use Rattle.message_agree.proofs.Listed.{list_read}

-- ---- no type but 7200 has a list of versions

-- no field has the role
abbrev lacks : ℕ → List Entered → Bool
lacks r [] = true
lacks r (e ∷ es) = cond (eqb r e.role) false (lacks r es)

-- a field without it is passed by
passed_by : {A : Type 0} (b x : Bool) (f g d : A) → cond b false x ≡ true → (x ≡ true → g ≡ d) → cond b f g ≡ d
passed_by true x f g d h k = absurd (true≢false (sym h))
passed_by false x f g d h k = k h

-- then nothing is found by it, and the values hold nothing under it
lacks_found : (r : ℕ) (es : List Entered) (s : List ℕ) (o : Outcome) → lacks r es ≡ true → sought r es s o ≡ None
unfolding sought
lacks_found r [] s o h = refl
lacks_found r (e ∷ es) s o h = passed_by (eqb r e.role) (lacks r es) _ _ _ h (lacks_found r es s (read_field (field_of e.kind) s o))

lacks_content : (r : ℕ) (es : List Entered) (w : FieldVals (fields_of es)) → lacks r es ≡ true → content_of r es w ≡ lacking
unfolding content_of
lacks_content r [] w h = refl
lacks_content r (e ∷ es) w h = passed_by (eqb r e.role) (lacks r es) _ _ _ h (lacks_content r es w.1)

-- a test over the table: every row but that of type t lacks the role; then so does every other type
abbrev all_lack : ℕ → ℕ → List Row → Bool
all_lack t r [] = true
all_lack t r (x ∷ xs) = cond (eqb t x.message) true (lacks r x.entries) && all_lack t r xs

others_lack : (t r u : ℕ) → (u ≡ t → ⊥) → (rs : List Row) → all_lack t r rs ≡ true → lacks r (entries_in rs u) ≡ true
others_lack t r u n [] h = refl
others_lack t r u n (x ∷ xs) h =
    let k = both (cond (eqb t x.message) true (lacks r x.entries)) (all_lack t r xs) h in
    go (ℕ_discrete u x.message) k.0 (others_lack t r u n xs k.1)
  where
    go : Dec (u ≡ x.message) → cond (eqb t x.message) true (lacks r x.entries) ≡ true → lacks r (entries_in xs u) ≡ true
        → lacks r (entries_in (x ∷ xs) u) ≡ true
    go (yes e) k l = rw (eq-eqb u x.message e) (rw (ne_eqb t x.message (λ i. n (e ∙ sym i))) at k)
    go (no e) k l = rw (ne_eqb u x.message e) l

only_7200 : (t : ℕ) → (t ≡ 7200 → ⊥) → lacks ProtocolVersions (entries_of t) ≡ true
unfolding entries_of
only_7200 t n = others_lack 7200 ProtocolVersions t n table refl

-- ---- the offers of a list of versions are its elements

-- one after another
elements_offered : (c : ℕ) (s : List ℕ) (p e : ℕ) → read_elements c (items_of Version) s (Ok p) ≡ Ok e → p ≤ length s
    → numbers_at c s p ≡ element_numbers Offered Version (elements_at c (items_of Version) s p)
unfolding read_elements numbers_at elements_at element_numbers element_content content_of as_fields items_of items_at item_at after_items after_item
elements_offered zero s p e h l = refl
elements_offered (suc c) s p e h l =
    let k = first_element s c (items_of Version) p e h l in
    rw (le-leb (p + 8) (length s) k.1) (ap (λ (ns : List ℕ). number_at 8 s p ∷ ns) (elements_offered c s (p + 8) e k.2 k.1))

-- a field that was found has the offers that its content has
abbrev Offered-by : List ℕ → Option Found → Type 0
Offered-by s f = Stands s f → offers_at f s ≡ content_offers (content_at f s)

versions_offered : (s : List ℕ) (o : Outcome) → Offered-by s (found (list Version) s o)
unfolding field_at
versions_offered s (Ok p) a =
    let b = list_read Version s p a in
    elements_offered (number_at 8 s p) s (p + 8) b.0.0 b.0.1 b.1
versions_offered s (Err e) a = refl

offers_7200 : (s : List ℕ) (o : Outcome) → Offered-by s (sought ProtocolVersions (entries_of 7200) s o)
unfolding entries_of sought read_fields
offers_7200 s o = versions_offered s (read_fields (fields_of (execution ∷ domain_id ∷ domain_name ∷ [])) s o)

pub offers_content : (t : ℕ) (s : List ℕ) (o : Outcome) → Offered-by s (sought ProtocolVersions (entries_of t) s o)
offers_content t s o = go (ℕ_discrete t 7200)
  where
    go : Dec (t ≡ 7200) → Offered-by s (sought ProtocolVersions (entries_of t) s o)
    go (yes e) = rw e (offers_7200 s o)
    go (no n) = rw (lacks_found ProtocolVersions (entries_of t) s o (only_7200 t n)) (λ a. refl)

-- ---- no other type has offers

pub no_offers : (x : Message) → (x.kind ≡ 7200 → ⊥) → offers_of x ≡ []
unfolding content_in layout
no_offers x n = ap content_offers (lacks_content ProtocolVersions (entries_of x.kind) x.values (only_7200 x.kind n))
