-- A field that is found by its role in accepted bytes holds what the values of those bytes hold under that role.
use Prim.Native.Nat.{ℕ, ◌+◌}
use native.Mathlib.Omega.{arith}
use mathlib.Core.Path.{◌≡◌, refl}
use mathlib.Core.Bool.{Bool, true, false, cond}
use mathlib.Core.List.{List, [], ◌∷◌}
use lib.Dec.{eqb}
use Rattle.wire.specs.Numbers.{number_at}
use Rattle.wire.specs.Decoding.{item_at, field_at, after_item, after_field, decode}
use Rattle.wire.specs.Reading.{read_field, read_fields}
use Rattle.wire.specs.declared.Item.TheVariants.{Raw, Num, Str}
use Rattle.std.specs.Prelude.{Option, None, Some, Ok}
use Rattle.wire.proofs.Ends.{Was, field_ends, first_field}
use Rattle.message_layout.specs.Table.{Entered, items_of, field_of, fields_of}
use Rattle.message_layout.specs.declared.Kind.{Kind}
use Rattle.message_layout.specs.declared.Kind.TheVariants as kind
use Rattle.message_fields.specs.Contents.{Content}
use Rattle.message_fields.specs.Fields.{within, found_at, sought, content_at}
use Rattle.message_fields.specs.declared.Found.{Found}
use Rattle.message_fields.specs.declared.Found.TheVariants.{Bytes, Number, Xid, List as Listed}
use Rattle.message_lists.proofs.Steps.{count_elements}
use Rattle.message_agree.specs.Contents.{valued, content_of}

-- ---- one field

-- a list that was found is accepted where it stands
abbrev pub Stands : List ℕ → Option Found → Type 0
Stands s None = Unit
Stands s (Some (Bytes p n)) = Unit
Stands s (Some (Number n)) = Unit
Stands s (Some (Xid p)) = Unit
Stands s (Some (Listed e p)) = Was (read_field (field_of (kind.List e)) s (Ok p))

-- what was found in s has this content, and stands
abbrev pub Agrees : List ℕ → Option Found → Content → Type 0
Agrees s f c = (content_at f s ≡ c) × Stands s f

-- what is found of a field that is accepted has the field's value, whatever its kind
field-agrees : (k : Kind) (s : List ℕ) (p : ℕ) → Was (read_field (field_of k) s (Ok p))
    → Agrees s (Some (found_at k s p)) (valued k (field_at (field_of k) s p))
unfolding field_at item_at after_field after_item
field-agrees (kind.One (Raw n)) s p a = (refl, tt)
field-agrees (kind.One (Num w l)) s p a = (refl, tt)
field-agrees (kind.One Str) s p a =
    let e = field_ends s (field_of (kind.One Str)) p a.0 a.1 in
    let z : within s (p + 8) ≡ p + 8 = omega arith in
    (rw z refl, tt)
field-agrees (kind.List e) s p a = (refl, a)
field-agrees (kind.Optional e) s p a = (rw (count_elements (number_at 1 s p) (items_of e) s (p + 1)) refl, tt)
field-agrees kind.Xid s p a = (refl, tt)

-- ---- some fields

-- one of two, by the same test
either : {A B : Type 0} (P : A → B → Type 0) (t : Bool) {f g : A} {c d : B} → P f c → P g d → P (cond t f g) (cond t c d)
either P true h k = h
either P false h k = k

-- where some fields are accepted, what is found by a role has the content that their values have under it
pub sought-agrees : (r : ℕ) (es : List Entered) (s : List ℕ) (p e : ℕ) → read_fields (fields_of es) s (Ok p) ≡ Ok e
    → Agrees s (sought r es s (Ok p)) (content_of r es (decode (fields_of es) s p))
unfolding read_fields sought content_of decode
sought-agrees r [] s p e h = (refl, tt)
sought-agrees r (x ∷ es) s p e h =
    let q : ℕ = after_field (field_of x.kind) s p in
    let k = first_field s (field_of x.kind) (fields_of es) p e h in
    either (Agrees s) (eqb r x.role) (field-agrees x.kind s p (q, k.0)) (rw k.0 (sought-agrees r es s q e k.2))
