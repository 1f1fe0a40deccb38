-- The layout is read exactly as its values say: wire's theorems of any layout, at this one.
use Prim.Native.Nat.{ℕ, ◌≤◌}
use native.Mathlib.Omega.{arith}
use mathlib.Core.Path.{◌≡◌, refl, sym, ap, ◌∙◌}
use mathlib.Core.Logic.{◌↔◌, ◌⊎◌, inl, inr}
use mathlib.Core.List.{List, [], ◌∷◌}
use lib.ListN.{length}
use Rattle.wire.specs.Numbers.{Bytes}
use Rattle.wire.specs.Values.{Vals, FieldVal, FieldValid}
use Rattle.wire.specs.Decoding.{decode}
use Rattle.wire.specs.Reading.{read_fields}
use Rattle.std.specs.Prelude.{Ok}
use Rattle.wire.proofs.Parts.{allowed_most}
use Rattle.wire.proofs.Ends.{end_accepted}
use Rattle.wire.proofs.RoundTrip.{valid_read, accepted_encoded}
use Rattle.message_layout.specs.Table.{items_of, field_of, optional}
use Rattle.message_layout.specs.declared.Element.{Element}
use Rattle.message_layout.specs.declared.Element.TheVariants.{Version}
use Rattle.layout_example.specs.Example.{example_fields, example_reading}
use Rattle.layout_example.specs.Exact.{ExampleValues, ExampleValid, example_bytes, part_of, ExampleExact}

-- a list of at most one element
at_most_one : {A : Type 0} (vs : List A) → length vs ≤ 1 → (vs ≡ []) ⊎ ((w : A) × (vs ≡ w ∷ []))
at_most_one [] h = inl refl
at_most_one (w ∷ []) h = inr (w, refl)
at_most_one (w ∷ x ∷ vs) h = absurd (omega arith)

-- of any part that follows a flag: its flag is at most 1, so it is nothing, or one element
pub nothing_or_one : (e : Element) (vs : FieldVal (field_of (optional e))) → FieldValid (field_of (optional e)) vs
    → (vs ≡ []) ⊎ ((w : Vals (items_of e)) × (vs ≡ w ∷ []))
nothing_or_one e vs h = at_most_one vs (allowed_most 1 (length vs) h.0.1)

accepted : (s : List ℕ) (e : ℕ) → Bytes s
    → (example_reading s ≡ Ok e) ↔ ((v : ExampleValues) × ExampleValid v × (s ≡ example_bytes v) × (e ≡ length s))
accepted s e b = (to, from)
  where
    to : example_reading s ≡ Ok e → (v : ExampleValues) × ExampleValid v × (s ≡ example_bytes v) × (e ≡ length s)
    to h =
        let k = accepted_encoded example_fields s e b h in
        (decode example_fields s 0, k.1, sym k.0, (end_accepted s (read_fields example_fields s (Ok 0)) e h).1)

    from : (v : ExampleValues) × ExampleValid v × (s ≡ example_bytes v) × (e ≡ length s) → example_reading s ≡ Ok e
    from k = ap example_reading k.2 ∙ (valid_read example_fields k.0 k.1).0 ∙ ap Ok (sym (k.3 ∙ ap length k.2))

pub example_exact : ExampleExact
example_exact =
    record {
      accepted = accepted;
      read_back = λ v h. (valid_read example_fields v h).1;
      written_back = λ s e b h. (accepted_encoded example_fields s e b h).0;
      part = λ v h. nothing_or_one Version (part_of v) h.1.0;
    }
