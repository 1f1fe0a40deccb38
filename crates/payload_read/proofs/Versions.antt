-- Versions are not judged: where passing over n of c at p stops follows from how many fit.
use Prim.Native.Nat.{ℕ, zero, suc, ◌+◌, ◌-◌, ◌*◌, ◌/◌, ◌≤◌, ◌<◌}
use native.Mathlib.Omega.{arith}
use mathlib.Core.Path.{◌≡◌, sym, ap, ◌∙◌}
use mathlib.Core.List.{List}
use lib.ListN.{length}
use Rattle.std.specs.Prelude.{Ok, Err}
use Rattle.wire.specs.Numbers.{Bytes, number_at}
use Rattle.wire.specs.Reading.{read_number, read_item}
use Rattle.wire.specs.declared.Width.TheVariants.{U64}
use Rattle.wire.proofs.Bytes.{number_below}
use Rattle.wire.proofs.Parts.{room_fits, room-short, any_allowed}
use Rattle.message_layout.specs.Table.{items_of}
use Rattle.message_layout.specs.declared.Element.TheVariants.{Version}
use Rattle.payload_read.specs.declared.Shape.TheVariants as shape
use Rattle.payload_read.specs.Stops.{Passed, at_field, of_element, stop_item, stop_items, stop_elements}

-- n of c are left at p
abbrev left : ℕ → ℕ → ℕ → Passed
left c n p = Err (of_element Version c n (at_field 0 (shape.Number U64) p))

module _ (s : List ℕ) (b : Bytes s) where
  one_fits : (p : ℕ) → p + 8 ≤ length s → stop_items 0 (items_of Version) s (Ok p) ≡ Ok (p + 8)
  unfolding items_of stop_items stop_item read_item read_number
  one_fits p h = rw (room_fits 8 s p p h, any_allowed (number_at 8 s p) (number_below 8 s p b))

  one_past : (p : ℕ) → length s < p + 8 → stop_items 0 (items_of Version) s (Ok p) ≡ Err (at_field 0 (shape.Number U64) p)
  unfolding items_of stop_items stop_item read_item read_number
  one_past p h = rw (room-short 8 s p p h)

  fit : (c n p : ℕ) → n * 8 ≤ length s - p → stop_elements Version c n s p ≡ Ok (p + n * 8)
  unfolding stop_elements
  fit c zero p h = let z : p ≡ p + 0 * 8 = omega arith in ap (λ (k : ℕ). Ok k) z
  fit c (suc n) p h =
      let z : p + 8 + n * 8 ≡ p + suc n * 8 = omega arith in
      rw (one_fits p (omega arith)) (fit c n (p + 8) (omega arith) ∙ ap (λ (k : ℕ). Ok k) z)

  past : (c k n p : ℕ) → k * 8 ≤ length s - p → length s < p + k * 8 + 8 → k < n → stop_elements Version c n s p ≡ left c (n - k) (p + k * 8)
  unfolding stop_elements
  past c k zero p h l m = absurd (omega arith)
  past c zero (suc n) p h l m =
      let z : p ≡ p + 0 * 8 = omega arith in
      let y : suc n ≡ suc n - 0 = omega arith in
      rw (one_past p (omega arith)) (ap (left c (suc n)) z ∙ ap (λ (t : ℕ). left c t (p + 0 * 8)) y)
  past c (suc k) (suc n) p h l m =
      let z : p + 8 + k * 8 ≡ p + suc k * 8 = omega arith in
      let y : n - k ≡ suc n - suc k = omega arith in
      rw (one_fits p (omega arith))
      (past c k n (p + 8) (omega arith) (omega arith) (omega arith) ∙ ap (left c (n - k)) z ∙ ap (λ (t : ℕ). left c t (p + suc k * 8)) y)

  -- the answers of `versions` to n of c at p
  module _ (c n p w : ℕ) (fits : w ≡ (length s - p) / 8) where
    pub versions_all : n ≤ w → Ok (p + n * 8) ≡ stop_elements Version c n s p
    versions_all h = sym (fit c n p (omega arith))

    pub versions_some : w < n → left c (n - w) (p + w * 8) ≡ stop_elements Version c n s p
    versions_some h = sym (past c w n p (omega arith) (omega arith) h)
