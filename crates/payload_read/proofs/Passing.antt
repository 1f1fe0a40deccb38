-- Passing over the elements of a list, one after the other.
use Prim.Native.Nat.{ℕ, suc, ◌+◌, ◌-◌, ◌≤◌, ◌<◌}
use native.Mathlib.Omega.{arith}
use mathlib.Core.Path.{◌≡◌}
use mathlib.Core.List.{List}
use Rattle.std.specs.Prelude.{Ok, Err}
use Rattle.message_layout.specs.Table.{items_of}
use Rattle.message_layout.specs.declared.Element.{Element}
use Rattle.payload_read.specs.declared.Stop.{Stop}
use Rattle.payload_read.specs.Stops.{Passed, stop_items, of_element, in_element, stop_elements}

-- along says that passing stops from place p on, where i of n are passed, as from the first
module _ (e : Element) (n i : ℕ) (s : List ℕ) (p : ℕ) (w : Passed) (along : stop_elements e n (n - i) s p ≡ w) where
  pub passed_all : n ≤ i → Ok p ≡ w
  unfolding stop_elements
  passed_all h = let z : n - i ≡ 0 = omega arith in rw z at along

  module _ (more : i < n) (q : Passed) (next : q ≡ stop_items 0 (items_of e) s (Ok p)) where
    first : in_element e n (n - i) q (stop_elements e n (n - (i + 1)) s) ≡ w
    unfolding stop_elements
    first =
        let z : n - i ≡ suc (n - (i + 1)) = omega arith in
        let y : stop_elements e n (suc (n - (i + 1))) s p ≡ w = rw z at along in
        rw next (rw (← z) at y)

    pub passed-one : (x : ℕ) → q ≡ Ok x → stop_elements e n (n - (i + 1)) s x ≡ w
    passed-one x h = rw h at first

    pub stopped : (x : Stop) → q ≡ Err x → Err (of_element e n (n - i) x) ≡ w
    stopped x h = rw h at first
