-- Going along a list, place by place: w says that f of what is left from place k on is r. Once for every loop over a row of the table.
use Prim.Native.Nat.{ℕ, suc, ◌+◌, ◌≤◌, ◌<◌}
use native.Mathlib.Omega.{arith}
use mathlib.Core.Path.{◌≡◌, sym, ap, ◌∙◌}
use mathlib.Core.List.{List, [], ◌∷◌}
use lib.ListN.{length, drop, get_or, drop_of_length-le}
use lib.Seq.{drop-cons}

module _ {A B : Type 0} (f : List A → B) (xs : List A) (k : ℕ) (r : B) (w : f (drop k xs) ≡ r) where
  -- behind the last place
  pub past_all : length xs ≤ k → f [] ≡ r
  past_all h = ap f (sym (drop_of_length-le xs {i = k} h)) ∙ w

  -- at a place that holds x
  pub at_place : (d : A) → k < length xs → (x : A) → get_or xs k d ≡ x → f (x ∷ drop (k + 1) xs) ≡ r
  at_place d inside x h =
      let z : k + 1 ≡ suc k = omega arith in
      let here : drop k xs ≡ x ∷ drop (k + 1) xs = rw (← h, z) (drop-cons xs k d inside) in
      ap f (sym here) ∙ w
