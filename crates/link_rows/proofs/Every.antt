-- A loop that takes a test of each element together with what it has.
use Prim.Native.Nat.{ℕ, suc, ◌<◌, ◌≤◌, ◌+◌}
use mathlib.Core.Path.{◌≡◌, ◌∙◌, sym}
use mathlib.Core.Bool.{Bool, not, ◌&&◌, ◌||◌, and_assoc, and-true}
use mathlib.Core.List.{List}
use native.Mathlib.Numerals.{add-one}
use lib.ListN.{length, drop, get_or, drop_of_length-le}
use lib.Seq.{drop-cons}
use lib.Dec.{eqb}
use Rattle.link_rows.specs.Rules.{every, distinct}

module _ {A : Type 0} (f : A → Bool) (l : List A) (ok : Bool) (i : ℕ) where
  pub every_more : (d : A) → every f l ≡ (ok && every f (drop i l)) → i < length l → every f l ≡ ((ok && f (get_or l i d)) && every f (drop (i + 1) l))
  unfolding every
  every_more d e h = e ∙ rw (add-one, drop-cons l i d) (sym (and_assoc ok (f (get_or l i d)) (every f (drop (suc i) l))))

  pub every_end : every f l ≡ (ok && every f (drop i l)) → length l ≤ i → ok ≡ every f l
  unfolding every
  every_end e h = sym (e ∙ rw (drop_of_length-le l h) (and-true ok))

module _ (l : List ℕ) (ok : Bool) (i : ℕ) where
  pub distinct_more : distinct l ≡ (ok && distinct (drop i l)) → i < length l → distinct l ≡ ((ok && (eqb (get_or l i 0) 0 || every (λ y. not (eqb y (get_or l i 0))) (drop (i + 1) l))) && distinct (drop (i + 1) l))
  unfolding distinct
  distinct_more e h = e ∙ rw (add-one, drop-cons l i 0) (sym (and_assoc ok (eqb (get_or l i 0) 0 || every (λ y. not (eqb y (get_or l i 0))) (drop (suc i) l)) (distinct (drop (suc i) l))))

  pub distinct_end : distinct l ≡ (ok && distinct (drop i l)) → length l ≤ i → ok ≡ distinct l
  unfolding distinct
  distinct_end e h = sym (e ∙ rw (drop_of_length-le l h) (and-true ok))
