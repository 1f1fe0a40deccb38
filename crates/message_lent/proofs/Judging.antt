-- Laws of the tests on what is lent.
use Prim.Native.Nat.{ℕ, ◌+◌, ◌*◌, ◌-◌, ◌/◌, ◌%◌, ◌≤◌, ◌<◌}
use native.Mathlib.Numerals.{add-one}
use native.Mathlib.Decide.{ℕ_discrete}
use native.Mathlib.Omega.{arith}
use mathlib.Core.Path.{◌≡◌, sym, ◌∙◌}
use mathlib.Core.Bool.{false}
use mathlib.Core.List.{List}
use lib.ListN.{length, drop, get_or, drop_of_length-le}
use lib.Seq.{drop-cons}
use lib.Dec.{eqb}
use borrow.Author.Tests.{eq-eqb, ne_eqb}
use Rattle.wire.specs.declared.Item.TheVariants.{Raw}
use Rattle.message_lent.specs.Lent.{sum, column_agrees}

-- two tests of numbers that say the same are the same
pub same_test : (a b c d : ℕ) → (a ≡ b → c ≡ d) → (c ≡ d → a ≡ b) → eqb a b ≡ eqb c d
same_test a b c d f g = go (ℕ_discrete a b)
  where
    go : Dec (a ≡ b) → eqb a b ≡ eqb c d
    go (yes e) = eq-eqb a b e ∙ sym (eq-eqb c d (f e))
    go (no e) = ne_eqb a b e ∙ sym (ne_eqb c d (λ z. e (g z)))

-- ---- sums

sum-at : (l : List ℕ) (i : ℕ) → i < length l → sum (drop i l) ≡ get_or l i 0 + sum (drop (i + 1) l)
unfolding sum
sum-at l i h = rw (drop-cons l i 0 h, add-one)

pub sum_over : (l : List ℕ) (i left m : ℕ) → eqb (sum (drop i l)) left ≡ eqb (sum l) m → i < length l → left < get_or l i 0 → false ≡ eqb (sum l) m
sum_over l i left m inv h k =
    let e = sum-at l i h in
    sym (ne_eqb (sum (drop i l)) left (λ f. omega arith)) ∙ inv

pub sum_less : (l : List ℕ) (i left m : ℕ) → eqb (sum (drop i l)) left ≡ eqb (sum l) m → i < length l → get_or l i 0 ≤ left
    → eqb (sum (drop (i + 1) l)) (left - get_or l i 0) ≡ eqb (sum l) m
sum_less l i left m inv h k =
    let e = sum-at l i h in
    same_test (sum (drop (i + 1) l)) (left - get_or l i 0) (sum (drop i l)) left (λ z. omega arith) (λ z. omega arith) ∙ inv

pub sum_all : (l : List ℕ) (i left m : ℕ) → eqb (sum (drop i l)) left ≡ eqb (sum l) m → length l ≤ i → eqb left 0 ≡ eqb (sum l) m
unfolding sum
sum_all l i left m inv h =
    same_test left 0 0 left sym sym ∙ (rw (drop_of_length-le l {i = i} h) at inv)

-- ---- a run of ids

pub run_odd : (run : List ℕ) (n : ℕ) → (length run % 16 ≡ 0 → ⊥) → false ≡ column_agrees n (Raw 16) run
unfolding column_agrees
run_odd run n h = sym (ne_eqb (length run) (16 * n) (λ z. h (omega arith)))

pub run_whole : (run : List ℕ) (n : ℕ) → length run % 16 ≡ 0 → eqb (length run / 16) n ≡ column_agrees n (Raw 16) run
unfolding column_agrees
run_whole run n h = same_test (length run / 16) n (length run) (16 * n) (λ z. omega arith) (λ z. omega arith)
