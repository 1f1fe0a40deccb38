-- Element i of a list that is lent as columns, once for every list: what a call gives for element i is what it gives for item i of each column.
use Prim.Native.Nat.{ℕ, zero, suc, ◌+◌, ◌*◌, ◌<◌}
use native.Mathlib.Nat.{mul-zero, mul-suc, add_comm}
use native.Mathlib.Omega.{arith}
use mathlib.Core.Path.{◌≡◌, refl, sym, ap, ◌∙◌}
use mathlib.Core.List.{List, [], ◌∷◌}
use lib.ListN.{take, drop, get_or}
use lib.Seq.{drop-drop, get_or-drop, take-nil}
use Rattle.wire.specs.Layout.{Items}
use Rattle.wire.specs.Values.{Val, Vals}
use Rattle.wire.specs.declared.Item.{Item}
use Rattle.wire.specs.declared.Item.TheVariants.{Raw, Num, Str}
use Rattle.message_lent.specs.Lent.{Column, Columns, first, rest, firsts, rests, rows, sum}
use Rattle.message_agree.specs.Contents.{of_element}
use Rattle.message_round_trip.specs.Back.{string_at}

-- item k of a column
abbrev pub item_lent : (i : Item) → Column i → ℕ → Val i
item_lent (Raw n) run k = take n (drop (n * k) run)
item_lent (Num w l) ns k = get_or ns k 0
item_lent Str c k = string_at c.0 c.1 k

-- element k of some columns
abbrev pub element_lent : (is : Items) → Columns is → ℕ → Vals is
element_lent [] cs k = tt
element_lent (i ∷ is) cs k = (item_lent i.kind cs.0 k, element_lent is cs.1 k)

item-first : (i : Item) (c : Column i) → first i c ≡ item_lent i c 0
unfolding first sum
item-first (Raw n) run = rw (mul-zero n) refl
item-first (Num w l) ns = refl
item-first Str c = refl

sum_first : (ns : List ℕ) (k : ℕ) → get_or ns 0 0 + sum (take k (drop 1 ns)) ≡ sum (take (suc k) ns)
unfolding sum
sum_first [] k = rw (take-nil {A = ℕ} k) refl
sum_first (n ∷ ns) k = refl

item-rest : (i : Item) (c : Column i) (k : ℕ) → item_lent i (rest i c) k ≡ item_lent i c (suc k)
unfolding rest
item-rest (Raw n) run k = ap (take n) (drop-drop (n * k) n run ∙ ap (λ (p : ℕ). drop p run) (add_comm n (n * k) ∙ sym (mul-suc n k)))
item-rest (Num w l) ns k = get_or-drop 1 ns k 0 ∙ ap (λ (p : ℕ). get_or ns p 0) (omega arith)
item-rest Str c k =
    let e : 1 + k ≡ suc k = omega arith in
    rw (get_or-drop 1 c.0 k 0, drop-drop (sum (take k (drop 1 c.0))) (get_or c.0 0 0) c.1, sum_first c.0 k, e) refl

element_first : (is : Items) (cs : Columns is) → firsts is cs ≡ element_lent is cs 0
unfolding firsts
element_first [] cs = refl
element_first (i ∷ is) cs = λ j. (item-first i.kind cs.0 j, element_first is cs.1 j)

element_rest : (is : Items) (cs : Columns is) (k : ℕ) → element_lent is (rests is cs) k ≡ element_lent is cs (suc k)
unfolding rests
element_rest [] cs k = refl
element_rest (i ∷ is) cs k = λ j. (item-rest i.kind cs.0 k j, element_rest is cs.1 k j)

pub of_rows : {B : Type 0} (d : B) (is : Items) (f : Vals is → B) (n : ℕ) (cs : Columns is) (k : ℕ) → k < n
    → of_element d f k (rows is n cs) ≡ f (element_lent is cs k)
unfolding of_element rows
of_rows d is f zero cs k h = absurd (omega arith)
of_rows d is f (suc n) cs zero h = ap f (element_first is cs)
of_rows d is f (suc n) cs (suc k) h = of_rows d is f n (rests is cs) k (omega arith) ∙ ap f (element_rest is cs k)
