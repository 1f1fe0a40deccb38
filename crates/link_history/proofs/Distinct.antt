-- Rows with the same session are one row, or have none.
use mathlib.Core.Path.{◌≡◌, refl, sym, ap, ◌∙◌}
use mathlib.Core.Bool.{Bool, true, false, not, ◌||◌}
use mathlib.Core.List.{List, [], ◌∷◌, map}
use Prim.Native.Nat.{ℕ, zero, suc}
use native.Mathlib.Omega.{arith}
use borrow.Author.Tests.{eqb-true, eqb-false, eq-eqb, ne_eqb}
use lib.Dec.{eqb}
use lib.ListN.{get_or}
use Rattle.link_rows.specs.Rows.{fresh_row, row_at}
use Rattle.link_rows.specs.Rules.{every, distinct, session, Rules}
use Rattle.link_rows.specs.declared.Row.{Row}
use Rattle.link_rows.specs.declared.Endpoint.{Endpoint}
use Rattle.link_rows.proofs.Laws.{and_left, and_right, every-at, all_differ_lem}

-- a number that no element is
absent : (x : ℕ) (l : List ℕ) (q : ℕ) → (eqb x 0 || every (λ y. not (eqb y x)) l) ≡ true → get_or l q 0 ≡ x → x ≡ 0
absent x l q = go (eqb x 0) refl
  where
    go : (b : Bool) → eqb x 0 ≡ b → (b || every (λ y. not (eqb y x)) l) ≡ true → get_or l q 0 ≡ x → x ≡ 0
    go true t e k = eqb-true x 0 t
    go false t e k =
        let z : not (eqb 0 x) ≡ true = rw (ne_eqb 0 x (λ w. eqb-false x 0 t (sym w))) refl in
        let n : not (eqb (get_or l q 0) x) ≡ true = every-at (λ y. not (eqb y x)) l q 0 z e in
        let m : not true ≡ true = rw (eq-eqb (get_or l q 0) x k) at n in
        let w : ◌≡◌ {A = ℕ} 0 1 = cc in absurd (omega arith)

alone : (l : List ℕ) → distinct l ≡ true → (p q : ℕ) → (p ≡ q → ⊥) → get_or l p 0 ≡ get_or l q 0 → get_or l p 0 ≡ 0
unfolding distinct
alone [] d p q ne e = refl
alone (x ∷ l) d zero zero ne e = absurd (ne refl)
alone (x ∷ l) d zero (suc q) ne e = absent x l q (and_left (eqb x 0 || every (λ y. not (eqb y x)) l) (distinct l) d) (sym e)
alone (x ∷ l) d (suc p) zero ne e = e ∙ absent x l p (and_left (eqb x 0 || every (λ y. not (eqb y x)) l) (distinct l) d) e
alone (x ∷ l) d (suc p) (suc q) ne e = alone l (and_right (eqb x 0 || every (λ y. not (eqb y x)) l) (distinct l) d) p q (λ w. ne (ap suc w)) e

session-at : (l : List Row) (i : ℕ) → get_or (map session l) i 0 ≡ (get_or l i fresh_row).session
session-at [] i = refl
session-at (x ∷ l) zero = refl
session-at (x ∷ l) (suc i) = session-at l i

pub one-row : (e : Endpoint) → Rules e ≡ true → (p q : ℕ) → (p ≡ q → ⊥) → (row_at e p).session ≡ (row_at e q).session → (row_at e p).session ≡ 0
one-row e h p q ne k =
    sym (session-at e.rows p) ∙ alone (map session e.rows) (all_differ_lem e h) p q ne (session-at e.rows p ∙ k ∙ sym (session-at e.rows q))
