-- Laws of the row rules: what holds of every row holds of the one at a number, and stays when rows change.
use mathlib.Core.Path.{◌≡◌, refl, sym, ◌∙◌}
use mathlib.Core.Bool.{Bool, true, false, not, cond, ◌&&◌, ◌||◌, or-false, false≢true}
use mathlib.Core.List.{List, [], ◌∷◌, map}
use Prim.Native.Nat.{ℕ, zero, suc, ◌+◌, ◌-◌, ◌<◌, ◌≤◌}
use native.Mathlib.Omega.{arith}
use borrow.Author.Tests.{leb-true, le-leb, ltb-true, lt-ltb, eqb-false, ne_eqb, not-true}
use lib.Dec.{leb, ltb, eqb}
use lib.ListN.{get_or, set}
use Rattle.link_rows.specs.Rows.{fresh_row, row_at, is_served, row_of}
use Rattle.link_rows.specs.Rules.{all_hold, every, distinct, session, rules, Rules, row_rules, row_keeps}
use Rattle.link_rows.proofs.Split.{rules_split}
use Rattle.link_rows.specs.declared.Row.{Row}
use Rattle.link_rows.specs.declared.Endpoint.{Endpoint}

pub and_left : (a b : Bool) → (a && b) ≡ true → a ≡ true
and_left true b e = refl
and_left false b e = e

pub and_right : (a b : Bool) → (a && b) ≡ true → b ≡ true
and_right true b e = e
and_right false b e = absurd (false≢true e)

pub and_both : (a b : Bool) → a ≡ true → b ≡ true → (a && b) ≡ true
and_both a b p q = rw (p, q) refl

-- the second of two tests, where the first holds
pub and_false : (a b : Bool) → (a && b) ≡ false → a ≡ true → b ≡ false
and_false true b e q = e
and_false false b e q = absurd (false≢true q)

-- the i-th test of a list that holds
pub all_at : (l : List Bool) (i : ℕ) → all_hold l ≡ true → get_or l i true ≡ true
all_at [] i e = refl
all_at (b ∷ l) zero e = and_left b (all_hold l) e
all_at (b ∷ l) (suc i) e = all_at l i (and_right b (all_hold l) e)

-- rule i of the endpoint
pub rule : (e : Endpoint) (i : ℕ) → Rules e ≡ true → get_or (rules e) i true ≡ true
unfolding Rules
rule e i h = all_at (rules e) i h

module _ {A : Type 0} where
  pub every-at : (f : A → Bool) (l : List A) (i : ℕ) (d : A) → f d ≡ true → every f l ≡ true → f (get_or l i d) ≡ true
  unfolding every
  every-at f [] i d h e = h
  every-at f (x ∷ l) zero d h e = and_left (f x) (every f l) e
  every-at f (x ∷ l) (suc i) d h e = every-at f l i d h (and_right (f x) (every f l) e)

  pub every_set : (f : A → Bool) (l : List A) (i : ℕ) (a : A) → f a ≡ true → every f l ≡ true → every f (set l i a) ≡ true
  unfolding every
  every_set f [] i a h e = refl
  every_set f (x ∷ l) zero a h e = and_both (f a) (every f l) h (and_right (f x) (every f l) e)
  every_set f (x ∷ l) (suc i) a h e = and_both (f x) (every f (set l i a)) (and_left (f x) (every f l) e) (every_set f l i a h (and_right (f x) (every f l) e))

  -- each element changes, and passes another test
  pub every_map : {B : Type 0} (f : A → Bool) (g : B → Bool) (m : A → B) → ((x : A) → f x ≡ true → g (m x) ≡ true) → (l : List A) → every f l ≡ true → every g (map m l) ≡ true
  unfolding every
  every_map f g m h [] e = refl
  every_map f g m h (x ∷ l) e = and_both (g (m x)) (every g (map m l)) (h x (and_left (f x) (every f l) e)) (every_map f g m h l (and_right (f x) (every f l) e))

  pub every_mono : (f g : A → Bool) → ((x : A) → f x ≡ true → g x ≡ true) → (l : List A) → every f l ≡ true → every g l ≡ true
  unfolding every
  every_mono f g h [] e = refl
  every_mono f g h (x ∷ l) e = and_both (g x) (every g l) (h x (and_left (f x) (every f l) e)) (every_mono f g h l (and_right (f x) (every f l) e))

-- a number above all others is none of them
pub absent_above : (last n : ℕ) → last < n → (l : List ℕ) → every (λ y. leb y last) l ≡ true → every (λ y. not (eqb y n)) l ≡ true
absent_above last n h = every_mono (λ y. leb y last) (λ y. not (eqb y n)) (λ y e. rw (ne_eqb y n (λ q. let k = leb-true y last e in omega arith)) refl)

other : (x n : ℕ) → not (eqb x n) ≡ true → not (eqb n x) ≡ true
other x n e = rw (ne_eqb n x (λ q. eqb-false x n (not-true _ e) (sym q))) refl

spread : (x n i : ℕ) (l : List ℕ) → not (eqb x n) ≡ true → (eqb x 0 || every (λ y. not (eqb y x)) l) ≡ true → (eqb x 0 || every (λ y. not (eqb y x)) (set l i n)) ≡ true
spread x n i l k = go (eqb x 0)
  where
    go : (b : Bool) → (b || every (λ y. not (eqb y x)) l) ≡ true → (b || every (λ y. not (eqb y x)) (set l i n)) ≡ true
    go true e = refl
    go false e = every_set (λ y. not (eqb y x)) l i n (other x n k) e

-- such a number may take a place
pub distinct-set : (l : List ℕ) (i n : ℕ) → every (λ y. not (eqb y n)) l ≡ true → distinct l ≡ true → distinct (set l i n) ≡ true
unfolding distinct every
distinct-set [] i n a d = refl
distinct-set (x ∷ l) zero n a d =
    and_both (eqb n 0 || every (λ y. not (eqb y n)) l) (distinct l)
    (or_right (eqb n 0) (every (λ y. not (eqb y n)) l) (and_right (not (eqb x n)) (every (λ y. not (eqb y n)) l) a))
    (and_right (eqb x 0 || every (λ y. not (eqb y x)) l) (distinct l) d)
  where
    or_right : (p q : Bool) → q ≡ true → (p || q) ≡ true
    or_right true q e = refl
    or_right false q e = e
distinct-set (x ∷ l) (suc i) n a d =
    and_both (eqb x 0 || every (λ y. not (eqb y x)) (set l i n)) (distinct (set l i n))
    (spread x n i l (and_left (not (eqb x n)) (every (λ y. not (eqb y n)) l) a) (and_left (eqb x 0 || every (λ y. not (eqb y x)) l) (distinct l) d))
    (distinct-set l i n (and_right (not (eqb x n)) (every (λ y. not (eqb y n)) l) a) (and_right (eqb x 0 || every (λ y. not (eqb y x)) l) (distinct l) d))

pub each_row : (e : Endpoint) → Rules e ≡ true → every (row_keeps e.last e.down) e.rows ≡ true
each_row e h = and_left _ (distinct (map session e.rows)) (sym (rules_split e) ∙ h)

pub all_differ_lem : (e : Endpoint) → Rules e ≡ true → distinct (map session e.rows) ≡ true
all_differ_lem e h = and_right (every (row_keeps e.last e.down) e.rows) _ (sym (rules_split e) ∙ h)

pub from_rows : (e : Endpoint) → every (row_keeps e.last e.down) e.rows ≡ true → distinct (map session e.rows) ≡ true → Rules e ≡ true
from_rows e p q = rules_split e ∙ and_both (every (row_keeps e.last e.down) e.rows) (distinct (map session e.rows)) p q

-- a fresh row keeps the rules, whatever was given
pub fresh_keeps : (last : ℕ) (down : Bool) → row_keeps last down fresh_row ≡ true
unfolding row_keeps
fresh_keeps last true = rw (le-leb 0 last (omega arith)) refl
fresh_keeps last false = rw (le-leb 0 last (omega arith)) refl

pub row_keeps_lem : (e : Endpoint) (r : ℕ) → Rules e ≡ true → row_keeps e.last e.down (row_at e r) ≡ true
row_keeps_lem e r h = every-at (row_keeps e.last e.down) e.rows r fresh_row (fresh_keeps e.last e.down) (each_row e h)

-- rule i of a row, those of one row alone counted
pub row_rule : (last : ℕ) (down : Bool) (r : Row) (i : ℕ) → row_keeps last down r ≡ true → get_or (map (λ f. f r) (row_rules last down)) i true ≡ true
unfolding row_keeps
row_rule last down r i h = all_at (map (λ f. f r) (row_rules last down)) i h

-- unread bytes and input count fit the row
pub row_room : (e : Endpoint) (r : ℕ) → Rules e ≡ true → (row_at e r).unread + (row_at e r).input ≤ 1024
row_room e r h = leb-true _ _ (row_rule e.last e.down (row_at e r) 0 (row_keeps_lem e r h))

-- a served identifier has a row
pub served-row : (id : ℕ) → is_served id ≡ true → row_of id < 32
unfolding is_served row_of
served-row id h = go (leb 0x8000 id) refl (ltb id 16) refl
  where
    go : (a : Bool) → leb 0x8000 id ≡ a → (b : Bool) → ltb id 16 ≡ b → cond (leb 0x8000 id) (id - 0x8000 + 16) id < 32
    go true p b q = rw p (omega (arith, ltb-true id 0x8010 (high b q)))
      where
        high : (b : Bool) → ltb id 16 ≡ b → ltb id 0x8010 ≡ true
        high true q = lt-ltb id 0x8010 (omega (arith, ltb-true id 16 q))
        high false q = and_right (leb 0x8000 id) (ltb id 0x8010) (rw q at h)
    go false p true q = rw p (omega (arith, ltb-true id 16 q))
    go false p false q = let z = rw (q, p) at h in let w : ◌≡◌ {A = ℕ} 0 1 = cc in absurd (omega arith)

-- an output count is at most 2,147,483,647
pub row_credit : (e : Endpoint) (r : ℕ) → Rules e ≡ true → (row_at e r).output ≤ 2147483647
row_credit e r h = leb-true _ _ (row_rule e.last e.down (row_at e r) 2 (row_keeps_lem e r h))

-- two served identifiers have different rows
pub rows_differ : (i j : ℕ) → is_served i ≡ true → is_served j ≡ true → row_of i ≡ row_of j → i ≡ j
unfolding is_served row_of
rows_differ i j p q e = go (leb 0x8000 i) refl (leb 0x8000 j) refl
  where
    low : (k : ℕ) → leb 0x8000 k ≡ false → (ltb k 16 || (leb 0x8000 k && ltb k 0x8010)) ≡ true → k < 16
    low k a b = ltb-true k 16 (rw or-false at (rw a at b))

    go : (a : Bool) → leb 0x8000 i ≡ a → (b : Bool) → leb 0x8000 j ≡ b → i ≡ j
    go true a true b = let f : i - 0x8000 + 16 ≡ j - 0x8000 + 16 = rw (a, b) at e in omega (arith, leb-true 0x8000 i a, leb-true 0x8000 j b)
    go true a false b = let f : i - 0x8000 + 16 ≡ j = rw (a, b) at e in absurd (omega (arith, leb-true 0x8000 i a, low j b q))
    go false a true b = let f : i ≡ j - 0x8000 + 16 = rw (a, b) at e in absurd (omega (arith, leb-true 0x8000 j b, low i a p))
    go false a false b = rw (a, b) at e
