-- The numbers and the endpoint, there and back.
use Prim.Native.Nat.{ℕ, zero, suc, ◌*◌, ◌≤◌}
use mathlib.Core.Path.{◌≡◌, refl, sym, ap, ◌∙◌}
use mathlib.Core.Bool.{Bool, true, false, ◌&&◌}
use mathlib.Core.List.{List, [], ◌∷◌, map}
use native.Mathlib.Omega.{arith}
use borrow.Author.Tests.{leb-true, eqb-true, eqb-false, eq-eqb}
use lib.Dec.{leb, eqb}
use lib.ListN.{length, take, drop, get_or, length-drop}
use lib.Seq.{length-take-le}
use Rattle.link_rows.specs.Rules.{every}
use Rattle.link_rows.specs.declared.Status.{Status}
use Rattle.link_rows.specs.declared.Status.TheVariants.{Closed, Open, Pending}
use Rattle.link_rows.specs.declared.Row.{Row}
use Rattle.link_rows.specs.declared.Endpoint.{Endpoint}
use Rattle.link_rows.proofs.Laws.{and_left, and_right, and_both}
use Rattle.boundary_link.specs.Mirror.{status_number, status_of, flag_number, row_numbers, row_in, fives, joined, numbers_of, rows_in, is_row, is_endpoint, as_endpoint, endpoint_in}
use Rattle.boundary_link.proofs.Fives.{fives-joined, joined-fives, joined_length}
use Rattle.boundary_link.proofs.Whole.{whole_length, whole_began, whole_down, whole_rows}

-- endpoint, numbers, endpoint

status_back : (s : Status) → status_of (status_number s) ≡ s
status_back Closed = refl
status_back Open = refl
status_back Pending = refl

flag_back : (b : Bool) → eqb (flag_number b) 1 ≡ b
flag_back true = refl
flag_back false = refl

flag_small : (b : Bool) → leb (flag_number b) 1 ≡ true
flag_small true = refl
flag_small false = refl

row_back : (r : Row) → row_in (row_numbers r) ≡ r
row_back r = rw (status_back r.status) refl

rows_back : (rows : List Row) → map row_in (map row_numbers rows) ≡ rows
rows_back [] = refl
rows_back (r ∷ rows) = rw (status_back r.status, rows_back rows) refl

are_rows_lem : (rows : List Row) → every is_row (map row_numbers rows) ≡ true
unfolding every
are_rows_lem [] = refl
are_rows_lem (r ∷ rows) = and_both (leb (status_number r.status) 2) (every is_row (map row_numbers rows)) (small r.status) (are_rows_lem rows)
  where
    small : (s : Status) → leb (status_number s) 2 ≡ true
    small Closed = refl
    small Open = refl
    small Pending = refl

module _ (e : Endpoint) (l : length e.rows ≡ 32) where
  cut : rows_in (numbers_of e) ≡ map row_numbers e.rows
  unfolding numbers_of
  cut = ap (λ (n : ℕ). fives n (joined (map row_numbers e.rows))) (sym l) ∙ joined-fives e.rows

  flags_small : (leb (get_or (numbers_of e) 0 0) 1 && (leb (get_or (numbers_of e) 1 0) 1 && true)) ≡ true
  unfolding numbers_of
  flags_small = rw (flag_small e.began, flag_small e.down) refl

  fields_back : ◌≡◌ {A = Endpoint} (record { began = eqb (get_or (numbers_of e) 0 0) 1; down = eqb (get_or (numbers_of e) 1 0) 1; last = get_or (numbers_of e) 2 0; rows = e.rows }) e
  unfolding numbers_of
  fields_back = rw (flag_back e.began, flag_back e.down) refl

  pub numbers_length : length (numbers_of e) ≡ 163
  unfolding numbers_of
  numbers_length = omega (arith, joined_length e.rows)

  -- the numbers of an endpoint are one
  pub numbers_endpoint : is_endpoint (numbers_of e) ≡ true
  unfolding is_endpoint
  numbers_endpoint = rw (eq-eqb _ _ numbers_length, cut, are_rows_lem e.rows) flags_small

  -- and stand for it
  pub endpoint_back : endpoint_in (numbers_of e) ≡ e
  unfolding endpoint_in as_endpoint
  endpoint_back = rw (numbers_endpoint, cut, rows_back e.rows) fields_back

-- numbers, endpoint, numbers

status_there : (n : ℕ) → n ≤ 2 → status_number (status_of n) ≡ n
status_there n h = go (eqb n 0) refl (eqb n 1) refl
  where
    go : (a : Bool) → eqb n 0 ≡ a → (b : Bool) → eqb n 1 ≡ b → status_number (status_of n) ≡ n
    go true p b q = rw p (sym (eqb-true n 0 p))
    go false p true q = rw (p, q) (sym (eqb-true n 1 q))
    go false p false q = rw (p, q) (omega (arith, eqb-false n 0 p, eqb-false n 1 q))

flag_there : (n : ℕ) → n ≤ 1 → flag_number (eqb n 1) ≡ n
flag_there n h = go (eqb n 1) refl
  where
    go : (b : Bool) → eqb n 1 ≡ b → flag_number (eqb n 1) ≡ n
    go true q = rw q (sym (eqb-true n 1 q))
    go false q = rw q (omega (arith, eqb-false n 1 q))

row_there : (five : List ℕ) → length five ≡ 5 → is_row five ≡ true → row_numbers (row_in five) ≡ five
row_there [] l h = absurd (omega (arith, l))
row_there (a ∷ []) l h = absurd (omega (arith, l))
row_there (a ∷ b ∷ []) l h = absurd (omega (arith, l))
row_there (a ∷ b ∷ c ∷ []) l h = absurd (omega (arith, l))
row_there (a ∷ b ∷ c ∷ d ∷ []) l h = absurd (omega (arith, l))
row_there (a ∷ b ∷ c ∷ d ∷ e ∷ []) l h = rw (status_there a (leb-true a 2 h)) refl
row_there (a ∷ b ∷ c ∷ d ∷ e ∷ f ∷ more) l h = absurd (omega (arith, l))

rows_there : (n : ℕ) (xs : List ℕ) → length xs ≡ 5 * n → every is_row (fives n xs) ≡ true → map row_numbers (map row_in (fives n xs)) ≡ fives n xs
unfolding fives every
rows_there zero xs l h = refl
rows_there (suc n) xs l h =
    let k : length (drop 5 xs) ≡ 5 * n = omega (arith, length-drop 5 xs) in
    rw (row_there (take 5 xs) (length-take-le 5 xs (omega arith)) (and_left (is_row (take 5 xs)) _ h), rows_there n (drop 5 xs) k (and_right (is_row (take 5 xs)) _ h)) refl

three : (numbers : List ℕ) → 3 ≤ length numbers → get_or numbers 0 0 ∷ get_or numbers 1 0 ∷ get_or numbers 2 0 ∷ drop 3 numbers ≡ numbers
three [] h = absurd (omega arith)
three (a ∷ []) h = absurd (omega (arith, h))
three (a ∷ b ∷ []) h = absurd (omega (arith, h))
three (a ∷ b ∷ c ∷ more) h = refl

-- numbers that are an endpoint are the numbers of the one that they stand for
pub numbers_back : (numbers : List ℕ) → is_endpoint numbers ≡ true → numbers_of (endpoint_in numbers) ≡ numbers
unfolding endpoint_in as_endpoint numbers_of
numbers_back numbers h =
    let l : length numbers ≡ 163 = whole_length numbers h in
    let k : length (drop 3 numbers) ≡ 160 = omega (arith, length-drop 3 numbers) in
    rw (h, flag_there (get_or numbers 0 0) (whole_began numbers h), flag_there (get_or numbers 1 0) (whole_down numbers h), rows_there 32 (drop 3 numbers) k (whole_rows numbers h), fives-joined 32 (drop 3 numbers) k) (three numbers (omega arith))
