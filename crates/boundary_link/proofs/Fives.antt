-- Runs of five numbers: the one at a number, joining and cutting, and what a loop that puts them one after another has.
use Prim.Native.Nat.{ℕ, zero, suc, ◌+◌, ◌*◌, ◌<◌, ◌≤◌}
use mathlib.Core.Path.{◌≡◌, refl, sym, ap, ◌∙◌}
use mathlib.Core.List.{List, [], ◌∷◌, ◌++◌, map, append-nil, append_assoc}
use native.Mathlib.Nat.{not-suc-le-zero, le_of_suc-le-suc}
use native.Mathlib.Omega.{arith}
use lib.ListN.{length, take, drop, get_or, length-append, length-drop, take-append-drop, drop_of_length-le, get_or-map}
use lib.Seq.{length-take-le, take_all, take_at, drop_at, drop-drop, take-add}
use Rattle.std.specs.Simd.{first_chunks}
use Rattle.std.specs.List.{list_all}
use mathlib.Core.Bool.{Bool, true, false}
use mir.Val.{bool_byte}
use Rattle.link_rows.specs.Rules.{every}
use Rattle.link_rows.specs.Rows.{fresh_row}
use Rattle.link_rows.specs.declared.Row.{Row}
use Rattle.boundary_link.specs.Mirror.{flag_number, fives, joined, row_numbers}

pub fives-length : (n : ℕ) (xs : List ℕ) → length (fives n xs) ≡ n
unfolding fives
fives-length zero xs = refl
fives-length (suc n) xs = ap suc (fives-length n (drop 5 xs))

pub fives-at : (n i : ℕ) (xs : List ℕ) → i < n → get_or (fives n xs) i [] ≡ take 5 (drop (5 * i) xs)
unfolding fives
fives-at zero i xs h = absurd (not-suc-le-zero h)
fives-at (suc n) zero xs h = refl
fives-at (suc n) (suc i) xs h =
    let e : 5 + 5 * i ≡ 5 * suc i = omega arith in
    fives-at n i (drop 5 xs) (le_of_suc-le-suc h) ∙ ap (take 5) (drop-drop (5 * i) 5 xs ∙ ap (λ (k : ℕ). drop k xs) e)

-- what is cut is joined again
pub fives-joined : (n : ℕ) (xs : List ℕ) → length xs ≡ 5 * n → joined (fives n xs) ≡ xs
unfolding fives joined
fives-joined zero [] e = refl
fives-joined zero (x ∷ xs) e = absurd (omega (arith, e))
fives-joined (suc n) xs e = ap (λ (l : List ℕ). take 5 xs ++ l) (fives-joined n (drop 5 xs) (omega (arith, length-drop 5 xs))) ∙ take-append-drop 5 xs

-- and what is joined is cut again
pub joined-fives : (rows : List Row) → fives (length rows) (joined (map row_numbers rows)) ≡ map row_numbers rows
unfolding fives joined
joined-fives [] = refl
joined-fives (r ∷ rows) = ap (λ (l : List (List ℕ)). row_numbers r ∷ l) (joined-fives rows)

pub joined_length : (rows : List Row) → length (joined (map row_numbers rows)) ≡ 5 * length rows
unfolding joined
joined_length [] = refl
joined_length (r ∷ rows) = let e = joined_length rows in omega arith

-- row i among the joined ones
pub joined_at : (rows : List Row) (i : ℕ) → i < length rows → row_numbers (get_or rows i fresh_row) ≡ take 5 (drop (5 * i) (joined (map row_numbers rows)))
joined_at rows i h =
    sym (get_or-map row_numbers rows i fresh_row)
    ∙ other rows i h
    ∙ ap (λ (l : List (List ℕ)). get_or l i []) (sym (joined-fives rows))
    ∙ fives-at (length rows) i (joined (map row_numbers rows)) h
  where
    other : (rows : List Row) (i : ℕ) → i < length rows → get_or (map row_numbers rows) i (row_numbers fresh_row) ≡ get_or (map row_numbers rows) i []
    other [] i h = absurd (not-suc-le-zero h)
    other (r ∷ rows) zero h = refl
    other (r ∷ rows) (suc i) h = other rows i (le_of_suc-le-suc h)

-- a list whose first p numbers are v's and whose others are d's: k more of v are put
pub front_part : (v d s xs : List ℕ) (p k : ℕ) → s ≡ take p v ++ drop p d → xs ≡ take k (drop p v) → p ≤ length v → take p s ++ (xs ++ drop (p + k) s) ≡ take (p + k) v ++ drop (p + k) d
front_part v d s xs p k e f h =
    let l : length (take p v) ≡ p = length-take-le p v h in
    let t : take p s ≡ take p v = ap (take p) e ∙ take_at (take p v) (drop p d) p l in
    let u : drop (p + k) s ≡ drop (p + k) d = sym (drop-drop k p s) ∙ ap (drop k) (ap (drop p) e ∙ drop_at (take p v) (drop p d) p l) ∙ drop-drop k p d in
    rw (t, u, f, take-add, append_assoc) refl

-- the same for row i of the rows that follow three numbers
pub rows_more : (front d s : List ℕ) (rows : List Row) (i : ℕ) (row : Row) → length front ≡ 3 → i < length rows → row ≡ get_or rows i fresh_row
    → s ≡ take (3 + 5 * i) (front ++ joined (map row_numbers rows)) ++ drop (3 + 5 * i) d
    → take (3 + 5 * i) s ++ (row_numbers row ++ drop (3 + 5 * i + 5) s) ≡ take (3 + 5 * (i + 1)) (front ++ joined (map row_numbers rows)) ++ drop (3 + 5 * (i + 1)) d
rows_more front d s rows i row l h r e =
    let v : List ℕ = front ++ joined (map row_numbers rows) in
    let n : 3 + 5 * (i + 1) ≡ 3 + 5 * i + 5 = omega arith in
    let k : row_numbers row ≡ take 5 (drop (3 + 5 * i) v) = ap row_numbers r ∙ joined_at rows i h ∙ ap (λ (x : List ℕ). take 5 (drop (5 * i) x)) (sym (drop_at front (joined (map row_numbers rows)) 3 l)) ∙ ap (take 5) (drop-drop (5 * i) 3 v) in
    let m : 3 + 5 * i ≤ length v = omega (arith, length-append front (joined (map row_numbers rows)), joined_length rows) in
    rw n (front_part v d s (row_numbers row) (3 + 5 * i) 5 e k m)

-- after the last one
pub rows_end : (front d : List ℕ) (rows : List Row) (i : ℕ) → i ≡ 32 → length front ≡ 3 → length rows ≡ 32 → length d ≡ 163
    → take (3 + 5 * i) (front ++ joined (map row_numbers rows)) ++ drop (3 + 5 * i) d ≡ front ++ joined (map row_numbers rows)
rows_end front d rows i e l n m =
    let v : List ℕ = front ++ joined (map row_numbers rows) in
    let k : length v ≡ 163 = length-append front (joined (map row_numbers rows)) ∙ omega (arith, joined_length rows) in
    rw (take_all (3 + 5 * i) v (omega arith), drop_of_length-le d {i = 3 + 5 * i} (omega arith)) (append-nil v)

-- ---- as the library says them

-- the runs of five, as a slice is cut into arrays
pub chunks_fives : (n : ℕ) (xs : List ℕ) → first_chunks 5 n xs ≡ fives n xs
unfolding fives
chunks_fives zero xs = refl
chunks_fives (suc n) xs = rw (chunks_fives n (drop 5 xs)) refl

pub every_all : (f : List ℕ → Bool) (xs : List (List ℕ)) → every f xs ≡ list_all f xs
unfolding every
every_all f [] = refl
every_all f (x ∷ xs) = rw (every_all f xs) refl

-- a yes or no as a number, as the library has it
pub flag_byte : (b : Bool) → bool_byte b ≡ flag_number b
flag_byte true = refl
flag_byte false = refl
