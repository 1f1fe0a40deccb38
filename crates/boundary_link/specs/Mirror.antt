-- An endpoint as C lends it: 163 numbers. They are began, down and last, then five numbers for each of the 32 rows: status, session,
-- input, output and unread.
use Rattle.std.specs.Prelude.{ℕ, zero, suc, Bool, false, cond, ◌&&◌, List, [], ◌∷◌, ◌++◌, map, leb, eqb, length, take, drop, get_or, replicate}
use Rattle.link_rows.specs.Limits.{row_count}
use Rattle.link_rows.specs.Rules.{every}
use Rattle.link_rows.specs.declared.Status.{Status}
use Rattle.link_rows.specs.declared.Status.TheVariants.{Closed, Open, Pending}
use Rattle.link_rows.specs.declared.Row.{Row}
use Rattle.link_rows.specs.declared.Endpoint.{Endpoint}

-- how many numbers an endpoint has
abbrev pub number_count : ℕ
number_count = 163

-- a status as a number, and back
abbrev pub status_number : Status → ℕ
status_number Closed = 0
status_number Open = 1
status_number Pending = 2

abbrev pub status_of : ℕ → Status
status_of n = cond (eqb n 0) Closed (cond (eqb n 1) Open Pending)

-- a yes or no as a number
abbrev pub flag_number : Bool → ℕ
flag_number b = cond b 1 0

-- a row as five numbers, and back
abbrev pub row_numbers : Row → List ℕ
row_numbers r = status_number r.status ∷ r.session ∷ r.input ∷ r.output ∷ r.unread ∷ []

abbrev pub row_in : List ℕ → Row
row_in five = record { status = status_of (get_or five 0 0); session = get_or five 1 0; input = get_or five 2 0; output = get_or five 3 0; unread = get_or five 4 0 }

-- n runs of five numbers, from the front
unfoldable pub fives : ℕ → List ℕ → List (List ℕ)
fives zero numbers = []
fives (suc n) numbers = take 5 numbers ∷ fives n (drop 5 numbers)

-- the runs one after another
unfoldable pub joined : List (List ℕ) → List ℕ
joined [] = []
joined (five ∷ more) = five ++ joined more

-- the 163 numbers of an endpoint
unfoldable pub numbers_of : Endpoint → List ℕ
numbers_of e = flag_number e.began ∷ flag_number e.down ∷ e.last ∷ joined (map row_numbers e.rows)

-- the numbers of the rows, among those of an endpoint
abbrev pub rows_in : List ℕ → List (List ℕ)
rows_in numbers = fives row_count (drop 3 numbers)

-- five numbers whose status is one of the three
abbrev pub is_row : List ℕ → Bool
is_row five = leb (get_or five 0 0) 2

-- the numbers are an endpoint
unfoldable pub is_endpoint : List ℕ → Bool
is_endpoint numbers =
    eqb (length numbers) number_count
    && (leb (get_or numbers 0 0) 1
    && (leb (get_or numbers 1 0) 1
    && every is_row (rows_in numbers)))

-- the endpoint that they are
unfoldable pub as_endpoint : List ℕ → Endpoint
as_endpoint numbers = record {
  began = eqb (get_or numbers 0 0) 1;
  down = eqb (get_or numbers 1 0) 1;
  last = get_or numbers 2 0;
  rows = map row_in (rows_in numbers);
}

-- an endpoint that breaks the row rules: its rows are closed, and grant a byte
unfoldable pub broken : Endpoint
broken = record {
  began = false;
  down = false;
  last = 0;
  rows = replicate row_count (record { status = Closed; session = 0; input = 1; output = 0; unread = 0 });
}

-- the endpoint that numbers stand for: where they are none, the broken one, so that every call is refused
unfoldable pub endpoint_in : List ℕ → Endpoint
endpoint_in numbers = cond (is_endpoint numbers) (as_endpoint numbers) broken

-- what stands in the lent numbers after a call: the later endpoint; numbers that are no endpoint stay as they are
unfoldable pub numbers_after : List ℕ → Endpoint → List ℕ
numbers_after numbers e = cond (is_endpoint numbers) (numbers_of e) numbers
