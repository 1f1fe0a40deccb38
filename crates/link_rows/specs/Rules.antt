-- The row rules of number 3.
use Rattle.std.specs.Prelude.{ℕ, ◌+◌, Bool, true, not, ◌&&◌, ◌||◌, List, [], ◌∷◌, map, leb, eqb}
use Rattle.link_rows.specs.Limits.{row_length, most_credit}
use Rattle.link_rows.specs.Rows.{is_closed, is_open, is_pending}
use Rattle.link_rows.specs.declared.Row.{Row}
use Rattle.link_rows.specs.declared.Endpoint.{Endpoint}

-- every test of a list holds
abbrev pub all_hold : List Bool → Bool
all_hold [] = true
all_hold (b ∷ bs) = b && all_hold bs

-- every element passes a test
unfoldable pub every : {A : Type 0} → (A → Bool) → List A → Bool
every f [] = true
every f (x ∷ l) = f x && every f l

-- no number but 0 occurs twice
unfoldable pub distinct : List ℕ → Bool
distinct [] = true
distinct (x ∷ l) = (eqb x 0 || every (λ y. not (eqb y x)) l) && distinct l

-- the session number of a row
abbrev pub session : Row → ℕ
session r = r.session

-- rule 1: what is unread and what is still granted fit the row's 1,024 bytes
abbrev pub held_within : Row → Bool
held_within r = leb (r.unread + r.input) row_length

-- rule 2: credit to send stands on open rows only
abbrev pub only_open_send : Row → Bool
only_open_send r = is_open r.status || eqb r.output 0

-- rule 3: and is within its limit
abbrev pub credit_within : Row → Bool
credit_within r = leb r.output most_credit

-- rule 4: a closed row grants nothing
abbrev pub closed_no_input : Row → Bool
closed_no_input r = not (is_closed r.status) || eqb r.input 0

-- rule 5: a pending row holds nothing unread
abbrev pub pending_no_unread : Row → Bool
pending_no_unread r = not (is_pending r.status) || eqb r.unread 0

-- rule 6: a row in use is numbered
abbrev pub has_session : Row → Bool
has_session r = is_closed r.status || not (eqb r.session 0)

-- rule 7: a row that is not numbered holds nothing unread
abbrev pub fresh_no_unread : Row → Bool
fresh_no_unread r = not (eqb r.session 0) || eqb r.unread 0

-- rule 9: a row's number was given before (rule 8, that no two rows share one, is distinct)
abbrev pub was_given : ℕ → Row → Bool
was_given last r = leb r.session last

-- rule 10: where the endpoint is down, every row is closed
abbrev pub closed_if_down : Bool → Row → Bool
closed_if_down down r = not down || is_closed r.status

-- the ten rules of number 3, in document 01's order, one entry for each
unfoldable pub rules : Endpoint → List Bool
rules e =
    every held_within e.rows
    ∷ every only_open_send e.rows
    ∷ every credit_within e.rows
    ∷ every closed_no_input e.rows
    ∷ every pending_no_unread e.rows
    ∷ every has_session e.rows
    ∷ every fresh_no_unread e.rows
    ∷ distinct (map session e.rows)
    ∷ every (was_given e.last) e.rows
    ∷ every (closed_if_down e.down) e.rows
    ∷ []

-- they all hold
unfoldable pub Rules : Endpoint → Bool
Rules e = all_hold (rules e)

-- the rules of one row, for the test in the code: all but that session numbers differ
abbrev pub row_rules : ℕ → Bool → List (Row → Bool)
row_rules last down = held_within ∷ only_open_send ∷ credit_within ∷ closed_no_input ∷ pending_no_unread ∷ has_session ∷ fresh_no_unread ∷ was_given last ∷ closed_if_down down ∷ []

unfoldable pub row_keeps : ℕ → Bool → Row → Bool
row_keeps last down r = all_hold (map (λ f. f r) (row_rules last down))
