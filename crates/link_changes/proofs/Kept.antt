-- The row rules stay: one law for a row that changes and keeps its session, one for an opening, and one for taking down.
use mathlib.Core.Path.{◌≡◌, refl, sym, ap, ◌∙◌}
use mathlib.Core.Bool.{Bool, true, false, not, cond, ◌&&◌, ◌||◌, or-true}
use mathlib.Core.List.{List, [], ◌∷◌, map, map-map}
use Prim.Native.Nat.{ℕ, zero, suc, ◌+◌, ◌-◌, ◌≤◌}
use native.Mathlib.Omega.{arith}
use borrow.Author.Tests.{leb-true, le-leb, eqb-true, eq-eqb, ltb-false, ne_eqb}
use lib.Dec.{leb, ltb, eqb}
use lib.ListN.{set}
use lib.Seq.{map-set_same}
use Rattle.link_rows.specs.Limits.{row_length, most_credit}
use Rattle.link_rows.specs.Rows.{is_closed, is_open, is_pending, fresh_row, fresh_endpoint, row_at, with_row, is_spent, next_after, next_session}
use Rattle.link_rows.specs.Rules.{every, distinct, session, held_within, only_open_send, credit_within, closed_no_input, pending_no_unread, has_session, fresh_no_unread, was_given, closed_if_down, rules, Rules, row_keeps}
use Rattle.link_rows.proofs.Laws.{rule, every_set, every_map, every_mono, absent_above, distinct-set, each_row, all_differ_lem, from_rows, row_rule}
use Rattle.link_rows.specs.declared.Status.{Status}
use Rattle.link_rows.specs.declared.Status.TheVariants.{Closed, Open, Pending}
use Rattle.link_rows.specs.declared.Row.{Row}
use Rattle.link_rows.specs.declared.Endpoint.{Endpoint}
use Rattle.link_changes.specs.Changes.{opened_row, opened, pending_row, closed_row, credited_row, fed_row, granted_row, spent_row, read_row, downed}

-- the rules of one row, by name
pub record RowKept (last : ℕ) (down : Bool) (r : Row) : Type 0 where
  pub room : held_within r ≡ true
  pub only : only_open_send r ≡ true
  pub credit : credit_within r ≡ true
  pub closed : closed_no_input r ≡ true
  pub pending : pending_no_unread r ≡ true
  pub numbered : has_session r ≡ true
  pub empty : fresh_no_unread r ≡ true
  pub given : was_given last r ≡ true
  pub shut : closed_if_down down r ≡ true

pub row_kept : (last : ℕ) (down : Bool) (r : Row) → row_keeps last down r ≡ true → RowKept last down r
row_kept last down r h = record {
  room = row_rule last down r 0 h;
  only = row_rule last down r 1 h;
  credit = row_rule last down r 2 h;
  closed = row_rule last down r 3 h;
  pending = row_rule last down r 4 h;
  numbered = row_rule last down r 5 h;
  empty = row_rule last down r 6 h;
  given = row_rule last down r 7 h;
  shut = row_rule last down r 8 h;
}

pub kept_row : (last : ℕ) (down : Bool) (r : Row) → RowKept last down r → row_keeps last down r ≡ true
unfolding row_keeps
kept_row last down r k = rw (k.room, k.only, k.credit, k.closed, k.pending, k.numbered, k.empty, k.given, k.shut) refl

-- one row changes and keeps its session
pub row_changed : (e : Endpoint) (r : ℕ) (row : Row) → row.session ≡ (row_at e r).session → RowKept e.last e.down row → Rules e ≡ true → Rules (with_row e r row) ≡ true
row_changed e r row s k h =
    from_rows (with_row e r row)
    (every_set (row_keeps e.last e.down) e.rows r row (kept_row e.last e.down row k) (each_row e h))
    (ap distinct (map-set_same session e.rows r row fresh_row s) ∙ all_differ_lem e h)

map-set : (l : List Row) (i : ℕ) (r : Row) → map session (set l i r) ≡ set (map session l) i (session r)
map-set [] i r = refl
map-set (x ∷ l) zero r = refl
map-set (x ∷ l) (suc i) r = ap (λ (t : List ℕ). session x ∷ t) (map-set l i r)

-- more session numbers are given
later : (last : ℕ) (down : Bool) (r : Row) → row_keeps last down r ≡ true → row_keeps (last + 1) down r ≡ true
later last down r h =
    let k = row_kept last down r h in
    kept_row (last + 1) down r
    (record {
      room = k.room;
      only = k.only;
      credit = k.credit;
      closed = k.closed;
      pending = k.pending;
      numbered = k.numbered;
      empty = k.empty;
      given = le-leb r.session (last + 1) (omega (arith, leb-true r.session last k.given));
      shut = k.shut;
    })

opened_keeps : (n : ℕ) → row_keeps (n + 1) false (opened_row (n + 1)) ≡ true
unfolding row_keeps
opened_keeps n =
    let z : eqb (n + 1) 0 ≡ false = ne_eqb (n + 1) 0 (λ q. omega arith) in
    rw (z, le-leb (n + 1) (n + 1) (omega arith)) refl

pub next-is : (e : Endpoint) → is_spent e ≡ false → next_session e ≡ e.last + 1
unfolding next_after
next-is e s = rw s refl

-- a row is opened
pub row_opened : (e : Endpoint) (r : ℕ) → is_spent e ≡ false → e.down ≡ false → Rules e ≡ true → Rules (opened e r) ≡ true
unfolding opened rules
row_opened e r s d h =
    let n : next_session e ≡ e.last + 1 = next-is e s in
    let a : every (row_keeps (e.last + 1) e.down) e.rows ≡ true = every_mono (row_keeps e.last e.down) (row_keeps (e.last + 1) e.down) (later e.last e.down) e.rows (each_row e h) in
    let o : row_keeps (e.last + 1) e.down (opened_row (e.last + 1)) ≡ true = rw d (opened_keeps e.last) in
    let g : every (λ y. leb y e.last) (map session e.rows) ≡ true = every_map (λ r. leb r.session e.last) (λ y. leb y e.last) session (λ x q. q) e.rows (rule e 8 h) in
    from_rows (opened e r)
    (rw n (every_set (row_keeps (e.last + 1) e.down) e.rows r (opened_row (e.last + 1)) o a))
    (rw n (ap distinct (map-set e.rows r (opened_row (e.last + 1))) ∙ distinct-set (map session e.rows) r (e.last + 1) (absent_above e.last (e.last + 1) (omega arith) (map session e.rows) g) (all_differ_lem e h)))

closed_keeps : (last : ℕ) (down : Bool) (r : Row) → row_keeps last down r ≡ true → (b : Bool) → RowKept last b (closed_row r)
closed_keeps last down r h b =
    let k = row_kept last down r h in
    record {
      room = le-leb (r.unread + 0) row_length (omega (arith, leb-true (r.unread + r.input) row_length k.room));
      only = refl;
      credit = refl;
      closed = refl;
      pending = refl;
      numbered = refl;
      empty = k.empty;
      given = k.given;
      shut = or-true (not b);
    }

-- the endpoint is taken down
pub all_down : (e : Endpoint) → Rules e ≡ true → Rules (downed e) ≡ true
unfolding downed
all_down e h =
    from_rows (downed e)
    (every_map (row_keeps e.last e.down) (row_keeps e.last true) closed_row (λ r k. kept_row e.last true (closed_row r) (closed_keeps e.last e.down r k true)) e.rows (each_row e h))
    (ap distinct (map-map session closed_row e.rows) ∙ all_differ_lem e h)

-- a fresh endpoint
pub fresh-rules : (began : Bool) → Rules (fresh_endpoint began) ≡ true
unfolding Rules rules every distinct fresh_endpoint
fresh-rules began = refl

pub open_closed : (s : Status) → is_open s ≡ true → is_closed s ≡ false
open_closed Closed e = sym e
open_closed Open e = refl
open_closed Pending e = refl

-- what each call and record makes of a row that keeps the rules
module _ (last : ℕ) (down : Bool) (r : Row) (h : row_keeps last down r ≡ true) where
  k : RowKept last down r
  k = row_kept last down r h

  pub pending_kept : is_open r.status ≡ true → RowKept last down (pending_row r)
  pending_kept o =
      let c : is_closed r.status ≡ false = open_closed r.status o in
      record {
        room = le-leb (0 + r.input) row_length (omega (arith, leb-true (r.unread + r.input) row_length k.room));
        only = refl;
        credit = refl;
        closed = refl;
        pending = refl;
        numbered = rw c at k.numbered;
        empty = or-true (not (eqb r.session 0));
        given = k.given;
        shut = rw c at k.shut;
      }

  pub closed_kept : RowKept last down (closed_row r)
  closed_kept = closed_keeps last down r h down

  pub granted_kept : (n : ℕ) → is_open r.status ≡ true → r.unread + r.input + n ≤ row_length → RowKept last down (granted_row r n)
  granted_kept n o f =
      record {
        room = le-leb (r.unread + (r.input + n)) row_length (omega arith);
        only = k.only;
        credit = k.credit;
        closed = rw (open_closed r.status o) refl;
        pending = k.pending;
        numbered = k.numbered;
        empty = k.empty;
        given = k.given;
        shut = k.shut;
      }

  pub spent_kept : (n : ℕ) → is_open r.status ≡ true → RowKept last down (spent_row r n)
  spent_kept n o =
      record {
        room = k.room;
        only = rw o refl;
        credit = le-leb (r.output - n) most_credit (omega (arith, leb-true r.output most_credit k.credit));
        closed = k.closed;
        pending = k.pending;
        numbered = k.numbered;
        empty = k.empty;
        given = k.given;
        shut = k.shut;
      }

  fewer : (b : Bool) (n : ℕ) → (b || eqb r.unread 0) ≡ true → (b || eqb (r.unread - n) 0) ≡ true
  fewer true n e = refl
  fewer false n e = eq-eqb (r.unread - n) 0 (omega (arith, eqb-true r.unread 0 e))

  pub read_kept : (n : ℕ) → RowKept last down (read_row r n)
  read_kept n =
      record {
        room = le-leb (r.unread - n + r.input) row_length (omega (arith, leb-true (r.unread + r.input) row_length k.room));
        only = k.only;
        credit = k.credit;
        closed = k.closed;
        pending = fewer (not (is_pending r.status)) n k.pending;
        numbered = k.numbered;
        empty = fewer (not (eqb r.session 0)) n k.empty;
        given = k.given;
        shut = k.shut;
      }

  pub credited_kept : (n : ℕ) → (is_open r.status && ltb most_credit (r.output + n)) ≡ false → RowKept last down (credited_row r n)
  credited_kept n f =
      record {
        room = k.room;
        only = more (is_open r.status) k.only;
        credit = most (is_open r.status) f;
        closed = k.closed;
        pending = k.pending;
        numbered = k.numbered;
        empty = k.empty;
        given = k.given;
        shut = k.shut;
      }
    where
      more : (b : Bool) → (b || eqb r.output 0) ≡ true → (b || eqb (cond b (r.output + n) r.output) 0) ≡ true
      more true e = refl
      more false e = e

      most : (b : Bool) → (b && ltb most_credit (r.output + n)) ≡ false → leb (cond b (r.output + n) r.output) most_credit ≡ true
      most true e = le-leb (r.output + n) most_credit (ltb-false most_credit (r.output + n) e)
      most false e = k.credit

  pub fed_kept : (n : ℕ) → is_closed r.status ≡ false → n ≤ r.input → RowKept last down (fed_row r n)
  fed_kept n c g =
      record {
        room = le-leb (cond (is_open r.status) (r.unread + n) r.unread + (r.input - n)) row_length (sum (is_open r.status));
        only = k.only;
        credit = k.credit;
        closed = rw c refl;
        pending = wait r.status k.pending;
        numbered = k.numbered;
        empty = some k.numbered;
        given = k.given;
        shut = k.shut;
      }
    where
      total : r.unread + r.input ≤ row_length
      total = leb-true (r.unread + r.input) row_length k.room

      sum : (b : Bool) → cond b (r.unread + n) r.unread + (r.input - n) ≤ row_length
      sum true = omega (arith, total)
      sum false = omega (arith, total)

      wait : (s : Status) → (not (is_pending s) || eqb r.unread 0) ≡ true → (not (is_pending s) || eqb (cond (is_open s) (r.unread + n) r.unread) 0) ≡ true
      wait Closed e = refl
      wait Open e = refl
      wait Pending e = e

      some : (is_closed r.status || not (eqb r.session 0)) ≡ true → (not (eqb r.session 0) || eqb (cond (is_open r.status) (r.unread + n) r.unread) 0) ≡ true
      some e = let s : not (eqb r.session 0) ≡ true = rw c at e in rw s refl
