-- What holds of ledger, endpoint and store after every call, and one law for every change of one row.
use mathlib.Core.Path.{◌≡◌, refl, sym, ap, ◌∙◌}
use mathlib.Core.Bool.{Bool, true, false}
use mathlib.Core.List.{List, [], ◌++◌}
use Prim.Native.Nat.{ℕ, ◌+◌, ◌<◌, ◌≤◌}
use native.Mathlib.Omega.{arith}
use borrow.Author.Tests.{eqb-true, eqb-false, leb-true}
use lib.Dec.{eqb}
use lib.ListN.{length, take, get_or, set, length-set}
use lib.Seq.{get_or-set_same, get_or-set_other}
use Rattle.link_rows.specs.Rows.{is_closed, is_open, is_served, fresh_row, row_of, row_at, row_for}
use Rattle.link_rows.specs.Rules.{Rules}
use Rattle.link_rows.specs.declared.Row.{Row}
use Rattle.link_rows.specs.declared.Endpoint.{Endpoint}
use Rattle.link_rows.proofs.Laws.{served-row, rows_differ, row_keeps_lem, row_rule}
use Rattle.link_bytes.specs.Store.{row_bytes}
use Rattle.link_history.specs.Ledger.{Account, Ledger, no_account}
use Rattle.link_history.proofs.Distinct.{one-row}

-- the bytes of a session are in order: nothing is unread once some were dropped
pub data Order (dropped unread : List ℕ) : Type 0 where
  undropped : dropped ≡ [] → Order dropped unread
  all_read : unread ≡ [] → Order dropped unread

pub record Sound (a : Account) : Type 0 where
  pub balance : a.left ++ (a.dropped ++ a.unread) ≡ a.accepted
  pub order : Order a.dropped a.unread

-- a row shows an account's credit: to receive until the session ends, to send while it is open
pub record Credit (a : Account) (row : Row) : Type 0 where
  pub input : is_closed row.status ≡ false → a.requested ≡ a.transmitted + row.input
  pub output : is_open row.status ≡ true → a.granted ≡ a.sent + row.output

-- a row and its bytes show the ledger's identifier
pub record RowOk (l : Ledger) (id : ℕ) (row : Row) (bytes : List ℕ) : Type 0 where
  pub status : row.status ≡ l.table.status id
  pub latest : row.session ≡ l.table.latest id
  pub unread : take row.unread bytes ≡ (l.account row.session).unread
  pub credit : Credit (l.account row.session) row
  pub whole : is_open row.status ≡ true → (l.account row.session).dropped ≡ []

pub record Inv (l : Ledger) (e : Endpoint) (store : List ℕ) : Type 0 where
  pub whole : length store ≡ 32768
  pub rules : Rules e ≡ true
  pub rows : length e.rows ≡ 32
  pub last : e.last ≡ l.table.last
  pub each : (id : ℕ) → is_served id ≡ true → RowOk l id (row_for e id) (row_bytes store (row_of id))
  pub none : l.account 0 ≡ no_account
  pub above : (s : ℕ) → l.table.last < s → l.account s ≡ no_account
  pub sound : (s : ℕ) → Sound (l.account s)
  pub gone : (s : ℕ) → ((id : ℕ) → is_served id ≡ true → (row_for e id).session ≡ s → ⊥) → (l.account s).unread ≡ []
  pub unserved : (id : ℕ) → is_served id ≡ false → l.table.latest id ≡ 0

-- a change of one identifier's row, its bytes, and the account of its session n
pub record Change (l : Ledger) (e : Endpoint) (store : List ℕ) (id n : ℕ) (row : Row) (l' : Ledger) (e' : Endpoint) (store' : List ℕ) : Type 0 where
  pub served : is_served id ≡ true
  pub session : n ≡ (row_for e id).session
  pub rows : e'.rows ≡ set e.rows (row_of id) row
  pub rules : Rules e' ≡ true
  pub last : e'.last ≡ l'.table.last
  pub grows : l.table.last ≤ l'.table.last
  pub whole : length store' ≡ 32768
  pub others : (q : ℕ) → (row_of id ≡ q → ⊥) → row_bytes store' q ≡ row_bytes store q
  pub status : (j : ℕ) → eqb j id ≡ false → l'.table.status j ≡ l.table.status j
  pub latest : (j : ℕ) → eqb j id ≡ false → l'.table.latest j ≡ l.table.latest j
  pub accounts : (s : ℕ) → eqb s n ≡ false → l'.account s ≡ l.account s
  pub none : n ≡ 0 → l'.account n ≡ l.account n
  pub sound : Sound (l'.account n)
  pub gone : (row.session ≡ n → ⊥) → (l'.account n).unread ≡ []
  pub own : RowOk l' id row (row_bytes store' (row_of id))

-- a session that a row has was given
pub was_given_lem : {l : Ledger} {e : Endpoint} {store : List ℕ} → Inv l e store → (r : ℕ) → (row_at e r).session ≤ l.table.last
was_given_lem {l} {e} i r = let g : (row_at e r).session ≤ e.last = leb-true (row_at e r).session e.last (row_rule e.last e.down (row_at e r) 7 (row_keeps_lem e r i.rules)) in omega (arith, i.last)

module _ {l : Ledger} {e : Endpoint} {store : List ℕ} (i : Inv l e store) {id n : ℕ} {row : Row} {l' : Ledger} {e' : Endpoint} {store' : List ℕ} (c : Change l e store id n row l' e' store') where
  differs : (j : ℕ) → is_served j ≡ true → eqb j id ≡ false → row_of j ≡ row_of id → ⊥
  differs j s k q = eqb-false j id k (rows_differ j id s c.served q)

  own_row : row_for e' id ≡ row
  own_row = ap (λ (z : List Row). get_or z (row_of id) fresh_row) c.rows ∙ get_or-set_same e.rows (row_of id) row fresh_row (omega (arith, i.rows, served-row id c.served))

  same_row : (j : ℕ) → is_served j ≡ true → eqb j id ≡ false → row_for e' j ≡ row_for e j
  same_row j s k = ap (λ (z : List Row). get_or z (row_of j) fresh_row) c.rows ∙ get_or-set_other e.rows (row_of id) (row_of j) row fresh_row (differs j s k)

  other_account : (j : ℕ) → is_served j ≡ true → eqb j id ≡ false → l'.account (row_for e j).session ≡ l.account (row_for e j).session
  other_account j s k = go (eqb (row_for e j).session n) refl
    where
      go : (b : Bool) → eqb (row_for e j).session n ≡ b → l'.account (row_for e j).session ≡ l.account (row_for e j).session
      go true q =
          let m : (row_for e j).session ≡ n = eqb-true _ _ q in
          let z : (row_for e j).session ≡ 0 = one-row e i.rules (row_of j) (row_of id) (differs j s k) (m ∙ c.session) in
          ap l'.account m ∙ c.none (sym m ∙ z) ∙ ap l.account (sym m)
      go false q = c.accounts (row_for e j).session q

  other_row : (j : ℕ) → is_served j ≡ true → eqb j id ≡ false → RowOk l' j (row_for e j) (row_bytes store (row_of j))
  other_row j s k =
      let o = i.each j s in
      let a = other_account j s k in
      record {
        status = o.status ∙ sym (c.status j k);
        latest = o.latest ∙ sym (c.latest j k);
        unread = o.unread ∙ ap (λ (y : Account). y.unread) (sym a);
        credit = rw a o.credit;
        whole = λ q. ap (λ (y : Account). y.dropped) a ∙ o.whole q;
      }

  each_row : (j : ℕ) → is_served j ≡ true → RowOk l' j (row_for e' j) (row_bytes store' (row_of j))
  each_row j s = go (eqb j id) refl
    where
      go : (b : Bool) → eqb j id ≡ b → RowOk l' j (row_for e' j) (row_bytes store' (row_of j))
      go true k =
          let q : RowOk l' id (row_for e' id) (row_bytes store' (row_of id)) = rw own_row c.own in
          rw (eqb-true j id k) q
      go false k =
          let r : row_for e' j ≡ row_for e j = same_row j s k in
          let b : row_bytes store' (row_of j) ≡ row_bytes store (row_of j) = c.others (row_of j) (λ q. differs j s k (sym q)) in
          rw (r, b) (other_row j s k)

  pub changed : Inv l' e' store'
  changed = record {
    whole = c.whole;
    rules = c.rules;
    rows = ap length c.rows ∙ length-set e.rows (row_of id) row ∙ i.rows;
    last = c.last;
    each = each_row;
    none = zero_none (eqb 0 n) refl;
    above = λ s h. over s h (eqb s n) refl;
    sound = λ s. sounds s (eqb s n) refl;
    gone = λ s h. goes s h (eqb s n) refl;
    unserved = λ j u. outside j u (eqb j id) refl;
  }
    where
      zero_none : (b : Bool) → eqb 0 n ≡ b → l'.account 0 ≡ no_account
      zero_none true q = let z : n ≡ 0 = sym (eqb-true 0 n q) in ap l'.account (sym z) ∙ c.none z ∙ ap l.account z ∙ i.none
      zero_none false q = c.accounts 0 q ∙ i.none

      over : (s : ℕ) → l'.table.last < s → (b : Bool) → eqb s n ≡ b → l'.account s ≡ no_account
      over s h true q = absurd (omega (arith, eqb-true s n q, was_given_lem i (row_of id), c.session, c.grows))
      over s h false q = c.accounts s q ∙ i.above s (omega (arith, c.grows))

      sounds : (s : ℕ) (b : Bool) → eqb s n ≡ b → Sound (l'.account s)
      sounds s true q = rw (eqb-true s n q) c.sound
      sounds s false q = rw (c.accounts s q) (i.sound s)

      outside : (j : ℕ) → is_served j ≡ false → (b : Bool) → eqb j id ≡ b → l'.table.latest j ≡ 0
      outside j u true k =
          let v : is_served id ≡ false = ap is_served (sym (eqb-true j id k)) ∙ u in
          let z : ◌≡◌ {A = ℕ} 0 1 = cc c.served in absurd (omega arith)
      outside j u false k = c.latest j k ∙ i.unserved j u

      before : (s : ℕ) → eqb s n ≡ false → ((j : ℕ) → is_served j ≡ true → (row_for e' j).session ≡ s → ⊥) → (j : ℕ) → is_served j ≡ true → (b : Bool) → eqb j id ≡ b → (row_for e j).session ≡ s → ⊥
      before s q h j sj true k v = eqb-false s n q (sym v ∙ ap (λ (z : ℕ). (row_for e z).session) (eqb-true j id k) ∙ sym c.session)
      before s q h j sj false k v = h j sj (ap (λ (z : Row). z.session) (same_row j sj k) ∙ v)

      goes : (s : ℕ) → ((j : ℕ) → is_served j ≡ true → (row_for e' j).session ≡ s → ⊥) → (b : Bool) → eqb s n ≡ b → (l'.account s).unread ≡ []
      goes s h true q =
          let m : s ≡ n = eqb-true s n q in
          ap (λ (z : ℕ). (l'.account z).unread) m ∙ c.gone (λ v. h id c.served (ap (λ (z : Row). z.session) own_row ∙ v ∙ sym m))
      goes s h false q = ap (λ (z : Account). z.unread) (c.accounts s q) ∙ i.gone s (λ j sj. before s q h j sj (eqb j id) refl)
