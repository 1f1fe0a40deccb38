-- Each change that a call or record makes, of ledger, endpoint and store together.
use mathlib.Core.Path.{◌≡◌, refl, sym, ap, ◌∙◌, subst}
use mathlib.Core.Bool.{Bool, true, false, not, cond, ◌||◌, true≢false, false≢true}
use mathlib.Core.List.{List, [], ◌∷◌, ◌++◌, map, append-nil, append_assoc}
use Prim.Native.Nat.{ℕ, zero, suc, ◌+◌, ◌<◌, ◌≤◌, min}
use native.Mathlib.Nat.{min-le_left}
use native.Mathlib.Omega.{arith}
use borrow.Author.Tests.{eq-eqb, ne_eqb}
use lib.Dec.{eqb}
use lib.ListN.{length, take, drop, get_or, length-replicate, length-map, take-append-drop}
use lib.Seq.{length-take-le, take-nil, drop-nil}
use Rattle.link_rows.specs.Rows.{is_closed, is_open, is_served, fresh_row, row_of, row_for, with_row, is_spent, next_session}
use Rattle.link_rows.specs.Rules.{Rules}
use Rattle.link_rows.specs.declared.Status.TheVariants.{Closed}
use Rattle.link_rows.specs.declared.Row.{Row}
use Rattle.link_rows.specs.declared.Endpoint.{Endpoint}
use Rattle.link_rows.proofs.Laws.{served-row, row_keeps_lem, row_rule, row_room}
use Rattle.link_changes.specs.Changes.{opened_row, opened, pending_row, closed_row, credited_row, fed_row, granted_row, spent_row, read_row, downed}
use Rattle.link_changes.proofs.Kept.{row_opened, all_down, next-is, open_closed}
use Rattle.link_bytes.specs.Store.{row_bytes, zeros, clear_row, put_at, queue_data, leave, take_front}
use Rattle.link_bytes.proofs.Lens.{row-length, set_get, set_other, leave-length, leave_unread, put-length, put_unread, clear_length, queue_length, take-length}
use Rattle.link_history.specs.Ledger.{Table, Account, Ledger, no_account, latest_of, drops, joins, leaves, asks, counts, gains, spends, change, opens, closes, requests, reads, takes, transmits, grants, shuts, breaks}
use Rattle.link_history.proofs.Invariant.{Order, undropped, all_read, Sound, Credit, RowOk, Inv, was_given_lem, changed}

-- an account that changes, and the others
at_own : (l : Ledger) (n s : ℕ) (f : Account → Account) → n ≡ s → change l n f s ≡ f (l.account s)
at_own l n s f h = rw (eq-eqb s n (sym h)) (ap (λ (m : ℕ). f (l.account m)) h)

at_other : (l : Ledger) (n s : ℕ) (f : Account → Account) → eqb s n ≡ false → change l n f s ≡ l.account s
at_other l n s f h = rw h refl

-- a row that becomes closed keeps its session and its unread bytes, and has no credit
closed_ok : {l : Ledger} {id : ℕ} {bytes : List ℕ} (row : Row) → Closed ≡ l.table.status id → row.session ≡ l.table.latest id → take row.unread bytes ≡ (l.account row.session).unread → RowOk l id (closed_row row) bytes
closed_ok row st se un = record { status = st; latest = se; unread = un; credit = record { input = λ q. absurd (true≢false q); output = λ q. absurd (false≢true q) }; whole = λ q. absurd (false≢true q) }

module _ {l : Ledger} {e : Endpoint} {store : List ℕ} (i : Inv l e store) (id : ℕ) (sv : is_served id ≡ true) where
  place : row_of id < 32
  place = served-row id sv

  old : RowOk l id (row_for e id) (row_bytes store (row_of id))
  old = i.each id sv

  pub row-size : length (row_bytes store (row_of id)) ≡ 1024
  row-size = row-length store (row_of id) i.whole place

  pub unread_fits : (row_for e id).unread ≤ 1024
  unread_fits = omega (arith, row_room e (row_of id) i.rules)

  pub unread_length : length (l.account (row_for e id).session).unread ≡ (row_for e id).unread
  unread_length = ap length (sym old.unread) ∙ length-take-le (row_for e id).unread (row_bytes store (row_of id)) (omega (arith, unread_fits, row-size))

  cleared : (q : ℕ) → (row_of id ≡ q → ⊥) → row_bytes (clear_row store (row_of id)) q ≡ row_bytes store q
  unfolding clear_row
  cleared = set_other store (row_of id) (zeros 1024) place i.whole (length-replicate {A = ℕ} 1024 0)

  -- dropping what session 0 has changes nothing
  drop_none : (n : ℕ) → n ≡ 0 → drops (l.account n) ≡ l.account n
  drop_none n z = let a : l.account n ≡ no_account = ap l.account z ∙ i.none in ap drops a ∙ sym a

  drop_sound : (n : ℕ) → Sound (drops (l.account n))
  drop_sound n = record { balance = rw append-nil (i.sound n).balance; order = all_read refl }

  -- opening, ours or theirs
  pub opens_inv : is_spent e ≡ false → e.down ≡ false → Inv (opens id l) (opened e (row_of id)) (clear_row store (row_of id))
  unfolding opens opened
  opens_inv sp up =
      let m : latest_of l id ≡ (row_for e id).session = sym old.latest in
      let nx : next_session e ≡ l.table.last + 1 = next-is e sp ∙ ap (λ (k : ℕ). k + 1) i.last in
      let fresh : change l (latest_of l id) drops (next_session e) ≡ no_account = rw nx (at_other l (latest_of l id) (l.table.last + 1) drops (ne_eqb (l.table.last + 1) (latest_of l id) (λ q. omega (arith, m, was_given_lem i (row_of id)))) ∙ i.above (l.table.last + 1) (omega arith)) in
      changed i {id = id} {n = latest_of l id} {row = opened_row (next_session e)}
      (record {
        served = sv;
        session = m;
        rows = refl;
        rules = row_opened e (row_of id) sp up i.rules;
        last = nx;
        grows = omega arith;
        whole = clear_length store (row_of id) place i.whole;
        others = cleared;
        status = λ j k. rw k refl;
        latest = λ j k. rw k refl;
        accounts = λ s k. at_other l (latest_of l id) s drops k;
        none = λ z. at_own l (latest_of l id) (latest_of l id) drops refl ∙ drop_none (latest_of l id) z;
        sound = rw (at_own l (latest_of l id) (latest_of l id) drops refl) (drop_sound (latest_of l id));
        gone = λ v. ap (λ (y : Account). y.unread) (at_own l (latest_of l id) (latest_of l id) drops refl);
        own = record {
          status = rw (eq-eqb id id refl) refl;
          latest = rw (eq-eqb id id refl) nx;
          unread = ap (λ (y : Account). y.unread) (sym fresh);
          credit = rw fresh (record { input = λ q. refl; output = λ q. refl });
          whole = λ q. ap (λ (y : Account). y.dropped) fresh;
        };
      })

  -- a row changes and keeps its session; its account changes by f
  module _ (n : ℕ) (m : n ≡ (row_for e id).session) (some : n ≡ 0 → ⊥) (f : Account → Account) (row : Row) where
    pub kept_inv : (t : Table) (store' : List ℕ) → row.session ≡ (row_for e id).session → Rules (with_row e (row_of id) row) ≡ true → length store' ≡ 32768
        → ((q : ℕ) → (row_of id ≡ q → ⊥) → row_bytes store' q ≡ row_bytes store q)
        → t.last ≡ l.table.last → ((j : ℕ) → eqb j id ≡ false → t.status j ≡ l.table.status j) → ((j : ℕ) → t.latest j ≡ l.table.latest j)
        → row.status ≡ t.status id
        → take row.unread (row_bytes store' (row_of id)) ≡ (f (l.account n)).unread
        → Credit (f (l.account n)) row
        → (is_open row.status ≡ true → (f (l.account n)).dropped ≡ [])
        → Sound (f (l.account n))
        → Inv (record { table = t; account = change l n f }) (with_row e (row_of id) row) store'
    kept_inv t store' rs ru wh ot tl ts tt st un cr wo so =
        let a : change l n f row.session ≡ f (l.account n) = ap (λ (s : ℕ). change l n f s) (rs ∙ sym m) ∙ at_own l n n f refl in
        changed i {id = id} {n = n} {row = row}
        (record {
          served = sv;
          session = m;
          rows = refl;
          rules = ru;
          last = i.last ∙ sym tl;
          grows = omega (arith, tl);
          whole = wh;
          others = ot;
          status = ts;
          latest = λ j k. tt j;
          accounts = λ s k. at_other l n s f k;
          none = λ z. absurd (some z);
          sound = rw (at_own l n n f refl) so;
          gone = λ v. absurd (v (rs ∙ sym m));
          own = record {
            status = st;
            latest = rs ∙ old.latest ∙ sym (tt id);
            unread = un ∙ ap (λ (y : Account). y.unread) (sym a);
            credit = rw a cr;
            whole = λ q. ap (λ (y : Account). y.dropped) a ∙ wo q;
          };
        })

    -- credit alone changes, of the row and its account
    credit_inv : row.status ≡ (row_for e id).status → row.session ≡ (row_for e id).session → row.unread ≡ (row_for e id).unread → Rules (with_row e (row_of id) row) ≡ true
        → (f (l.account n)).left ≡ (l.account n).left → (f (l.account n)).dropped ≡ (l.account n).dropped → (f (l.account n)).unread ≡ (l.account n).unread → (f (l.account n)).accepted ≡ (l.account n).accepted
        → Credit (f (l.account n)) row → Inv (record { table = l.table; account = change l n f }) (with_row e (row_of id) row) store
    credit_inv st rs ru k le dr un ac cr =
        kept_inv l.table store rs k i.whole (λ q ne. refl) refl (λ j q. refl) (λ j. refl) (st ∙ old.status)
        (rw (ru, un, m) old.unread) cr (λ q. rw (dr, m) (old.whole (ap is_open (sym st) ∙ q)))
        (record { balance = rw (le, dr, un, ac) (i.sound n).balance; order = rw (dr, un) (i.sound n).order })

  -- our close
  pub closes_inv : (n : ℕ) → n ≡ (row_for e id).session → (n ≡ 0 → ⊥) → is_open (row_for e id).status ≡ true → Rules (with_row e (row_of id) (pending_row (row_for e id))) ≡ true
      → Inv (closes id n l) (with_row e (row_of id) (pending_row (row_for e id))) (clear_row store (row_of id))
  unfolding closes
  closes_inv n m some alive k =
      kept_inv n m some drops (pending_row (row_for e id)) (closes id n l).table (clear_row store (row_of id))
      refl k (clear_length store (row_of id) place i.whole) cleared refl (λ j q. rw q refl) (λ j. refl)
      (rw (eq-eqb id id refl) refl) refl (record { input = λ q. rw m (old.credit.input (open_closed (row_for e id).status alive)); output = λ q. absurd (false≢true q) }) (λ q. absurd (false≢true q)) (drop_sound n)

  -- our request
  pub requests_inv : (n amount : ℕ) → n ≡ (row_for e id).session → (n ≡ 0 → ⊥) → Rules (with_row e (row_of id) (granted_row (row_for e id) amount)) ≡ true
      → Inv (requests n amount l) (with_row e (row_of id) (granted_row (row_for e id) amount)) store
  unfolding requests
  requests_inv n amount m some k =
      let c : Credit (l.account n) (row_for e id) = rw m old.credit in
      credit_inv n m some (asks amount) (granted_row (row_for e id) amount) refl refl refl k refl refl refl refl (record { input = λ q. omega (arith, c.input q); output = c.output })

  -- our transmit
  pub transmits_inv : (n k : ℕ) → n ≡ (row_for e id).session → (n ≡ 0 → ⊥) → k ≤ (row_for e id).output → Rules (with_row e (row_of id) (spent_row (row_for e id) k)) ≡ true
      → Inv (transmits n k l) (with_row e (row_of id) (spent_row (row_for e id) k)) store
  unfolding transmits
  transmits_inv n k m some g ru =
      let c : Credit (l.account n) (row_for e id) = rw m old.credit in
      credit_inv n m some (spends k) (spent_row (row_for e id) k) refl refl refl ru refl refl refl refl (record { input = c.input; output = λ q. omega (arith, c.output q, g) })

  -- reading
  reads_sound : (n k : ℕ) → Sound (leaves k (l.account n))
  reads_sound n k = go (i.sound n).order
    where
      go : Order (l.account n).dropped (l.account n).unread → Sound (leaves k (l.account n))
      go (undropped d) = record {
        balance = rw d (append_assoc (l.account n).left (take k (l.account n).unread) (drop k (l.account n).unread) ∙ ap (λ (y : List ℕ). (l.account n).left ++ y) (take-append-drop k (l.account n).unread) ∙ ap (λ (y : List ℕ). (l.account n).left ++ (y ++ (l.account n).unread)) (sym d) ∙ (i.sound n).balance);
        order = undropped d;
      }
      go (all_read u) = record {
        balance = rw (u, take-nil, drop-nil, append-nil) (ap (λ (y : List ℕ). (l.account n).left ++ ((l.account n).dropped ++ y)) (sym u) ∙ (i.sound n).balance);
        order = all_read (rw u (drop-nil k));
      }

  pub reads_inv : (n out_len w : ℕ) → n ≡ (row_for e id).session → (n ≡ 0 → ⊥) → w ≡ min (row_for e id).unread out_len → Rules (with_row e (row_of id) (read_row (row_for e id) w)) ≡ true
      → Inv (reads n out_len l) (with_row e (row_of id) (read_row (row_for e id) w)) (take_front store (row_of id) (row_for e id).unread w)
  unfolding reads take_front
  reads_inv n out_len w m some ww k =
      let u : ℕ = (row_for e id).unread in
      let lw : w ≤ (row_for e id).unread = omega (arith, min-le_left (row_for e id).unread out_len) in
      let same : min (length (l.account n).unread) out_len ≡ w = ap (λ (y : ℕ). min y out_len) (ap (λ (s : ℕ). length (l.account s).unread) m ∙ unread_length) ∙ sym ww in
      let ll : length (leave (row_bytes store (row_of id)) (row_for e id).unread w) ≡ 1024 = leave-length (row_bytes store (row_of id)) row-size (row_for e id).unread unread_fits w lw in
      kept_inv n m some (λ a. leaves (min (length a.unread) out_len) a) (read_row (row_for e id) w) l.table (take_front store (row_of id) (row_for e id).unread w)
      refl k (take-length store (row_of id) place i.whole (row_for e id).unread w unread_fits lw)
      (set_other store (row_of id) (leave (row_bytes store (row_of id)) (row_for e id).unread w) place i.whole ll)
      refl (λ j q. refl) (λ j. refl) old.status
      (rw (set_get store (row_of id) (leave (row_bytes store (row_of id)) (row_for e id).unread w) place i.whole ll, same, m) (leave_unread (row_bytes store (row_of id)) row-size (row_for e id).unread unread_fits w lw ∙ ap (drop w) old.unread))
      (let c : Credit (l.account n) (row_for e id) = rw m old.credit in record { input = c.input; output = c.output }) (λ q. rw m (old.whole q)) (reads_sound n (min (length (l.account n).unread) out_len))

  -- a row that is not closed has a session
  pub has_session_lem : is_closed (row_for e id).status ≡ false → (row_for e id).session ≡ 0 → ⊥
  has_session_lem c z =
      let r : (is_closed (row_for e id).status || not (eqb (row_for e id).session 0)) ≡ true = row_rule e.last e.down (row_for e id) 5 (row_keeps_lem e (row_of id) i.rules) in
      let f : not true ≡ true = rw (c, eq-eqb _ _ z) at r in
      let w : ◌≡◌ {A = ℕ} 0 1 = cc in omega arith

  -- TRANSMIT received
  module _ (count : ℕ) (bytes : List ℕ) (lb : length bytes ≡ count) (c : is_closed (row_for e id).status ≡ false) (g : count ≤ (row_for e id).input) (k : Rules (with_row e (row_of id) (fed_row (row_for e id) count)) ≡ true) where
    fits : (row_for e id).unread + length bytes ≤ 1024
    fits = omega (arith, row_room e (row_of id) i.rules)

    takes_by : (b : Bool) → is_open (row_for e id).status ≡ b
        → Inv (record { table = l.table; account = change l (latest_of l id) (λ a. counts count (cond b (joins bytes a) a)) }) (with_row e (row_of id) (fed_row (row_for e id) count)) (cond b (queue_data store (row_of id) (row_for e id).unread bytes) store)
    unfolding queue_data
    takes_by true o =
        let m : latest_of l id ≡ (row_for e id).session = sym old.latest in
        let lp : length (put_at (row_bytes store (row_of id)) (row_for e id).unread bytes) ≡ 1024 = put-length (row_bytes store (row_of id)) row-size (row_for e id).unread unread_fits bytes fits in
        let dr : (l.account (latest_of l id)).dropped ≡ [] = rw m (old.whole o) in
        let cr : Credit (l.account (latest_of l id)) (row_for e id) = rw m old.credit in
        kept_inv (latest_of l id) m (λ z. has_session_lem c (sym m ∙ z)) (λ a. counts count (joins bytes a)) (fed_row (row_for e id) count) l.table (queue_data store (row_of id) (row_for e id).unread bytes)
        refl k (queue_length store (row_of id) place i.whole (row_for e id).unread bytes fits)
        (set_other store (row_of id) (put_at (row_bytes store (row_of id)) (row_for e id).unread bytes) place i.whole lp)
        refl (λ j q. refl) (λ j. refl) old.status
        (rw (o, set_get store (row_of id) (put_at (row_bytes store (row_of id)) (row_for e id).unread bytes) place i.whole lp, ← lb, m) (put_unread (row_bytes store (row_of id)) row-size (row_for e id).unread unread_fits bytes fits ∙ ap (λ (y : List ℕ). y ++ bytes) old.unread))
        (record { input = λ q. omega (arith, cr.input q, g); output = cr.output }) (λ q. dr)
        (record {
          balance = sym (append_assoc (l.account (latest_of l id)).left (l.account (latest_of l id)).dropped ((l.account (latest_of l id)).unread ++ bytes)) ∙ sym (append_assoc ((l.account (latest_of l id)).left ++ (l.account (latest_of l id)).dropped) (l.account (latest_of l id)).unread bytes) ∙ ap (λ (y : List ℕ). y ++ bytes) (append_assoc (l.account (latest_of l id)).left (l.account (latest_of l id)).dropped (l.account (latest_of l id)).unread ∙ (i.sound (latest_of l id)).balance);
          order = undropped dr;
        })
    takes_by false o =
        let m : latest_of l id ≡ (row_for e id).session = sym old.latest in
        let cr : Credit (l.account (latest_of l id)) (row_for e id) = rw m old.credit in
        credit_inv (latest_of l id) m (λ z. has_session_lem c (sym m ∙ z)) (counts count) (fed_row (row_for e id) count) refl refl (rw o refl) k refl refl refl refl
        (record { input = λ q. omega (arith, cr.input q, g); output = cr.output })

    pub takes_inv : Inv (takes id count bytes l) (with_row e (row_of id) (fed_row (row_for e id) count)) (cond (is_open (row_for e id).status) (queue_data store (row_of id) (row_for e id).unread bytes) store)
    unfolding takes
    takes_inv =
        subst (λ (b : Bool). Inv (record { table = l.table; account = change l (latest_of l id) (λ a. counts count (cond b (joins bytes a) a)) }) (with_row e (row_of id) (fed_row (row_for e id) count)) (cond (is_open (row_for e id).status) (queue_data store (row_of id) (row_for e id).unread bytes) store))
        (ap is_open old.status) (takes_by (is_open (row_for e id).status) refl)

  -- CLOSE or CLOSEACK received
  pub shuts_inv : Rules (with_row e (row_of id) (closed_row (row_for e id))) ≡ true → Inv (shuts id l) (with_row e (row_of id) (closed_row (row_for e id))) store
  unfolding shuts
  shuts_inv k =
      changed i {id = id} {n = (row_for e id).session} {row = closed_row (row_for e id)}
      (record {
        served = sv;
        session = refl;
        rows = refl;
        rules = k;
        last = i.last;
        grows = omega arith;
        whole = i.whole;
        others = λ q ne. refl;
        status = λ j q. rw q refl;
        latest = λ j q. refl;
        accounts = λ s q. refl;
        none = λ z. refl;
        sound = i.sound (row_for e id).session;
        gone = λ v. absurd (v refl);
        own = closed_ok (row_for e id) (rw (eq-eqb id id refl) refl) old.latest old.unread;
      })

  -- REQUEST received
  pub grants_inv : (count : ℕ) → is_closed (row_for e id).status ≡ false → Rules (with_row e (row_of id) (credited_row (row_for e id) count)) ≡ true → Inv (grants id count l) (with_row e (row_of id) (credited_row (row_for e id) count)) store
  unfolding grants
  grants_inv count alive k =
      let m : latest_of l id ≡ (row_for e id).session = sym old.latest in
      let c : Credit (l.account (latest_of l id)) (row_for e id) = rw m old.credit in
      credit_inv (latest_of l id) m (λ z. has_session_lem alive (sym m ∙ z)) (gains (cond (is_open (l.table.status id)) count 0)) (credited_row (row_for e id) count) refl refl refl k refl refl refl refl
      (record { input = c.input; output = λ q. rw (← old.status, q) (omega (arith, c.output q)) })

-- taken down
pub closed_at : (rows : List Row) (r : ℕ) → get_or (map closed_row rows) r fresh_row ≡ closed_row (get_or rows r fresh_row)
closed_at [] r = refl
closed_at (x ∷ rows) zero = refl
closed_at (x ∷ rows) (suc r) = closed_at rows r

pub breaks_inv : {l : Ledger} {e : Endpoint} {store : List ℕ} → Inv l e store → Inv (breaks l) (downed e) store
unfolding breaks downed
breaks_inv {l} {e} {store} i = record {
  whole = i.whole;
  rules = all_down e i.rules;
  rows = length-map e.rows closed_row ∙ i.rows;
  last = i.last;
  each = λ id sv. rw (closed_at e.rows (row_of id)) (closed_ok (row_for e id) refl (i.each id sv).latest (i.each id sv).unread);
  none = i.none;
  above = i.above;
  sound = i.sound;
  gone = λ s h. i.gone s (λ id sv v. h id sv (ap (λ (z : Row). z.session) (closed_at e.rows (row_of id)) ∙ v));
  unserved = i.unserved;
}
