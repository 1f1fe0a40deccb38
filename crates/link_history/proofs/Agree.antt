-- Two stores that agree on the rows of one session: what each change of a row leaves of that.
use mathlib.Core.Path.{◌≡◌, refl, sym, ap, ◌∙◌}
use mathlib.Core.Bool.{Bool, true, false, cond, ◌&&◌, or-true}
use mathlib.Core.List.{List}
use Prim.Native.Nat.{ℕ, ◌+◌, ◌<◌, ◌≤◌}
use native.Mathlib.Omega.{arith}
use borrow.Author.Tests.{eqb-true, eqb-false, ltb-false}
use lib.Dec.{eqb, ltb}
use lib.ListN.{length, drop, get_or, set, length-replicate, length-drop}
use lib.Seq.{get_or-set_same, get_or-set_other, length-take-le}
use Rattle.link_rows.specs.Limits.{OPEN, REQUEST, TRANSMIT}
use Rattle.link_rows.specs.Rows.{is_open, is_served, fresh_row, row_of, row_for, with_row, next_session}
use Rattle.link_rows.specs.Rules.{Rules}
use Rattle.link_rows.specs.Replies.{takes_down, Reply}
use Rattle.link_rows.specs.declared.Row.{Row}
use Rattle.link_rows.specs.declared.Endpoint.{Endpoint}
use Rattle.link_rows.specs.declared.Done.{Done}
use Rattle.link_rows.specs.declared.Record.{Record}
use Rattle.link_rows.proofs.Laws.{and_false, served-row, rows_differ, row_room}
use Rattle.link_record_replies.specs.Records.{is, has_count, not_positive, receive_reply}
use Rattle.link_record_replies.proofs.Done.{Received}
use Rattle.link_changes.specs.Changes.{opened_row, opened, closed_row, credited_row, fed_row, downed}
use Rattle.link_bytes.specs.Records.{data_of}
use Rattle.link_bytes.specs.Store.{row_bytes, zeros, clear_row, put_at, queue_data, leave, take_front}
use Rattle.link_bytes.proofs.Lens.{row-length, set_get, set_other, leave-length, put-length}
use Rattle.link_receive.specs.Receive.{received_row, receive_endpoint, receive_store}
use Rattle.link_receive.proofs.Taken.{receive_done}
use Rattle.link_history.specs.Statement.{another}
use Rattle.link_history.proofs.Steps.{closed_at}
use Rattle.std.specs.Prelude.{Ok, Err}

-- the rows whose latest session is s have the same bytes in both stores
unfoldable pub Agree : ℕ → Endpoint → List ℕ → List ℕ → Type 0
Agree s e x y = (id : ℕ) → is_served id ≡ true → another s (row_for e id).session ≡ false → row_bytes x (row_of id) ≡ row_bytes y (row_of id)

-- a store changes in one row alone
Beside : ℕ → List ℕ → List ℕ → Type 0
Beside id x x' = (q : ℕ) → (row_of id ≡ q → ⊥) → row_bytes x' q ≡ row_bytes x q

-- one row changes
agree_set : (s : ℕ) (e : Endpoint) (x y : List ℕ) → length e.rows ≡ 32 → Agree s e x y → (id : ℕ) → is_served id ≡ true → (row : Row) (e' : Endpoint) (x' y' : List ℕ) → e'.rows ≡ set e.rows (row_of id) row
    → Beside id x x' → Beside id y y' → (another s row.session ≡ false → row_bytes x' (row_of id) ≡ row_bytes y' (row_of id)) → Agree s e' x' y'
unfolding Agree Beside
agree_set s e x y lr a id sv row e' x' y' rs bx by own j sj = go (eqb j id) refl
  where
    differs : eqb j id ≡ false → row_of j ≡ row_of id → ⊥
    differs k q = eqb-false j id k (rows_differ j id sj sv q)

    go : (b : Bool) → eqb j id ≡ b → another s (row_for e' j).session ≡ false → row_bytes x' (row_of j) ≡ row_bytes y' (row_of j)
    go true k n =
        let m : j ≡ id = eqb-true j id k in
        let r : row_for e' j ≡ row = ap (λ (i : ℕ). row_for e' i) m ∙ ap (λ (z : List Row). get_or z (row_of id) fresh_row) rs ∙ get_or-set_same e.rows (row_of id) row fresh_row (omega (arith, served-row id sv)) in
        let o : another s row.session ≡ false = ap (λ (z : Row). another s z.session) (sym r) ∙ n in
        rw m (own o)
    go false k n =
        let r : row_for e' j ≡ row_for e j = ap (λ (z : List Row). get_or z (row_of j) fresh_row) rs ∙ get_or-set_other e.rows (row_of id) (row_of j) row fresh_row (differs k) in
        let o : another s (row_for e j).session ≡ false = ap (λ (z : Row). another s z.session) (sym r) ∙ n in
        bx (row_of j) (λ q. differs k (sym q)) ∙ a j sj o ∙ sym (by (row_of j) (λ q. differs k (sym q)))

module _ (s : ℕ) (e : Endpoint) (x y : List ℕ) (lr : length e.rows ≡ 32) (lx : length x ≡ 32768) (ly : length y ≡ 32768) (a : Agree s e x y) (id : ℕ) (sv : is_served id ≡ true) where
  place : row_of id < 32
  place = served-row id sv

  -- a row that keeps its session, in stores that stay
  pub agree_row : (row : Row) → row.session ≡ (row_for e id).session → Agree s (with_row e (row_of id) row) x y
  unfolding Agree Beside
  agree_row row h = agree_set s e x y lr a id sv row (with_row e (row_of id) row) x y refl (λ q ne. refl) (λ q ne. refl) (λ n. a id sv (ap (λ (z : ℕ). another s z) (sym h) ∙ n))

  -- a row that is dropped in both
  pub agree_clear : (row : Row) (e' : Endpoint) → e'.rows ≡ set e.rows (row_of id) row → Agree s e' (clear_row x (row_of id)) (clear_row y (row_of id))
  unfolding clear_row Beside
  agree_clear row e' rs =
      let lz : length (zeros 1024) ≡ 1024 = length-replicate {A = ℕ} 1024 0 in
      agree_set s e x y lr a id sv row e' (clear_row x (row_of id)) (clear_row y (row_of id)) rs (set_other x (row_of id) (zeros 1024) place lx lz) (set_other y (row_of id) (zeros 1024) place ly lz)
      (λ n. set_get x (row_of id) (zeros 1024) place lx lz ∙ sym (set_get y (row_of id) (zeros 1024) place ly lz))

  -- bytes leave it in both
  pub agree_take : (u n : ℕ) → u ≤ 1024 → n ≤ u → (row : Row) → row.session ≡ (row_for e id).session → Agree s (with_row e (row_of id) row) (take_front x (row_of id) u n) (take_front y (row_of id) u n)
  unfolding take_front Beside Agree
  agree_take u n hu hn row h =
      let px : length (leave (row_bytes x (row_of id)) u n) ≡ 1024 = leave-length (row_bytes x (row_of id)) (row-length x (row_of id) lx place) u hu n hn in
      let py : length (leave (row_bytes y (row_of id)) u n) ≡ 1024 = leave-length (row_bytes y (row_of id)) (row-length y (row_of id) ly place) u hu n hn in
      agree_set s e x y lr a id sv row (with_row e (row_of id) row) (take_front x (row_of id) u n) (take_front y (row_of id) u n) refl
      (set_other x (row_of id) (leave (row_bytes x (row_of id)) u n) place lx px) (set_other y (row_of id) (leave (row_bytes y (row_of id)) u n) place ly py)
      (λ o. set_get x (row_of id) (leave (row_bytes x (row_of id)) u n) place lx px ∙ ap (λ (z : List ℕ). leave z u n) (a id sv (ap (λ (z : ℕ). another s z) (sym h) ∙ o)) ∙ sym (set_get y (row_of id) (leave (row_bytes y (row_of id)) u n) place ly py))

  -- data joins it in both, the same if it is ours
  pub agree_queue : (u : ℕ) (b d : List ℕ) → u + length b ≤ 1024 → u + length d ≤ 1024 → (another s (row_for e id).session ≡ false → b ≡ d) → (row : Row) → row.session ≡ (row_for e id).session
      → Agree s (with_row e (row_of id) row) (queue_data x (row_of id) u b) (queue_data y (row_of id) u d)
  unfolding queue_data Beside Agree
  agree_queue u b d hb hd same row h =
      let px : length (put_at (row_bytes x (row_of id)) u b) ≡ 1024 = put-length (row_bytes x (row_of id)) (row-length x (row_of id) lx place) u (omega arith) b hb in
      let py : length (put_at (row_bytes y (row_of id)) u d) ≡ 1024 = put-length (row_bytes y (row_of id)) (row-length y (row_of id) ly place) u (omega arith) d hd in
      agree_set s e x y lr a id sv row (with_row e (row_of id) row) (queue_data x (row_of id) u b) (queue_data y (row_of id) u d) refl
      (set_other x (row_of id) (put_at (row_bytes x (row_of id)) u b) place lx px) (set_other y (row_of id) (put_at (row_bytes y (row_of id)) u d) place ly py)
      (λ o.
      let n : another s (row_for e id).session ≡ false = ap (λ (z : ℕ). another s z) (sym h) ∙ o in
      set_get x (row_of id) (put_at (row_bytes x (row_of id)) u b) place lx px ∙ ap (λ (z : List ℕ). put_at z u b) (a id sv n) ∙ ap (λ (z : List ℕ). put_at (row_bytes y (row_of id)) u z) (same n) ∙ sym (set_get y (row_of id) (put_at (row_bytes y (row_of id)) u d) place ly py))

-- taken down
agree_down : (s : ℕ) (e : Endpoint) (x y : List ℕ) → Agree s e x y → Agree s (downed e) x y
unfolding Agree downed
agree_down s e x y a id sv n = a id sv (ap (λ (z : Row). another s z.session) (sym (closed_at e.rows (row_of id))) ∙ n)

-- a received record, accepted or refused, with the same head in both
module _ (s : ℕ) (e : Endpoint) (x y : List ℕ) (lr : length e.rows ≡ 32) (lx : length x ≡ 32768) (ly : length y ≡ 32768) (ru : Rules e ≡ true) (a : Agree s e x y)
    (h : Record) (b d : List ℕ) (ab : h.available ≡ length b) (ad : h.available ≡ length d)
    (own : 7 + h.count ≤ h.available → is TRANSMIT h ≡ true → not_positive h.count ≡ false → is_served h.id ≡ true → another s (row_for e h.id).session ≡ false → data_of h b ≡ data_of h d) where
  agree_fed : (p : Bool) → is TRANSMIT h ≡ true → is_open (row_for e h.id).status ≡ p → {out_len : ℕ} {v : Done} → Received e h out_len v
      → Agree s (with_row e (row_of h.id) (fed_row (row_for e h.id) h.count)) (cond p (queue_data x (row_of h.id) (row_for e h.id).unread (data_of h b)) x) (cond p (queue_data y (row_of h.id) (row_for e h.id).unread (data_of h d)) y)
  agree_fed true te op c =
      let there : 7 + h.count ≤ h.available = ltb-false h.available (7 + h.count) (and_false (is TRANSMIT h) (ltb h.available (7 + h.count)) c.there te) in
      let g : h.count ≤ (row_for e h.id).input = ltb-false (row_for e h.id).input h.count (and_false (is TRANSMIT h) (ltb (row_for e h.id).input h.count) c.granted te) in
      let lb : length (data_of h b) ≡ h.count = length-take-le h.count (drop 7 b) (omega (arith, length-drop 7 b)) in
      let ld : length (data_of h d) ≡ h.count = length-take-le h.count (drop 7 d) (omega (arith, length-drop 7 d)) in
      agree_queue s e x y lr lx ly a h.id c.served (row_for e h.id).unread (data_of h b) (data_of h d)
      (omega (arith, row_room e (row_of h.id) ru)) (omega (arith, row_room e (row_of h.id) ru))
      (own there te (and_false (has_count h) (not_positive h.count) c.positive (rw te (or-true (is REQUEST h)))) c.served) (fed_row (row_for e h.id) h.count) refl
  agree_fed false te op c = agree_row s e x y lr lx ly a h.id c.served (fed_row (row_for e h.id) h.count) refl

  agree_by : (o t q : Bool) → is OPEN h ≡ o → is TRANSMIT h ≡ t → is REQUEST h ≡ q → {out_len : ℕ} {v : Done} → Received e h out_len v
      → Agree s (cond o (opened e (row_of h.id)) (with_row e (row_of h.id) (cond q (credited_row (row_for e h.id) h.count) (cond t (fed_row (row_for e h.id) h.count) (closed_row (row_for e h.id))))))
      (cond o (clear_row x (row_of h.id)) (cond (t && is_open (row_for e h.id).status) (queue_data x (row_of h.id) (row_for e h.id).unread (data_of h b)) x))
      (cond o (clear_row y (row_of h.id)) (cond (t && is_open (row_for e h.id).status) (queue_data y (row_of h.id) (row_for e h.id).unread (data_of h d)) y))
  unfolding opened
  agree_by true t q oe te qe c = agree_clear s e x y lr lx ly a h.id c.served (opened_row (next_session e)) (opened e (row_of h.id)) refl
  agree_by false true true oe te qe c = absurd (omega (arith, eqb-true h.opcode TRANSMIT te, eqb-true h.opcode REQUEST qe))
  agree_by false true false oe te qe c = agree_fed (is_open (row_for e h.id).status) te refl c
  agree_by false false true oe te qe c = agree_row s e x y lr lx ly a h.id c.served (credited_row (row_for e h.id) h.count) refl
  agree_by false false false oe te qe c = agree_row s e x y lr lx ly a h.id c.served (closed_row (row_for e h.id)) refl

  pub record_agree : (out_len : ℕ) → Agree s (receive_endpoint e h (receive_reply e (length x) h out_len)) (receive_store e h (receive_reply e (length x) h out_len) b x) (receive_store e h (receive_reply e (length x) h out_len) d y)
  unfolding receive_endpoint receive_store received_row
  record_agree out_len = go (receive_reply e (length x) h out_len) refl
    where
      down : (p : Bool) → Agree s (cond p (downed e) e) x y
      down true = agree_down s e x y a
      down false = a

      go : (r : Reply) → receive_reply e (length x) h out_len ≡ r → Agree s (receive_endpoint e h r) (receive_store e h r b x) (receive_store e h r d y)
      go (Ok v) q = agree_by (is OPEN h) (is TRANSMIT h) (is REQUEST h) refl refl refl (receive_done e (length x) h out_len q).1
      go (Err why) q = down (takes_down why)
