-- Our calls have one shape: the reply decides. Once it is known, a call leaves what its definition says of that reply: all as it was
-- where it is refused. The laws' premises are what the functions that a call is made of promise.
use mathlib.Core.Path.{◌≡◌, refl, sym, subst, ◌∙◌}
use mathlib.Core.Bool.{Bool, true, cond, ◌&&◌}
use mathlib.Core.List.{List, [], ◌++◌}
use Prim.Native.Nat.{ℕ, ◌+◌, ◌<◌, ◌≤◌}
use native.Mathlib.Nat.{min-le_left, min-le_right}
use native.Mathlib.Omega.{arith}
use lib.Dec.{leb}
use lib.ListN.{length, length-append}
use Rattle.link_rows.specs.Limits.{OPEN, CLOSE, REQUEST, TRANSMIT}
use Rattle.link_rows.specs.Rows.{fresh_endpoint, row_of, row_at, row_for, with_row}
use Rattle.link_rows.specs.declared.Row.{Row}
use Rattle.link_rows.specs.declared.Endpoint.{Endpoint}
use Rattle.link_rows.specs.declared.Answer.{Answer}
use Rattle.link_rows.specs.declared.Refusal.{Refusal}
use Rattle.link_rows.proofs.Laws.{served-row, row_room, row_credit}
use Rattle.link_replies.specs.Calls.{make_reply, open_reply, close_reply, request_reply, transmit_reply, read_reply}
use Rattle.link_replies.proofs.Done.{open_done, close_done, request_done, transmit_done, read_done}
use Rattle.link_changes.specs.Changes.{opened, pending_row, granted_row, spent_row, read_row, downed}
use Rattle.link_changes.specs.Outcome.{Outcome, Leaves}
use Rattle.link_bytes.specs.Records.{short_record, long_record, written, fitted}
use Rattle.link_bytes.specs.Store.{zeros, clear_row, take_front, front_of, in_row}
use Rattle.link_bytes.proofs.Lent.{fitted-is, row_in, front_in}
use Rattle.link_calls.specs.Calls.{make_endpoint, make_store, open_endpoint, open_store, open_out, close_endpoint, close_store, close_out, request_endpoint, request_out, transmit_endpoint, transmit_out, read_endpoint, read_store, read_out, making, opening, closing, requesting, transmitting, reading}
use Rattle.link_rows.specs.Replies.{Reply}
use Rattle.std.specs.Prelude.{Ok, Err}
use Rattle.link_rows.specs.declared.Done.{Done}

-- the shape: a call that leaves `leaves reply`, with a reply that is `made`
module _ (leaves : Reply → Outcome) {made reply : Reply} (q : reply ≡ made) where
  decided : {known : Reply} {a : Answer} {s o : List ℕ} → reply ≡ known → Leaves (leaves known) a s o → Leaves (leaves made) a s o
  decided {known} {a} {s} {o} t l = subst (λ (r : Reply). Leaves (leaves r) a s o) (sym t ∙ q) l

-- what holds of a reply 0, and of a refusal, holds of the reply that is made
pub by_reply : (P : Reply → Type 0) (made : Reply) → ((v : Done) → made ≡ Ok v → P (Ok v)) → ((why : Refusal) → P (Err why)) → P made
by_reply P (Ok v) d r = d v refl
by_reply P (Err why) d r = r why

-- a row that is dropped, where the call has passed
dropped : (store : List ℕ) {store' : List ℕ} (r : ℕ) {i : ℕ} → length store ≡ 32768 → r < 32 → i ≡ r → store' ≡ cond (in_row (length store) i 0) (clear_row store i) store → store' ≡ clear_row store r
dropped store r l h i q = q ∙ rw (i, row_in (length store) r 0 l h (omega arith)) refl

module _ (began : Bool) (store : List ℕ) where
  abbrev make_by : Reply → Outcome
  make_by r = record { reply = r; endpoint = make_endpoint began r; store = make_store r store; out = [] }

  module _ {reply : Reply} (q : reply ≡ make_reply (length store)) where
    pub make_refused : {why : Refusal} {fresh down : Endpoint} → reply ≡ Err why → fresh ≡ fresh_endpoint began → down ≡ downed fresh → Leaves (making began store) (record { reply = reply; endpoint = down }) store []
    unfolding making make_endpoint make_store
    make_refused t f p = decided make_by q t (record { reply = t; endpoint = rw (p, f) refl; store = refl; out = refl })

    pub make_leaves : {v : Done} {fresh : Endpoint} {store' : List ℕ} → reply ≡ Ok v → fresh ≡ fresh_endpoint began → store' ≡ zeros (length store) → Leaves (making began store) (record { reply = reply; endpoint = fresh }) store' []
    unfolding making make_endpoint make_store
    make_leaves t f z = decided make_by q t (record { reply = t; endpoint = f; store = z; out = refl })

module _ (e : Endpoint) (store : List ℕ) (id : ℕ) (out : List ℕ) where
  abbrev open_by : Reply → Outcome
  open_by r = record { reply = r; endpoint = open_endpoint e id r; store = open_store id r store; out = open_out id r out }

  module _ {reply : Reply} (q : reply ≡ open_reply e (length store) id (length out)) where
    pub open_refused : {why : Refusal} → reply ≡ Err why → Leaves (opening e store id out) (record { reply = reply; endpoint = e }) store out
    unfolding opening open_endpoint open_store open_out
    open_refused t = decided open_by q t (record { reply = t; endpoint = refl; store = refl; out = refl })

    pub open_leaves : {v : Done} {i : ℕ} {e' : Endpoint} {store' out' : List ℕ} → reply ≡ Ok v → i ≡ row_of id → store' ≡ cond (in_row (length store) i 0) (clear_row store i) store
        → out' ≡ fitted (short_record OPEN id) out → e' ≡ opened e i → Leaves (opening e store id out) (record { reply = reply; endpoint = e' }) store' out'
    unfolding opening open_endpoint open_store open_out
    open_leaves t i f o p =
        let d = open_done e (length store) id (length out) (sym q ∙ t) in
        decided open_by q t (record { reply = t; endpoint = rw (p, i) refl; store = dropped store (row_of id) d.passed.whole (served-row id d.served) i f; out = o ∙ fitted-is (short_record OPEN id) out d.room })

  -- the other calls change the row that the identifier has
  changed : (change : Row → Row) {i : ℕ} {row row' : Row} {e' : Endpoint} → i ≡ row_of id → row ≡ row_at e i → row' ≡ change row → e' ≡ with_row e i row' → e' ≡ with_row e (row_of id) (change (row_for e id))
  changed change i x y p = rw (p, y, x, i) refl

  module _ (session : ℕ) where
    abbrev close_by : Reply → Outcome
    close_by r = record { reply = r; endpoint = close_endpoint e id r; store = close_store id r store; out = close_out id r out }

    module _ {reply : Reply} (q : reply ≡ close_reply e (length store) id session (length out)) where
      pub close_refused : {why : Refusal} → reply ≡ Err why → Leaves (closing e store id session out) (record { reply = reply; endpoint = e }) store out
      unfolding closing close_endpoint close_store close_out
      close_refused t = decided close_by q t (record { reply = t; endpoint = refl; store = refl; out = refl })

      pub close_leaves : {v : Done} {i : ℕ} {row row' : Row} {e' : Endpoint} {store' out' : List ℕ} → reply ≡ Ok v → i ≡ row_of id → store' ≡ cond (in_row (length store) i 0) (clear_row store i) store
          → out' ≡ fitted (short_record CLOSE id) out → row ≡ row_at e i → row' ≡ pending_row row → e' ≡ with_row e i row' → Leaves (closing e store id session out) (record { reply = reply; endpoint = e' }) store' out'
      unfolding closing close_endpoint close_store close_out
      close_leaves t i f o x y p =
          let d = close_done e (length store) id session (length out) (sym q ∙ t) in
          decided close_by q t (record { reply = t; endpoint = changed pending_row i x y p; store = dropped store (row_of id) d.passed.whole (served-row id d.named.served) i f; out = o ∙ fitted-is (short_record CLOSE id) out d.room })

    module _ (amount : ℕ) where
      abbrev request_by : Reply → Outcome
      request_by r = record { reply = r; endpoint = request_endpoint e id amount r; store = store; out = request_out id amount r out }

      module _ {reply : Reply} (q : reply ≡ request_reply e (length store) id session amount (length out)) where
        pub request_refused : {why : Refusal} → reply ≡ Err why → Leaves (requesting e store id session amount out) (record { reply = reply; endpoint = e }) store out
        unfolding requesting request_endpoint request_out
        request_refused t = decided request_by q t (record { reply = t; endpoint = refl; store = refl; out = refl })

        -- the later input count fits its type
        pub request_fits : {v : Done} {i : ℕ} {row : Row} → reply ≡ Ok v → i ≡ row_of id → row ≡ row_at e i → row.input + amount < 4294967296
        request_fits t i x = rw (x, i) (omega (arith, (request_done e (length store) id session amount (length out) (sym q ∙ t)).fits))

        pub request_leaves : {v : Done} {i : ℕ} {row row' : Row} {e' : Endpoint} {out' : List ℕ} → reply ≡ Ok v → i ≡ row_of id → out' ≡ fitted (long_record REQUEST id amount) out
            → row ≡ row_at e i → row' ≡ granted_row row amount → e' ≡ with_row e i row' → Leaves (requesting e store id session amount out) (record { reply = reply; endpoint = e' }) store out'
        unfolding requesting request_endpoint request_out
        request_leaves t i o x y p =
            let d = request_done e (length store) id session amount (length out) (sym q ∙ t) in
            decided request_by q t (record { reply = t; endpoint = changed (λ r. granted_row r amount) i x y p; store = refl; out = o ∙ fitted-is (long_record REQUEST id amount) out d.room })

    module _ (bytes : List ℕ) where
      abbrev transmit_by : Reply → Outcome
      transmit_by r = record { reply = r; endpoint = transmit_endpoint e id (length bytes) r; store = store; out = transmit_out id bytes r out }

      module _ {reply : Reply} (q : reply ≡ transmit_reply e (length store) id session (length bytes) (length out)) where
        pub transmit_refused : {why : Refusal} → reply ≡ Err why → Leaves (transmitting e store id session bytes out) (record { reply = reply; endpoint = e }) store out
        unfolding transmitting transmit_endpoint transmit_out
        transmit_refused t = decided transmit_by q t (record { reply = t; endpoint = refl; store = refl; out = refl })

        -- the count fits its type, and the output count does not fall below 0
        pub transmit_count : {v : Done} → reply ≡ Ok v → length bytes < 4294967296
        transmit_count t = let d = transmit_done e (length store) id session (length bytes) (length out) (sym q ∙ t) in omega (arith, d.granted, row_credit e (row_of id) d.passed.rules)

        pub transmit_fits : {v : Done} {i : ℕ} {row : Row} → reply ≡ Ok v → i ≡ row_of id → row ≡ row_at e i → length bytes ≤ row.output
        transmit_fits t i x = rw (x, i) (transmit_done e (length store) id session (length bytes) (length out) (sym q ∙ t)).granted

        pub transmit_leaves : {v : Done} {i : ℕ} {row row' : Row} {e' : Endpoint} {out' : List ℕ} → reply ≡ Ok v → i ≡ row_of id → row ≡ row_at e i → out' ≡ fitted (long_record TRANSMIT id (length bytes) ++ bytes) out
            → row' ≡ spent_row row (length bytes) → e' ≡ with_row e i row' → Leaves (transmitting e store id session bytes out) (record { reply = reply; endpoint = e' }) store out'
        unfolding transmitting transmit_endpoint transmit_out
        transmit_leaves t i x o y p =
            let d = transmit_done e (length store) id session (length bytes) (length out) (sym q ∙ t) in
            let head = long_record TRANSMIT id (length bytes) in
            decided transmit_by q t (record { reply = t; endpoint = changed (λ r. spent_row r (length bytes)) i x y p; store = refl; out = o ∙ fitted-is (head ++ bytes) out (omega (arith, d.room, length-append head bytes)) })

    abbrev read_by : Reply → Outcome
    read_by r = record { reply = r; endpoint = read_endpoint e id r; store = read_store e id r store; out = read_out id r store out }

    module _ {reply : Reply} (q : reply ≡ read_reply e (length store) id session (length out)) where
      pub read_refused : {why : Refusal} → reply ≡ Err why → Leaves (reading e store id session out) (record { reply = reply; endpoint = e }) store out
      unfolding reading read_endpoint read_store read_out
      read_refused t = decided read_by q t (record { reply = t; endpoint = refl; store = refl; out = refl })

      -- no more is read than is unread
      pub read_fits : {v : Done} {i : ℕ} {row : Row} → reply ≡ Ok v → i ≡ row_of id → row ≡ row_at e i → v.written ≤ row.unread
      read_fits t i x = rw (x, i) (omega (arith, (read_done e (length store) id session (length out) (sym q ∙ t)).written, min-le_left (row_for e id).unread (length out)))

      taken : {v : Done} {i : ℕ} {row : Row} → reply ≡ Ok v → i ≡ row_of id → row ≡ row_at e i → (in_row (length store) i row.unread && (leb v.written row.unread && leb v.written (length out))) ≡ true
      taken t i x =
          let d = read_done e (length store) id session (length out) (sym q ∙ t) in
          let m = min-le_right (row_for e id).unread (length out) in
          rw (x, i)
          (front_in (length store) (length out) (row_of id) (row_for e id).unread _ d.whole (served-row id d.named.served) (omega (arith, row_room e (row_of id) d.rules)) (read_fits t refl refl) (omega (arith, d.written)))

      pub read_leaves : {v : Done} {i : ℕ} {row row' : Row} {e' : Endpoint} {store' out' : List ℕ} → reply ≡ Ok v → i ≡ row_of id → row ≡ row_at e i
          → store' ≡ cond (in_row (length store) i row.unread && (leb v.written row.unread && leb v.written (length out))) (take_front store i row.unread v.written) store
          → out' ≡ cond (in_row (length store) i row.unread && (leb v.written row.unread && leb v.written (length out))) (written (front_of store i v.written) out) out
          → row' ≡ read_row row v.written → e' ≡ with_row e i row' → Leaves (reading e store id session out) (record { reply = Ok v; endpoint = e' }) store' out'
      unfolding reading read_endpoint read_store read_out
      read_leaves {v} t i x f o y p = decided read_by q t (record { reply = refl; endpoint = changed (λ r. read_row r v.written) i x y p; store = f ∙ rw (taken t i x, x, i) refl; out = o ∙ rw (taken t i x, i) refl })
