-- A received record, accepted or refused: ledger, endpoint and store go on together.
use mathlib.Core.Path.{◌≡◌, refl, sym, ap, ◌∙◌}
use mathlib.Core.Bool.{Bool, true, false, cond, ◌&&◌, ◌||◌, or-true}
use mathlib.Core.List.{List}
use Prim.Native.Nat.{ℕ, ◌+◌}
use native.Mathlib.Omega.{arith}
use borrow.Author.Tests.{eqb-true, ltb-false}
use lib.Dec.{eqb, leb, ltb}
use lib.ListN.{length, drop, length-drop}
use lib.Seq.{length-take-le}
use Rattle.link_rows.specs.Limits.{OPEN, CLOSE, REQUEST, TRANSMIT}
use Rattle.link_rows.specs.Rows.{is_closed, is_open, row_of, row_for, with_row, is_spent}
use Rattle.link_rows.specs.Rules.{Rules}
use Rattle.link_rows.specs.Replies.{refusal_number, number_of, takes_down, Reply}
use Rattle.link_rows.specs.declared.Endpoint.{Endpoint}
use Rattle.link_rows.specs.declared.Record.{Record}
use Rattle.link_rows.specs.declared.Refusal.{Refusal}
use Rattle.link_rows.specs.declared.Refusal.TheVariants.{NotWhole, StoreLength, RowRules, LinkDown, NotServed, OtherHalf, NotClosed, SessionsSpent, WrongSession, NotOpen, Empty, AboveRoom, AboveOutput, OutputShort, UnknownOpcode, UnknownIdentifier, CountNotPositive, OpenInOurHalf, OpenOnRowNotClosed, OnClosedRow, CloseackNotPending, AboveInput, CreditOverflow, QueueOverflow, OpenSessionsSpent}
use Rattle.link_rows.proofs.Laws.{and_false}
use Rattle.link_record_replies.specs.Records.{is, has_count, receive_reply}
use Rattle.link_replies.proofs.Done.{Passed}
use Rattle.link_record_replies.proofs.Done.{Received}
use Rattle.link_changes.specs.Changes.{opened, closed_row, credited_row, fed_row, downed}
use Rattle.link_bytes.specs.Records.{head_of, data_of}
use Rattle.link_bytes.specs.Store.{clear_row, queue_data}
use Rattle.link_receive.specs.Receive.{received_row, receive_endpoint, receive_store, receiving}
use Rattle.link_receive.proofs.Taken.{receive_done}
use Rattle.link_receive.proofs.Kept.{receive_keeps_by}
use Rattle.link_history.specs.Ledger.{Account, Ledger, latest_of, drops, joins, counts, gains, change, opens, takes, grants, shuts, breaks, accepts, receives}
use Rattle.link_history.proofs.Invariant.{Inv}
use Rattle.link_history.proofs.Steps.{opens_inv, takes_inv, grants_inv, shuts_inv, breaks_inv}
use Rattle.std.specs.Prelude.{Ok, Err}
use Rattle.link_rows.specs.declared.Done.{Done}

-- a refusal's number is not 0
pub refused : (why : Refusal) → eqb (refusal_number why) 0 ≡ false
refused NotWhole = refl
refused StoreLength = refl
refused RowRules = refl
refused LinkDown = refl
refused NotServed = refl
refused OtherHalf = refl
refused NotClosed = refl
refused SessionsSpent = refl
refused WrongSession = refl
refused NotOpen = refl
refused Empty = refl
refused AboveRoom = refl
refused AboveOutput = refl
refused OutputShort = refl
refused UnknownOpcode = refl
refused UnknownIdentifier = refl
refused CountNotPositive = refl
refused OpenInOurHalf = refl
refused OpenOnRowNotClosed = refl
refused OnClosedRow = refl
refused CloseackNotPending = refl
refused AboveInput = refl
refused CreditOverflow = refl
refused QueueOverflow = refl
refused OpenSessionsSpent = refl

-- the later ledger shows the later endpoint and store, and no byte left by a read
pub record Kept (l l' : Ledger) (e : Endpoint) (store : List ℕ) : Type 0 where
  pub inv : Inv l' e store
  pub left : (s : ℕ) → (l'.account s).left ≡ (l.account s).left

-- a change of an account that keeps what left
pub left_kept : (l : Ledger) (n : ℕ) (f : Account → Account) → ((a : Account) → (f a).left ≡ a.left) → (s : ℕ) → (change l n f s).left ≡ (l.account s).left
left_kept l n f h s = go (eqb s n) refl
  where
    go : (b : Bool) → eqb s n ≡ b → (cond b (f (l.account n)) (l.account s)).left ≡ (l.account s).left
    go true q = h (l.account n) ∙ ap (λ (m : ℕ). (l.account m).left) (sym (eqb-true s n q))
    go false q = refl

module _ {l : Ledger} {e : Endpoint} {store : List ℕ} (i : Inv l e store) (h : Record) (bytes : List ℕ) (a : h.available ≡ length bytes) where
  opens_left : (s : ℕ) → ((opens h.id l).account s).left ≡ (l.account s).left
  unfolding opens
  opens_left = left_kept l (latest_of l h.id) drops (λ a. refl)

  takes_left : (s : ℕ) → ((takes h.id h.count (data_of h bytes) l).account s).left ≡ (l.account s).left
  unfolding takes
  takes_left = left_kept l (latest_of l h.id) (λ a. counts h.count (cond (is_open (l.table.status h.id)) (joins (data_of h bytes) a) a)) (λ a. go (is_open (l.table.status h.id)) a)
    where
      go : (b : Bool) (a : Account) → (cond b (joins (data_of h bytes) a) a).left ≡ a.left
      go true a = refl
      go false a = refl

  grants_left : (s : ℕ) → ((grants h.id h.count l).account s).left ≡ (l.account s).left
  unfolding grants
  grants_left = left_kept l (latest_of l h.id) (gains (cond (is_open (l.table.status h.id)) h.count 0)) (λ a. refl)

  shuts_left : (s : ℕ) → ((shuts h.id l).account s).left ≡ (l.account s).left
  unfolding shuts
  shuts_left s = refl

  -- a REQUEST or TRANSMIT is accepted on a row that is not closed
  not_closed : {out_len : ℕ} {v : Done} → Received e h out_len v → has_count h ≡ true → is_closed (row_for e h.id).status ≡ false
  not_closed d c = and_false (is CLOSE h || has_count h) _ d.alive (rw c (or-true (is CLOSE h)))

  -- an accepted record, by its opcode
  by_opcode : (o t q : Bool) → is OPEN h ≡ o → is TRANSMIT h ≡ t → is REQUEST h ≡ q → {out_len : ℕ} {v : Done} → Passed e (length store) → Received e h out_len v
      → Rules (cond o (opened e (row_of h.id)) (with_row e (row_of h.id) (cond q (credited_row (row_for e h.id) h.count) (cond t (fed_row (row_for e h.id) h.count) (closed_row (row_for e h.id)))))) ≡ true
      → Kept l (cond o (opens h.id l) (cond t (takes h.id h.count (data_of h bytes) l) (cond (q || t) (grants h.id h.count l) (shuts h.id l))))
      (cond o (opened e (row_of h.id)) (with_row e (row_of h.id) (cond q (credited_row (row_for e h.id) h.count) (cond t (fed_row (row_for e h.id) h.count) (closed_row (row_for e h.id))))))
      (cond o (clear_row store (row_of h.id)) (cond (t && is_open (row_for e h.id).status) (queue_data store (row_of h.id) (row_for e h.id).unread (data_of h bytes)) store))
  by_opcode true t q oe te qe p d k = record { inv = opens_inv i h.id d.served (and_false (is OPEN h) (is_spent e) d.spare oe) p.up; left = opens_left }
  by_opcode false true true oe te qe p d k = absurd (omega (arith, eqb-true h.opcode TRANSMIT te, eqb-true h.opcode REQUEST qe))
  by_opcode false true false oe te qe p d k =
      let n : length (data_of h bytes) ≡ h.count = length-take-le h.count (drop 7 bytes) (omega (arith, length-drop 7 bytes, ltb-false h.available (7 + h.count) (and_false (is TRANSMIT h) (ltb h.available (7 + h.count)) d.there te))) in
      record {
        inv = takes_inv i h.id d.served h.count (data_of h bytes) n (not_closed d (rw (te, qe) refl)) (ltb-false (row_for e h.id).input h.count (and_false (is TRANSMIT h) (ltb (row_for e h.id).input h.count) d.granted te)) k;
        left = takes_left;
      }
  by_opcode false false true oe te qe p d k = record { inv = grants_inv i h.id d.served h.count (not_closed d (rw (te, qe) refl)) k; left = grants_left }
  by_opcode false false false oe te qe p d k = record { inv = shuts_inv i h.id d.served k; left = shuts_left }

  pub record_kept : (out_len : ℕ) → Kept l (cond (eqb (number_of (receive_reply e (length store) h out_len)) 0) (accepts h bytes l) (cond (leb 20 (number_of (receive_reply e (length store) h out_len))) (breaks l) l)) (receive_endpoint e h (receive_reply e (length store) h out_len)) (receive_store e h (receive_reply e (length store) h out_len) bytes store)
  unfolding receive_endpoint receive_store received_row accepts breaks
  record_kept out_len = go (receive_reply e (length store) h out_len) refl (receive_keeps_by e (length store) h out_len i.rules)
    where
      down : (b : Bool) → Kept l (cond b (breaks l) l) (cond b (downed e) e) store
      down true = record { inv = breaks_inv i; left = λ s. refl }
      down false = record { inv = i; left = λ s. refl }

      go : (r : Reply) → receive_reply e (length store) h out_len ≡ r → Rules (receive_endpoint e h r) ≡ true
          → Kept l (cond (eqb (number_of r) 0) (accepts h bytes l) (cond (leb 20 (number_of r)) (breaks l) l)) (receive_endpoint e h r) (receive_store e h r bytes store)
      go (Ok v) q k = let d = receive_done e (length store) h out_len q in by_opcode (is OPEN h) (is TRANSMIT h) (is REQUEST h) refl refl refl d.0 d.1 k
      go (Err why) q k = rw (refused why) (down (takes_down why))

-- a single receive
pub receive_kept : {l : Ledger} {e : Endpoint} {store : List ℕ} → Inv l e store → (bytes out : List ℕ)
    → Kept l (receives (number_of (receiving e store bytes out).reply) bytes l) (receiving e store bytes out).endpoint (receiving e store bytes out).store
unfolding receiving receives head_of
receive_kept i bytes out = record_kept i (head_of bytes) bytes refl (length out)
