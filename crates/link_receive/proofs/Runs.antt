-- The loop of a run: what holds at its head, and each turn.
use mathlib.Core.Path.{◌≡◌, refl, sym, ap, ◌∙◌}
use mathlib.Core.Bool.{Bool, true, false, cond, ◌&&◌}
use mathlib.Core.List.{List, ◌++◌}
use Prim.Native.Nat.{ℕ, zero, suc, ◌+◌, ◌-◌, ◌<◌, ◌≤◌}
use native.Mathlib.Omega.{arith}
use borrow.Author.Tests.{ltb-false, ltb-true, le-leb, lt-leb, lt-ltb}
use lib.Dec.{ltb}
use lib.ListN.{length, take, drop, length-append, length-drop}
use lib.Seq.{length-take-le}
use Rattle.link_rows.specs.Limits.{CLOSEACK, REQUEST, TRANSMIT}
use Rattle.link_rows.specs.Rows.{row_for}
use Rattle.link_rows.specs.declared.Endpoint.{Endpoint}
use Rattle.link_rows.specs.declared.Record.{Record}
use Rattle.link_rows.specs.declared.Answer.{Answer}
use Rattle.link_rows.specs.declared.Refusal.{Refusal}
use borrow.Rule.Slice.PartMut.{mid_of}
use Rattle.link_rows.proofs.Front.{tail_lent}
use Rattle.link_rows.proofs.Laws.{and_left, and_right, and_false}
use Rattle.link_record_replies.specs.Records.{is, has_count, size_of, is_acked, ack_length, receive_reply}
use Rattle.link_replies.proofs.Done.{ready_done, ready_past}
use Rattle.link_record_replies.proofs.Done.{Received}
use Rattle.link_changes.specs.Outcome.{Outcome, Leaves}
use Rattle.link_bytes.specs.Records.{head_of, short_record, written}
use Rattle.link_bytes.proofs.Lent.{written-length}
use Rattle.link_receive.specs.Inner.{Ready}
use Rattle.link_receive.specs.Receive.{receive_out, receiving}
use Rattle.link_replies.specs.Calls.{ready}
use Rattle.link_receive.specs.Run.{Run, next_of, took, stopped, run_from, start_of, running}
use Rattle.link_receive.proofs.Taken.{receive_done}
use Rattle.link_receive.proofs.Long.{ready_kept, receive_long}
use Rattle.link_receive.proofs.Turns.{unready}
use Rattle.link_rows.specs.Replies.{Reply, done}
use Rattle.std.specs.Prelude.{Result, Ok, Err, ⊤}
use Rattle.link_rows.specs.declared.Done.{Done}

-- the record is there whole
pub size_there : (e : Endpoint) (h : Record) (out_len : ℕ) {v : Done} → Received e h out_len v → size_of h ≤ h.available
size_there e h out_len d = go (is TRANSMIT h) refl (is REQUEST h) refl
  where
    go : (t : Bool) → is TRANSMIT h ≡ t → (r : Bool) → is REQUEST h ≡ r → cond t (7 + h.count) (cond r 7 3) ≤ h.available
    go true p r q = ltb-false _ _ (and_false _ _ d.there p)
    go false p true q = ltb-false _ _ (and_false (has_count h) _ d.seven (rw q refl))
    go false p false q = d.three

-- there is room for what it writes
pub ack_fits : (e : Endpoint) (h : Record) (out_len : ℕ) {v : Done} → Received e h out_len v → ack_length (row_for e h.id) h ≤ out_len
ack_fits e h out_len d = go (is_acked (row_for e h.id) h) refl
  where
    go : (a : Bool) → is_acked (row_for e h.id) h ≡ a → cond a 3 0 ≤ out_len
    go true p = ltb-false _ _ (and_false (is_acked (row_for e h.id) h) _ d.room p)
    go false p = omega arith

-- an accepted record's bytes are among those lent, and what it writes has room
pub done_fits : (e : Endpoint) (store bytes out : List ℕ) {v : Done} → (receiving e store bytes out).reply ≡ Ok v → (v.used ≤ length bytes) × (v.written ≤ length out)
unfolding receiving head_of
done_fits e store bytes out q =
    let d = (receive_done e (length store) (head_of bytes) (length out) q).1 in
    (rw d.used (size_there e (head_of bytes) (length out) d), rw d.written (ack_fits e (head_of bytes) (length out) d))

-- the output keeps its length
pub out_long : (e : Endpoint) (store bytes out : List ℕ) → length (receiving e store bytes out).out ≡ length out
unfolding receiving receive_out
out_long e store bytes out = go (receive_reply e (length store) (head_of bytes) (length out)) refl
  where
    acked : (a : Bool) → (a && ltb (length out) 3) ≡ false → length (cond a (written (short_record CLOSEACK (head_of bytes).id) out) out) ≡ length out
    acked true p = written-length (short_record CLOSEACK (head_of bytes).id) out (ltb-false _ _ p)
    acked false p = refl

    go : (r : Reply) → receive_reply e (length store) (head_of bytes) (length out) ≡ r → length (receive_out e (head_of bytes) r out) ≡ length out
    go (Ok v) q = acked (is_acked (row_for e (head_of bytes).id) (head_of bytes)) (receive_done e (length store) (head_of bytes) (length out) q).1.room
    go (Err why) q = refl

-- a run's definition, a record at a time
pub one_more : (m : ℕ) (s : Run) (bytes : List ℕ) → s.used < length bytes → {v : Done} → (next_of s bytes).reply ≡ Ok v → run_from (suc m) s bytes ≡ run_from m (took s (next_of s bytes)) bytes
unfolding run_from
one_more m s bytes h q = rw (lt-leb _ _ h, q) refl

pub one_stops : (m : ℕ) (s : Run) (bytes : List ℕ) → s.used < length bytes → {why : Refusal} → (next_of s bytes).reply ≡ Err why → run_from (suc m) s bytes ≡ stopped s (next_of s bytes)
unfolding run_from
one_stops m s bytes h q = rw (lt-leb _ _ h, q) refl

none_left : (m : ℕ) (s : Run) (bytes : List ℕ) → (0 < m → length bytes ≤ s.used) → run_from m s bytes ≡ s
unfolding run_from
none_left zero s bytes h = refl
none_left (suc m) s bytes h = rw (le-leb _ _ (h (omega arith))) refl

-- what the loop's test says
pub tested : (a b c d : ℕ) → (ltb a b && ltb c d) ≡ true → (a < b) × (c < d)
tested a b c d h = (ltb-true _ _ (and_left (ltb a b) (ltb c d) h), ltb-true _ _ (and_right (ltb a b) (ltb c d) h))

-- a run that stands so
abbrev pub standing : Reply → ℕ → ℕ → ℕ → Endpoint → List ℕ → List ℕ → Run
standing stop accepted used sent e store out = record { accepted = accepted; used = used; written = sent; stop = stop; endpoint = e; store = store; out = out }

-- at the head of the loop: the rest of the run from here is the whole run
pub record At (n : ℕ) (s₀ : Run) (bytes : List ℕ) (s : Run) : Type 0 where
  pub count : s.accepted ≤ n
  pub within : s.used ≤ length bytes
  pub room : s.written ≤ length s.out
  pub ready : Ready s.endpoint s.store
  pub store_long : length s.store ≡ length s₀.store
  pub out_long : length s.out ≡ length s₀.out
  pub same : run_from (n - s.accepted) s bytes ≡ run_from n s₀ bytes

took-is : (s : Run) (o : Outcome) (a : Answer) (store' z out' : List ℕ) → Leaves o a store' z → {v : Done} → a.reply ≡ Ok v → out' ≡ take s.written s.out ++ z
    → took s o ≡ standing s.stop (s.accepted + 1) (s.used + v.used) (s.written + v.written) a.endpoint store' out'
unfolding took
took-is s o a store' z out' l q b = let r = sym l.reply ∙ q in rw (r, b, l.endpoint, l.store, l.out) refl

stopped-is : (s : Run) (o : Outcome) (a : Answer) (store' z out' : List ℕ) → Leaves o a store' z → out' ≡ take s.written s.out ++ z
    → stopped s o ≡ standing a.reply s.accepted s.used s.written a.endpoint store' out'
unfolding stopped
stopped-is s o a store' z out' l b = rw (b, l.reply, l.endpoint, l.store, l.out) refl

module _ (n : ℕ) (s₀ : Run) (bytes : List ℕ) (s : Run) (x : At n s₀ bytes s) where
  -- n records are accepted, or no byte is left
  pub at_end : (ltb s.accepted n && ltb s.used (length bytes)) ≡ false → run_from n s₀ bytes ≡ s
  at_end h = sym x.same ∙ none_left (n - s.accepted) s bytes (λ m. ltb-false _ _ (and_false (ltb s.accepted n) _ h (lt-ltb s.accepted n (omega arith))))

  module _ (more : s.accepted < n) (behind : s.used < length bytes) (a : Answer) (store' z out' : List ℕ) (l : Leaves (next_of s bytes) a store' z) (b : out' ≡ take s.written s.out ++ z) where
    some : n - s.accepted ≡ suc (n - (s.accepted + 1))
    some = omega arith

    pub out_kept : length out' ≡ length s.out
    unfolding next_of
    out_kept =
        let k : length z ≡ length (drop s.written s.out) = ap length l.out ∙ out_long s.endpoint s.store (drop s.used bytes) (drop s.written s.out) in
        let r = x.room in
        rw (b, length-append, length-take-le s.written s.out r) (omega (arith, k, length-drop s.written s.out))

    -- the record is refused: the run stops
    pub at_refusal : {why : Refusal} → a.reply ≡ Err why → run_from n s₀ bytes ≡ standing a.reply s.accepted s.used s.written a.endpoint store' out'
    at_refusal q =
        sym x.same
        ∙ ap (λ (m : ℕ). run_from m s bytes) some
        ∙ one_stops (n - (s.accepted + 1)) s bytes behind (sym l.reply ∙ q)
        ∙ stopped-is s (next_of s bytes) a store' z out' l b

    -- it is accepted: its bytes and what it writes have room, and the loop goes on
    pub fits : {v : Done} → a.reply ≡ Ok v → (s.used + v.used ≤ length bytes) × (s.written + v.written ≤ length s.out)
    unfolding next_of
    fits q =
        let f = done_fits s.endpoint s.store (drop s.used bytes) (drop s.written s.out) (sym l.reply ∙ q) in
        (omega (arith, f.0, length-drop s.used bytes, x.within), omega (arith, f.1, length-drop s.written s.out, x.room))

    kept : {v : Done} → a.reply ≡ Ok v → Ready a.endpoint store'
    unfolding next_of
    kept q = rw (l.endpoint, l.store) (ready_kept s.endpoint s.store (drop s.used bytes) (drop s.written s.out) x.ready (sym l.reply ∙ q))

    pub at_more : {v : Done} → a.reply ≡ Ok v → At n s₀ bytes (standing s.stop (s.accepted + 1) (s.used + v.used) (s.written + v.written) a.endpoint store' out')
    unfolding next_of
    at_more q = record {
      count = omega arith;
      within = (fits q).0;
      room = omega (arith, (fits q).1, out_kept);
      ready = kept q;
      store_long = ap length l.store ∙ receive_long s.endpoint s.store (drop s.used bytes) (drop s.written s.out) ∙ x.store_long;
      out_long = out_kept ∙ x.out_long;
      same =
          sym (one_more (n - (s.accepted + 1)) s bytes behind (sym l.reply ∙ q) ∙ ap (λ (r : Run). run_from (n - (s.accepted + 1)) r bytes) (took-is s (next_of s bytes) a store' z out' l q b))
          ∙ ap (λ (m : ℕ). run_from m s bytes) (sym some)
          ∙ x.same;
    }

-- the next record, as its bytes and its output are lent: those that are left
pub lent_next : (s : Run) (bytes : List ℕ) {a : Answer} {store' z : List ℕ} → Leaves (receiving s.endpoint s.store (mid_of s.used (length bytes - s.used) bytes) (mid_of s.written (length s.out - s.written) s.out)) a store' z
    → Leaves (next_of s bytes) a store' z
unfolding next_of
lent_next s bytes l = rw (tail_lent s.used bytes, tail_lent s.written s.out) at l

-- the whole run, by what the tests 2, 3 and 4 give
module _ (e : Endpoint) (store : List ℕ) {r : Result ⊤ Refusal} where
  pub run_ready : {o : ⊤} → r ≡ Ok o → r ≡ ready e (length store) (Ok tt) → Ready e store
  run_ready q k = let p = (ready_done e (length store) (Ok tt) (sym k ∙ q)).0 in record { whole = p.whole; rules = p.rules; up = p.up }

  module _ (n : ℕ) (bytes out : List ℕ) where
    pub run_refused : {why : Refusal} → r ≡ Err why → r ≡ ready e (length store) (Ok tt) → running n e store bytes out ≡ start_of (Err why) e store out
    unfolding running
    run_refused q k = let f = (unready e (length store) (done 0 0 0) (sym k ∙ q)).0 in rw f refl

    pub run_done : {o : ⊤} → r ≡ Ok o → r ≡ ready e (length store) (Ok tt) → running n e store bytes out ≡ run_from n (start_of (done 0 0 0) e store out) bytes
    unfolding running
    run_done q k = let f = ready_past e (length store) (done 0 0 0) (ready_done e (length store) (Ok tt) (sym k ∙ q)).0 in rw f refl
