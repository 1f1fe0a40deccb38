-- A run is its single receives, and its accepted count is that of the accepted ones.
use mathlib.Core.Path.{◌≡◌, refl, sym, ap, ◌∙◌}
use mathlib.Core.Bool.{Bool, true, false, not, cond}
use mathlib.Core.List.{List, [], ◌∷◌, ◌++◌}
use Prim.Native.Nat.{ℕ, zero, suc, ◌+◌, ◌≤◌}
use native.Mathlib.Omega.{arith}
use borrow.Author.Tests.{leb-true, leb-false, eq-eqb, ne_eqb}
use lib.Dec.{eqb, leb}
use lib.ListN.{length, take, drop, length-append, length-drop}
use lib.Seq.{length-take-le, drop-drop, drop-append-add}
use Rattle.link_rows.specs.Limits.{CLOSEACK}
use Rattle.link_rows.specs.Rows.{row_for}
use Rattle.link_rows.specs.Rules.{Rules}
use Rattle.link_rows.specs.Replies.{refuse, on_done, used_by, written_by, Reply, done}
use Rattle.link_rows.specs.declared.Endpoint.{Endpoint}
use Rattle.link_rows.specs.declared.Refusal.{Refusal}
use Rattle.link_rows.specs.declared.Refusal.TheVariants.{StoreLength, RowRules, LinkDown}
use Rattle.link_replies.specs.Calls.{checked, ready}
use Rattle.link_record_replies.specs.Records.{is_acked, record_reply, receive_reply}
use Rattle.link_changes.specs.Outcome.{Outcome}
use Rattle.link_bytes.specs.Records.{head_of, short_record, written}
use Rattle.link_receive.specs.Receive.{receive_out, receiving}
use Rattle.link_receive.proofs.Taken.{receive_done}
use Rattle.link_receive.specs.Run.{Run, next_of, took, stopped, run_from, start_of, running}
use Rattle.link_run.specs.Singles.{singles, accepted_of, handled}
use Rattle.std.specs.Prelude.{Ok, Err}
use Rattle.link_rows.specs.declared.Done.{Done}

-- what an accepted record writes is in its output
wrote : (e : Endpoint) (store bytes out : List ℕ) {v : Done} → (receiving e store bytes out).reply ≡ Ok v → v.written ≤ length (receiving e store bytes out).out
unfolding receiving receive_out
wrote e store bytes out {v} q =
    let d = receive_done e (length store) (head_of bytes) (length out) q in
    rw q (go (is_acked (row_for e (head_of bytes).id) (head_of bytes)) d.1.written)
  where
    go : (b : Bool) → v.written ≡ cond b 3 0 → v.written ≤ length (cond b (written (short_record CLOSEACK (head_of bytes).id) out) out)
    go true k = omega (arith, length-append (short_record CLOSEACK (head_of bytes).id) (drop 3 out))
    go false k = omega arith

-- no bytes are left
none_left : (u : ℕ) (bytes : List ℕ) → leb (length bytes) u ≡ eqb (length (drop u bytes)) 0
none_left u bytes = go (leb (length bytes) u) refl
  where
    go : (b : Bool) → leb (length bytes) u ≡ b → b ≡ eqb (length (drop u bytes)) 0
    go true k = sym (eq-eqb (length (drop u bytes)) 0 (omega (arith, length-drop u bytes, leb-true (length bytes) u k)))
    go false k = sym (ne_eqb (length (drop u bytes)) 0 (λ z. omega (arith, length-drop u bytes, leb-false (length bytes) u k)))

-- the output behind what was written
behind : (w k : ℕ) (out x : List ℕ) → w ≤ length out → drop (w + k) (take w out ++ x) ≡ drop k x
behind w k out x h =
    let t : length (take w out) ≡ w = length-take-le w out h in
    ap (λ (v : ℕ). drop (v + k) (take w out ++ x)) (sym t) ∙ drop-append-add (take w out) x k

module _ (n : ℕ) (s : Run) (bytes : List ℕ) (h : s.written ≤ length s.out)
    (rest : (took s (next_of s bytes)).written ≤ length (took s (next_of s bytes)).out
    → run_from n (took s (next_of s bytes)) bytes ≡ handled (took s (next_of s bytes)) (singles n (took s (next_of s bytes)).endpoint (took s (next_of s bytes)).store (drop (took s (next_of s bytes)).used bytes) (drop (took s (next_of s bytes)).written (took s (next_of s bytes)).out))) where
  goes : (r : Reply) → (next_of s bytes).reply ≡ r
      → on_done r (run_from n (took s (next_of s bytes)) bytes) (stopped s (next_of s bytes))
      ≡ handled (on_done r (took s (next_of s bytes)) (stopped s (next_of s bytes))) (on_done r (singles n (next_of s bytes).endpoint (next_of s bytes).store (drop (used_by r) (drop s.used bytes)) (drop (written_by r) (next_of s bytes).out)) [])
  unfolding took handled next_of
  goes (Ok v) q =
      let k : v.written ≤ length (next_of s bytes).out = wrote s.endpoint s.store (drop s.used bytes) (drop s.written s.out) q in
      let uu : used_by (next_of s bytes).reply ≡ v.used = ap used_by q in
      let ww : written_by (next_of s bytes).reply ≡ v.written = ap written_by q in
      let lt : length (take s.written s.out) ≡ s.written = length-take-le s.written s.out h in
      rest (omega (arith, ww, lt, length-append (take s.written s.out) (next_of s bytes).out))
      ∙ rw (uu, ww, behind s.written v.written s.out (next_of s bytes).out h, drop-drop v.used s.used bytes) refl
  goes (Err why) q = refl

-- the run from s is its single receives
pub run_singles : (n : ℕ) (s : Run) (bytes : List ℕ) → s.written ≤ length s.out → run_from n s bytes ≡ handled s (singles n s.endpoint s.store (drop s.used bytes) (drop s.written s.out))
unfolding run_from singles handled next_of
run_singles zero s bytes h = refl
run_singles (suc n) s bytes h =
    rw (none_left s.used bytes)
    (ends (eqb (length (drop s.used bytes)) 0) (goes n s bytes h (run_singles n (took s (next_of s bytes)) bytes) (next_of s bytes).reply refl))
  where
    ends : (b : Bool)
        → on_done (next_of s bytes).reply (run_from n (took s (next_of s bytes)) bytes) (stopped s (next_of s bytes))
        ≡ handled (on_done (next_of s bytes).reply (took s (next_of s bytes)) (stopped s (next_of s bytes))) (on_done (next_of s bytes).reply (singles n (next_of s bytes).endpoint (next_of s bytes).store (drop (used_by (next_of s bytes).reply) (drop s.used bytes)) (drop (written_by (next_of s bytes).reply) (next_of s bytes).out)) [])
        → cond b s (on_done (next_of s bytes).reply (run_from n (took s (next_of s bytes)) bytes) (stopped s (next_of s bytes)))
        ≡ handled s (cond b [] (next_of s bytes ∷ on_done (next_of s bytes).reply (singles n (next_of s bytes).endpoint (next_of s bytes).store (drop (used_by (next_of s bytes).reply) (drop s.used bytes)) (drop (written_by (next_of s bytes).reply) (next_of s bytes).out)) []))
    ends true e = refl
    ends false e = e

-- it counts the accepted ones
handled-count : (os : List Outcome) (s : Run) → (handled s os).accepted ≡ s.accepted + accepted_of os
unfolding handled accepted_of took stopped
handled-count [] s = omega arith
handled-count (o ∷ os) s = go o.reply (handled-count os (on_done o.reply (took s o) (stopped s o)))
  where
    go : (r : Reply) → (handled (on_done r (took s o) (stopped s o)) os).accepted ≡ (on_done r (took s o) (stopped s o)).accepted + accepted_of os
        → (handled (on_done r (took s o) (stopped s o)) os).accepted ≡ s.accepted + (on_done r 1 0 + accepted_of os)
    go (Ok v) e = omega (arith, e)
    go (Err why) e = omega (arith, e)

-- where 2, 3 or 4 refuses, whatever comes after is refused by it
ready_refused : (e : Endpoint) (n : ℕ) (rest : Reply) (why : Refusal) → ready e n (done 0 0 0) ≡ Err why → ready e n rest ≡ Err why
unfolding ready checked refuse
ready_refused e n rest why = go (not (eqb n 32768)) (not (Rules e)) e.down
  where
    go : (a b c : Bool) → refuse StoreLength a (refuse RowRules b (refuse LinkDown c (done 0 0 0))) ≡ Err why → refuse StoreLength a (refuse RowRules b (refuse LinkDown c rest)) ≡ Err why
    go true b c e = e
    go false true c e = e
    go false false true e = e
    go false false false e = let z : ◌≡◌ {A = ℕ} 0 1 = cc in absurd (omega arith)

-- then none is accepted
refused_none : (n : ℕ) (e : Endpoint) (store bytes out : List ℕ) (why : Refusal) → (receiving e store bytes out).reply ≡ Err why → accepted_of (singles n e store bytes out) ≡ 0
unfolding singles accepted_of
refused_none zero e store bytes out why q = refl
refused_none (suc n) e store bytes out why q = end (eqb (length bytes) 0)
  where
    end : (b : Bool) → accepted_of (cond b [] (receiving e store bytes out ∷ on_done (receiving e store bytes out).reply (singles n (receiving e store bytes out).endpoint (receiving e store bytes out).store (drop (used_by (receiving e store bytes out).reply) bytes) (drop (written_by (receiving e store bytes out).reply) (receiving e store bytes out).out)) [])) ≡ 0
    end true = refl
    end false = rw q refl

receive_refused : (e : Endpoint) (store bytes out : List ℕ) (why : Refusal) → ready e (length store) (done 0 0 0) ≡ Err why → (receiving e store bytes out).reply ≡ Err why
unfolding receiving receive_reply
receive_refused e store bytes out why q = ready_refused e (length store) (record_reply e (head_of bytes) (length out)) why q

-- the number that a run reports is that of the accepted steps of the single receive, for all inputs
pub run_accepted : (n : ℕ) (e : Endpoint) (store bytes out : List ℕ) → (running n e store bytes out).accepted ≡ accepted_of (singles n e store bytes out)
unfolding running
run_accepted n e store bytes out = go (ready e (length store) (done 0 0 0)) refl
  where
    go : (r : Reply) → ready e (length store) (done 0 0 0) ≡ r → (on_done r (run_from n (start_of r e store out) bytes) (start_of r e store out)).accepted ≡ accepted_of (singles n e store bytes out)
    go (Ok v) q =
        ap (λ (f : Run). f.accepted) (run_singles n (start_of (Ok v) e store out) bytes (omega arith)) ∙ handled-count (singles n e store bytes out) (start_of (Ok v) e store out) ∙ omega arith
    go (Err why) q = sym (refused_none n e store bytes out why (receive_refused e store bytes out why q))
