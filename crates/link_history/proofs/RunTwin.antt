-- Two runs whose records differ in other sessions' data and in nobody's bytes alone, on stores that agree on this session's rows.
use mathlib.Core.Path.{◌≡◌, refl, sym, ap, ◌∙◌}
use mathlib.Core.Bool.{Bool, true, false, cond}
use mathlib.Core.List.{List}
use Prim.Native.Nat.{ℕ, zero, suc, ◌+◌}
use native.Mathlib.Omega.{arith}
use lib.Dec.{leb}
use lib.ListN.{length, drop, length-drop}
use lib.Seq.{drop-drop}
use Rattle.link_rows.specs.Replies.{refuse, on_done, number_of, used_by, Reply, done}
use Rattle.link_rows.specs.declared.Endpoint.{Endpoint}
use Rattle.link_rows.specs.declared.Refusal.TheVariants.{LinkDown}
use Rattle.link_record_replies.specs.Records.{size_of}
use Rattle.link_changes.specs.Outcome.{Outcome}
use Rattle.link_bytes.specs.Records.{head_of}
use Rattle.link_receive.proofs.Long.{receive_long}
use Rattle.link_receive.specs.Run.{Run, next_of, took, stopped, run_from, start_of, running}
use Rattle.link_history.specs.Ledger.{Ledger, receives}
use Rattle.link_history.specs.Statement.{AlikeRecords, AlikeRuns}
use Rattle.link_history.proofs.Invariant.{Inv}
use Rattle.link_history.proofs.Receive.{refused, Kept}
use Rattle.link_history.proofs.Run.{Ran, run_from_lem, used_size, next_kept, ready-is}
use Rattle.link_history.proofs.Agree.{Agree}
use Rattle.link_history.proofs.Trimmed.{trimmed}
use Rattle.link_history.proofs.Visible.{alike_head, alike_data}
use Rattle.link_history.proofs.Twin.{swap, receive_swap, receive_agree}
use Rattle.std.specs.Prelude.{Ok, Err}

-- a run with another store
abbrev pub other : Run → List ℕ → Run
other s y = record { accepted = s.accepted; used = s.used; written = s.written; stop = s.stop; endpoint = s.endpoint; store = y; out = s.out }

-- g is f but for the store, which agrees with f's on the rows of t
pub record RunTwin (t : ℕ) (f g : Run) : Type 0 where
  pub store : List ℕ
  pub same : g ≡ other f store
  pub agree : Agree t f.endpoint f.store store

-- one record in both
module _ (t : ℕ) (s : Run) (y b d : List ℕ) (l : Ledger) (i : Inv l s.endpoint s.store) (ly : length y ≡ 32768) (a : Agree t s.endpoint s.store y)
    (ld : length (drop s.used b) ≡ length (drop s.used d)) (al : AlikeRecords t l (drop s.used b) (drop s.used d)) where
  head : trimmed (head_of (drop s.used b)) ≡ trimmed (head_of (drop s.used d))
  head = alike_head t l (drop s.used b) (drop s.used d) ld al

  next_swap : next_of (other s y) d ≡ swap (next_of s b) (next_of (other s y) d).store
  unfolding next_of
  next_swap = receive_swap s.endpoint s.store y (drop s.used b) (drop s.used d) (drop s.written s.out) head (i.whole ∙ sym ly)

  next_agree : Agree t (next_of s b).endpoint (next_of s b).store (next_of (other s y) d).store
  unfolding next_of
  next_agree = receive_agree s.endpoint s.store y (drop s.used b) (drop s.used d) (drop s.written s.out) head t l i ly a ld (alike_data t l (drop s.used b) (drop s.used d) ld al)

  next-long : length (next_of (other s y) d).store ≡ 32768
  unfolding next_of
  next-long = receive_long s.endpoint y (drop s.used d) (drop s.written s.out) ∙ ly

drops-length : (n : ℕ) (b d : List ℕ) → length b ≡ length d → length (drop n b) ≡ length (drop n d)
drops-length n b d h = rw (length-drop, length-drop, h) refl

module _ (n t : ℕ) (s : Run) (y b d : List ℕ) (l : Ledger) (i : Inv l s.endpoint s.store) (z : s.stop ≡ done 0 0 0) (ly : length y ≡ 32768) (a : Agree t s.endpoint s.store y) (lb : length b ≡ length d) (m : ℕ)
    (rest : (k : Ledger) → Inv k (next_of s b).endpoint (next_of s b).store → (x : List ℕ) → length x ≡ 32768 → Agree t (next_of s b).endpoint (next_of s b).store x → (j : ℕ)
    → (run_from n (took s (next_of s b)) b).accepted ≡ (took s (next_of s b)).accepted + j
    → AlikeRuns t k j (number_of (run_from n (took s (next_of s b)) b).stop) (drop (took s (next_of s b)).used b) (drop (took s (next_of s b)).used d)
    → RunTwin t (run_from n (took s (next_of s b)) b) (run_from n (other (took s (next_of s b)) x) d)) where
  goes : (r : Reply) → (next_of s b).reply ≡ r
      → (on_done r (run_from n (took s (next_of s b)) b) (stopped s (next_of s b))).accepted ≡ s.accepted + m
      → AlikeRuns t l m (number_of (on_done r (run_from n (took s (next_of s b)) b) (stopped s (next_of s b))).stop) (drop s.used b) (drop s.used d)
      → RunTwin t (on_done r (run_from n (took s (next_of s b)) b) (stopped s (next_of s b))) (on_done (next_of (other s y) d).reply (run_from n (took (other s y) (next_of (other s y) d)) d) (stopped (other s y) (next_of (other s y) d)))
  unfolding took stopped AlikeRuns
  goes (Ok values) q cnt al =
      let k : Kept l (receives 0 (drop s.used b) l) (next_of s b).endpoint (next_of s b).store = rw q at (next_kept s b l i) in
      let x : Ran (took s (next_of s b)) (run_from n (took s (next_of s b)) b) b (receives 0 (drop s.used b) l) = run_from_lem n (took s (next_of s b)) b (receives 0 (drop s.used b) l) k.inv z in
      let me : m ≡ suc x.more = omega (arith, cnt, x.count) in
      let al' : AlikeRuns t l (suc x.more) (number_of (run_from n (took s (next_of s b)) b).stop) (drop s.used b) (drop s.used d) = rw me at al in
      let dl : length (drop s.used b) ≡ length (drop s.used d) = drops-length s.used b d lb in
      let size : size_of (head_of (drop s.used b)) ≡ used_by (next_of s b).reply = sym (used_size s b q) ∙ ap used_by (sym q) in
      let db : drop (size_of (head_of (drop s.used b))) (drop s.used b) ≡ drop (s.used + used_by (next_of s b).reply) b = drop-drop (size_of (head_of (drop s.used b))) s.used b ∙ ap (λ (v : ℕ). drop (s.used + v) b) size in
      let dd : drop (size_of (head_of (drop s.used b))) (drop s.used d) ≡ drop (s.used + used_by (next_of s b).reply) d = drop-drop (size_of (head_of (drop s.used b))) s.used d ∙ ap (λ (v : ℕ). drop (s.used + v) d) size in
      let sw : next_of (other s y) d ≡ swap (next_of s b) (next_of (other s y) d).store = next_swap t s y b d l i ly a dl al'.0 in
      let ag : Agree t (next_of s b).endpoint (next_of s b).store (next_of (other s y) d).store = next_agree t s y b d l i ly a dl al'.0 in
      let al'' : AlikeRuns t (receives 0 (drop s.used b) l) x.more (number_of (run_from n (took s (next_of s b)) b).stop) (drop (s.used + used_by (next_of s b).reply) b) (drop (s.used + used_by (next_of s b).reply) d) = rw (db, dd) at al'.1 in
      let r : RunTwin t (run_from n (took s (next_of s b)) b) (run_from n (other (took s (next_of s b)) (next_of (other s y) d).store) d) = rest (receives 0 (drop s.used b) l) k.inv (next_of (other s y) d).store (next-long t s y b d l i ly a dl al'.0) ag x.more x.count al'' in
      let g : on_done (next_of (other s y) d).reply (run_from n (took (other s y) (next_of (other s y) d)) d) (stopped (other s y) (next_of (other s y) d)) ≡ run_from n (other (took s (next_of s b)) (next_of (other s y) d).store) d
      = ap (λ (o : Reply). on_done o (run_from n (took (other s y) (next_of (other s y) d)) d) (stopped (other s y) (next_of (other s y) d))) (ap (λ (o : Outcome). o.reply) sw ∙ q)
      ∙ ap (λ (o : Outcome). run_from n (took (other s y) o) d) sw in
      record { store = r.store; same = g ∙ r.same; agree = r.agree }
  goes (Err why) q cnt al =
      let me : m ≡ 0 = omega (arith, cnt) in
      let al' : AlikeRecords t l (drop s.used b) (drop s.used d) = (rw (me, q) at al) (refused why) in
      let dl : length (drop s.used b) ≡ length (drop s.used d) = drops-length s.used b d lb in
      let sw : next_of (other s y) d ≡ swap (next_of s b) (next_of (other s y) d).store = next_swap t s y b d l i ly a dl al' in
      let ag : Agree t (next_of s b).endpoint (next_of s b).store (next_of (other s y) d).store = next_agree t s y b d l i ly a dl al' in
      let g : on_done (next_of (other s y) d).reply (run_from n (took (other s y) (next_of (other s y) d)) d) (stopped (other s y) (next_of (other s y) d)) ≡ other (stopped s (next_of s b)) (next_of (other s y) d).store
      = ap (λ (o : Reply). on_done o (run_from n (took (other s y) (next_of (other s y) d)) d) (stopped (other s y) (next_of (other s y) d))) (ap (λ (o : Outcome). o.reply) sw ∙ q)
      ∙ ap (λ (o : Outcome). stopped (other s y) o) sw in
      record { store = (next_of (other s y) d).store; same = g; agree = ag }

  one_twin : (cond (leb (length b) s.used) s (on_done (next_of s b).reply (run_from n (took s (next_of s b)) b) (stopped s (next_of s b)))).accepted ≡ s.accepted + m
      → AlikeRuns t l m (number_of (cond (leb (length b) s.used) s (on_done (next_of s b).reply (run_from n (took s (next_of s b)) b) (stopped s (next_of s b)))).stop) (drop s.used b) (drop s.used d)
      → RunTwin t (cond (leb (length b) s.used) s (on_done (next_of s b).reply (run_from n (took s (next_of s b)) b) (stopped s (next_of s b))))
      (cond (leb (length b) s.used) (other s y) (on_done (next_of (other s y) d).reply (run_from n (took (other s y) (next_of (other s y) d)) d) (stopped (other s y) (next_of (other s y) d))))
  one_twin = ends (leb (length b) s.used)
    where
      ends : (p : Bool) → (cond p s (on_done (next_of s b).reply (run_from n (took s (next_of s b)) b) (stopped s (next_of s b)))).accepted ≡ s.accepted + m
          → AlikeRuns t l m (number_of (cond p s (on_done (next_of s b).reply (run_from n (took s (next_of s b)) b) (stopped s (next_of s b)))).stop) (drop s.used b) (drop s.used d)
          → RunTwin t (cond p s (on_done (next_of s b).reply (run_from n (took s (next_of s b)) b) (stopped s (next_of s b)))) (cond p (other s y) (on_done (next_of (other s y) d).reply (run_from n (took (other s y) (next_of (other s y) d)) d) (stopped (other s y) (next_of (other s y) d))))
      ends true cnt al = record { store = y; same = refl; agree = a }
      ends false cnt al = goes (next_of s b).reply refl cnt al

run_twin : (n t : ℕ) (s : Run) (y b d : List ℕ) (l : Ledger) → Inv l s.endpoint s.store → s.stop ≡ done 0 0 0 → length y ≡ 32768 → Agree t s.endpoint s.store y → length b ≡ length d → (m : ℕ)
    → (run_from n s b).accepted ≡ s.accepted + m → AlikeRuns t l m (number_of (run_from n s b).stop) (drop s.used b) (drop s.used d) → RunTwin t (run_from n s b) (run_from n (other s y) d)
unfolding run_from took
run_twin zero t s y b d l i z ly a lb m cnt al = record { store = y; same = refl; agree = a }
run_twin (suc n) t s y b d l i z ly a lb m cnt al =
    rw (← lb)
    (one_twin n t s y b d l i z ly a lb m (λ k j x lx ax v cv av. run_twin n t (took s (next_of s b)) x b d k j z lx ax lb v cv av) cnt al)

-- two runs
pub running_twin : (t n : ℕ) (l : Ledger) (e : Endpoint) (x y b d out : List ℕ) → Inv l e x → length y ≡ 32768 → Agree t e x y → length b ≡ length d
    → AlikeRuns t l (running n e x b out).accepted (number_of (running n e x b out).stop) b d → RunTwin t (running n e x b out) (running n e y d out)
unfolding running refuse
running_twin t n l e x y b d out i ly a lb =
    let lx : length y ≡ length x = ly ∙ sym i.whole in
    rw (lx, ready-is i (done 0 0 0)) (go e.down)
  where
    go : (p : Bool) → AlikeRuns t l (on_done (refuse LinkDown p (done 0 0 0)) (run_from n (start_of (refuse LinkDown p (done 0 0 0)) e x out) b) (start_of (refuse LinkDown p (done 0 0 0)) e x out)).accepted (number_of (on_done (refuse LinkDown p (done 0 0 0)) (run_from n (start_of (refuse LinkDown p (done 0 0 0)) e x out) b) (start_of (refuse LinkDown p (done 0 0 0)) e x out)).stop) b d
        → RunTwin t (on_done (refuse LinkDown p (done 0 0 0)) (run_from n (start_of (refuse LinkDown p (done 0 0 0)) e x out) b) (start_of (refuse LinkDown p (done 0 0 0)) e x out)) (on_done (refuse LinkDown p (done 0 0 0)) (run_from n (start_of (refuse LinkDown p (done 0 0 0)) e y out) d) (start_of (refuse LinkDown p (done 0 0 0)) e y out))
    go true al = record { store = y; same = refl; agree = a }
    go false al = run_twin n t (start_of (done 0 0 0) e x out) y b d l i refl ly a lb (run_from n (start_of (done 0 0 0) e x out) b).accepted (omega arith) al
