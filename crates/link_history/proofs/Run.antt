-- A run, record by record: ledger, endpoint and store go on together through those accepted, and through the one that stops it.
use mathlib.Core.Path.{◌≡◌, refl, sym, ap, ◌∙◌}
use mathlib.Core.Bool.{Bool, true, false, cond}
use mathlib.Core.List.{List}
use Prim.Native.Nat.{ℕ, zero, suc, ◌+◌}
use native.Mathlib.Omega.{arith}
use lib.Dec.{leb}
use lib.ListN.{length, drop}
use lib.Seq.{drop-drop}
use Rattle.link_rows.specs.Replies.{refuse, on_done, number_of, session_of, used_by, Reply, done}
use Rattle.link_rows.specs.declared.Endpoint.{Endpoint}
use Rattle.link_rows.specs.declared.Refusal.TheVariants.{LinkDown}
use Rattle.link_replies.specs.Calls.{checked, ready}
use Rattle.link_record_replies.specs.Records.{size_of}
use Rattle.link_bytes.specs.Records.{head_of}
use Rattle.link_receive.specs.Receive.{receiving}
use Rattle.link_receive.proofs.Taken.{receive_done}
use Rattle.link_receive.specs.Run.{Run, next_of, took, stopped, run_from, start_of, running}
use Rattle.link_history.specs.Ledger.{Ledger, receives, runs}
use Rattle.link_history.proofs.Invariant.{Inv}
use Rattle.link_history.proofs.Receive.{refused, Kept, receive_kept}
use Rattle.std.specs.Prelude.{Ok, Err}
use Rattle.link_rows.specs.declared.Done.{Done}

-- from s the run came to f, by this many accepted records more, and perhaps one that stopped it
pub record Ran (s f : Run) (bytes : List ℕ) (l : Ledger) : Type 0 where
  pub more : ℕ
  pub count : f.accepted ≡ s.accepted + more
  pub silent : session_of f.stop ≡ 0
  pub kept : Kept l (runs more (number_of f.stop) (drop s.used bytes) l) f.endpoint f.store

-- nothing more is received
stays : (s : Run) (bytes : List ℕ) (l : Ledger) → Inv l s.endpoint s.store → s.stop ≡ done 0 0 0 → Ran s s bytes l
unfolding runs
stays s bytes l i z = record { more = 0; count = omega arith; silent = rw z refl; kept = rw z (record { inv = i; left = λ t. refl }) }

-- an accepted record's bytes are those reported
pub used_size : (s : Run) (bytes : List ℕ) {v : Done} → (next_of s bytes).reply ≡ Ok v → v.used ≡ size_of (head_of (drop s.used bytes))
unfolding next_of receiving
used_size s bytes q = (receive_done s.endpoint (length s.store) (head_of (drop s.used bytes)) _ q).1.used

pub next_kept : (s : Run) (bytes : List ℕ) (l : Ledger) → Inv l s.endpoint s.store
    → Kept l (receives (number_of (next_of s bytes).reply) (drop s.used bytes) l) (next_of s bytes).endpoint (next_of s bytes).store
unfolding next_of
next_kept s bytes l i = receive_kept i (drop s.used bytes) _

-- one record, if there is one, and then the rest
module _ (n : ℕ) (s : Run) (bytes : List ℕ) (l : Ledger) (i : Inv l s.endpoint s.store) (z : s.stop ≡ done 0 0 0)
    (rest : (m : Ledger) → Inv m (next_of s bytes).endpoint (next_of s bytes).store → Ran (took s (next_of s bytes)) (run_from n (took s (next_of s bytes)) bytes) bytes m) where
  goes : (r : Reply) → (next_of s bytes).reply ≡ r → Ran s (on_done r (run_from n (took s (next_of s bytes)) bytes) (stopped s (next_of s bytes))) bytes l
  unfolding took stopped runs
  goes (Ok v) q =
      let k : Kept l (receives 0 (drop s.used bytes) l) (next_of s bytes).endpoint (next_of s bytes).store = rw q at (next_kept s bytes l i) in
      let x = rest (receives 0 (drop s.used bytes) l) k.inv in
      let b : drop (size_of (head_of (drop s.used bytes))) (drop s.used bytes) ≡ drop (s.used + used_by (next_of s bytes).reply) bytes = drop-drop (size_of (head_of (drop s.used bytes))) s.used bytes ∙ ap (λ (m : ℕ). drop (s.used + m) bytes) (sym (used_size s bytes q) ∙ ap used_by (sym q)) in
      record {
        more = suc x.more;
        count = x.count ∙ omega arith;
        silent = x.silent;
        kept = record { inv = rw b x.kept.inv; left = λ t. rw b (x.kept.left t) ∙ k.left t };
      }
  goes (Err why) q = record { more = 0; count = omega arith; silent = rw q refl; kept = rw (q, refused why) (rw q at (next_kept s bytes l i)) }

  one_more : Ran s (cond (leb (length bytes) s.used) s (on_done (next_of s bytes).reply (run_from n (took s (next_of s bytes)) bytes) (stopped s (next_of s bytes)))) bytes l
  one_more = ends (leb (length bytes) s.used)
    where
      ends : (b : Bool) → Ran s (cond b s (on_done (next_of s bytes).reply (run_from n (took s (next_of s bytes)) bytes) (stopped s (next_of s bytes)))) bytes l
      ends true = stays s bytes l i z
      ends false = goes (next_of s bytes).reply refl

pub run_from_lem : (n : ℕ) (s : Run) (bytes : List ℕ) (l : Ledger) → Inv l s.endpoint s.store → s.stop ≡ done 0 0 0 → Ran s (run_from n s bytes) bytes l
unfolding run_from took
run_from_lem zero s bytes l i z = stays s bytes l i z
run_from_lem (suc n) s bytes l i z = one_more n s bytes l i z (λ m j. run_from_lem n (took s (next_of s bytes)) bytes m j z)

-- tests 2 and 3 pass
pub ready-is : {l : Ledger} {e : Endpoint} {store : List ℕ} → Inv l e store → (rest : Reply) → ready e (length store) rest ≡ refuse LinkDown e.down rest
unfolding ready checked refuse
ready-is i rest = rw (i.whole, i.rules) refl

-- a run
pub record RunKept (l : Ledger) (f : Run) (bytes : List ℕ) : Type 0 where
  pub silent : session_of f.stop ≡ 0
  pub kept : Kept l (runs f.accepted (number_of f.stop) bytes l) f.endpoint f.store

pub run_kept : {l : Ledger} {e : Endpoint} {store : List ℕ} → Inv l e store → (n : ℕ) (bytes out : List ℕ) → RunKept l (running n e store bytes out) bytes
unfolding running refuse runs receives
run_kept {l} {e} {store} i n bytes out = rw (ready-is i (done 0 0 0)) (go e.down)
  where
    go : (b : Bool) → RunKept l (on_done (refuse LinkDown b (done 0 0 0)) (run_from n (start_of (refuse LinkDown b (done 0 0 0)) e store out) bytes) (start_of (refuse LinkDown b (done 0 0 0)) e store out)) bytes
    go true = record { silent = refl; kept = record { inv = i; left = λ s. refl } }
    go false =
        let x = run_from_lem n (start_of (done 0 0 0) e store out) bytes l i refl in
        let c : (run_from n (start_of (done 0 0 0) e store out) bytes).accepted ≡ x.more = omega (arith, x.count) in
        record { silent = x.silent; kept = rw c x.kept }
