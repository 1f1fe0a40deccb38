-- Demand 1: what a refusal leaves.
use Prim.Native.Nat.{ℕ}
use mathlib.Core.Path.{◌≡◌, refl, ap}
use mathlib.Core.Bool.{Bool, true, false, cond}
use mathlib.Core.List.{List, []}
use lib.ListN.{length}
use lib.Dec.{eqb}
use native.Mathlib.Omega.{arith}
use Rattle.wire.specs.declared.Fault.{Fault}
use Rattle.wire.specs.Reading.{refused}
use Rattle.message_read.specs.Reading.{reading}
use Rattle.message_choice.specs.Choice.{chosen}
use Rattle.message_lent.specs.Requests.{Request}
use Rattle.message_verdict.specs.Writing.{writing, written}
use Rattle.link_rows.specs.Limits.{store_length}
use Rattle.link_rows.specs.Rows.{fresh_endpoint}
use Rattle.link_rows.specs.Replies.{refuse, takes_down, session_of}
use Rattle.link_rows.specs.declared.Endpoint.{Endpoint}
use Rattle.link_rows.specs.declared.Refusal.{Refusal}
use Rattle.link_rows.specs.declared.Refusal.TheVariants.{StoreLength, RowRules, LinkDown, NotServed, OtherHalf, NotClosed, SessionsSpent, WrongSession, NotOpen, Empty, AboveRoom, AboveOutput, OutputShort}
use Rattle.std.specs.Prelude.{Err}
use Rattle.link_rows.specs.Replies.{Reply, done}
use Rattle.link_replies.specs.Calls.{checked, ready, named, make_reply, open_reply, close_reply, request_reply, transmit_reply, read_reply}
use Rattle.link_changes.specs.Changes.{downed}
use Rattle.link_calls.specs.Calls as calls
use Rattle.link_receive.specs.Receive.{receiving, receive_endpoint, receive_store, receive_out}
use Rattle.link_receive.specs.Run.{Run, running, start_of}
use Rattle.link_history.specs.Calls.{Call, Opening, Closing, Requesting, Transmitting, Reading, Receiving, Running, World, Step, single, several, step}
use Rattle.claims.specs.Claims.{RefusedReading, RefusedWriting, lent_output, is_single, RefusedCall, Reports}

pub reading_refused : (v : ℕ) (m : List ℕ) (f : Fault) (p : ℕ) → reading v m ≡ Err (refused f p) → RefusedReading v m f p
unfolding chosen
reading_refused v m f p h = record {
  type = rw h refl;
  used = rw h refl;
  place = rw h refl;
  correlation = rw h refl;
  part = λ r. rw h ((refl, refl));
  element = λ l n r. rw h ((refl, refl));
  number = λ r. rw h refl;
  xid = λ x. rw h refl;
  count = λ l. rw h refl;
  element_number = λ l n r. rw h refl;
  places = λ r l n x. rw h ((refl, refl, refl, refl));
  chosen = rw h refl;
}

pub writing_refused : (v : ℕ) (q : Request) (out : List ℕ) (f : Fault) → writing v q (length out) ≡ Err f → RefusedWriting v q out
unfolding written
writing_refused v q out f h = record { output = rw h refl; used = rw h refl; part = rw h refl }

-- ---- our calls are never answered 20 or above

-- a test of a low number before replies with low numbers
abbrev Low : Reply → Type 0
Low r = (why : Refusal) → r ≡ Err why → takes_down why ≡ false

low_done : (a u n : ℕ) → Low (done a u n)
low_done a u n why h = let k : ◌≡◌ {A = ℕ} 0 1 = cc in absurd (omega arith)

low_refuse : (why : Refusal) (b : Bool) (rest : Reply) → takes_down why ≡ false → Low rest → Low (refuse why b rest)
unfolding refuse
low_refuse why true rest h low other e = let k : why ≡ other = cc in rw (← k) h
low_refuse why false rest h low other e = low other e

low_checked : (e : Endpoint) (n : ℕ) (rest : Reply) → Low rest → Low (checked e n rest)
unfolding checked
low_checked e n rest low = low_refuse StoreLength _ _ refl (low_refuse RowRules _ rest refl low)

low_ready : (e : Endpoint) (n : ℕ) (rest : Reply) → Low rest → Low (ready e n rest)
unfolding ready
low_ready e n rest low = low_checked e n _ (low_refuse LinkDown _ rest refl low)

low_named : (e : Endpoint) (id session : ℕ) (rest : Reply) → Low rest → Low (named e id session rest)
unfolding named
low_named e id session rest low = low_refuse NotServed _ _ refl (low_refuse WrongSession _ rest refl low)

module _ (e : Endpoint) (n id : ℕ) where
  low_open : (k : ℕ) → Low (open_reply e n id k)
  unfolding open_reply
  low_open k =
      low_ready e n _
      (low_refuse NotServed _ _ refl
      (low_refuse OtherHalf _ _ refl
      (low_refuse NotClosed _ _ refl
      (low_refuse SessionsSpent _ _ refl
      (low_refuse OutputShort _ _ refl (low_done _ _ _))))))

  low_close : (s k : ℕ) → Low (close_reply e n id s k)
  unfolding close_reply
  low_close s k = low_ready e n _ (low_named e id s _ (low_refuse NotOpen _ _ refl (low_refuse OutputShort _ _ refl (low_done _ _ _))))

  low_request : (s a k : ℕ) → Low (request_reply e n id s a k)
  unfolding request_reply
  low_request s a k =
      low_ready e n _
      (low_named e id s _
      (low_refuse NotOpen _ _ refl
      (low_refuse Empty _ _ refl
      (low_refuse AboveRoom _ _ refl
      (low_refuse OutputShort _ _ refl (low_done _ _ _))))))

  low_transmit : (s a k : ℕ) → Low (transmit_reply e n id s a k)
  unfolding transmit_reply
  low_transmit s a k =
      low_ready e n _
      (low_named e id s _
      (low_refuse NotOpen _ _ refl
      (low_refuse Empty _ _ refl
      (low_refuse AboveOutput _ _ refl
      (low_refuse OutputShort _ _ refl (low_done _ _ _))))))

  low_read : (s k : ℕ) → Low (read_reply e n id s k)
  unfolding read_reply
  low_read s k = low_checked e n _ (low_named e id s _ (low_done _ _ _))

-- ---- a refused call

-- a call that leaves this
abbrev refusal : Refusal → Endpoint → List ℕ → List ℕ → Step
refusal why e store out = single (record { reply = Err why; endpoint = e; store = store; out = out })

leaves : (w : World) (c : Call) (why : Refusal) → step w c ≡ refusal why (cond (takes_down why) (downed w.endpoint) w.endpoint) w.store (lent_output c) → RefusedCall w c why
leaves w c why e = record {
  session = ap (λ (r : Step). session_of r.answer.reply) e;
  used = ap (λ (r : Step). r.answer.used) e;
  written = ap (λ (r : Step). r.answer.written) e;
  output = ap (λ (r : Step). r.out) e;
  store = ap (λ (r : Step). r.world.store) e;
  endpoint = ap (λ (r : Step). r.world.endpoint) e;
}

-- our calls leave all as it was; a record that is refused leaves the store and the output
pub call_refused : (w : World) (c : Call) (why : Refusal) → is_single c ≡ true → (step w c).answer.reply ≡ Err why → RefusedCall w c why
unfolding calls.opening calls.open_endpoint calls.open_store calls.open_out calls.closing calls.close_endpoint calls.close_store calls.close_out calls.requesting calls.request_endpoint calls.request_out calls.transmitting calls.transmit_endpoint calls.transmit_out calls.reading calls.read_endpoint calls.read_store calls.read_out receiving receive_endpoint receive_store receive_out
call_refused w (Opening id out) why i h = leaves w (Opening id out) why (rw (h, low_open w.endpoint (length w.store) id (length out) why h) refl)
call_refused w (Closing id s out) why i h = leaves w (Closing id s out) why (rw (h, low_close w.endpoint (length w.store) id s (length out) why h) refl)
call_refused w (Requesting id s a out) why i h = leaves w (Requesting id s a out) why (rw (h, low_request w.endpoint (length w.store) id s a (length out) why h) refl)
call_refused w (Transmitting id s b out) why i h = leaves w (Transmitting id s b out) why (rw (h, low_transmit w.endpoint (length w.store) id s (length b) (length out) why h) refl)
call_refused w (Reading id s out) why i h = leaves w (Reading id s out) why (rw (h, low_read w.endpoint (length w.store) id s (length out) why h) refl)
call_refused w (Receiving bytes out) why i h = leaves w (Receiving bytes out) why (rw h refl)
call_refused w (Running n bytes out) why i h = let k : ◌≡◌ {A = Bool} false true = i in absurd (let z : ◌≡◌ {A = ℕ} 0 1 = cc in omega arith)

-- a store of another length
pub make_refused : (began : Bool) (store : List ℕ) → eqb (length store) store_length ≡ false
    → calls.making began store ≡ record { reply = Err StoreLength; endpoint = downed (fresh_endpoint began); store = store; out = [] }
unfolding calls.making calls.make_endpoint calls.make_store make_reply refuse
make_refused began store h = rw h refl

-- ---- runs

-- a call of run reports and leaves what the run comes to
pub reports : (w : World) (n : ℕ) (bytes out : List ℕ) {r : Run} → running n w.endpoint w.store bytes out ≡ r → Reports (step w (Running n bytes out)) r
reports w n bytes out e = record {
  reply = ap (λ (s : Run). s.stop) e;
  accepted = ap (λ (s : Run). s.accepted) e;
  used = ap (λ (s : Run). s.used) e;
  written = ap (λ (s : Run). s.written) e;
  world = ap (λ (s : Run). (several s).world) e;
  out = ap (λ (s : Run). s.out) e;
}

-- a run that 2, 3 or 4 refuses
pub run_refused : (w : World) (n : ℕ) (bytes out : List ℕ) (why : Refusal) → ready w.endpoint (length w.store) (done 0 0 0) ≡ Err why
    → Reports (step w (Running n bytes out)) (start_of (Err why) w.endpoint w.store out)
unfolding running
run_refused w n bytes out why h = reports w n bytes out (rw h refl)
