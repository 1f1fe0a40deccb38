-- `Holds` of demand 3, over every list of calls.
use mathlib.Core.Path.{◌≡◌, refl, sym, ap, ◌∙◌}
use mathlib.Core.Bool.{Bool, true, false}
use mathlib.Core.List.{List, [], ◌∷◌, ◌++◌, append-nil, append_assoc}
use Prim.Native.Nat.{ℕ}
use borrow.Author.Tests.{eqb-true}
use lib.ListN.{length, get_or-replicate, length-replicate}
use Rattle.link_rows.specs.Limits.{store_length}
use Rattle.link_rows.specs.Rows.{is_closed, is_open, is_served, fresh_row, fresh_endpoint, row_of, row_at, row_for}
use Rattle.link_rows.specs.Rules.{Rules}
use Rattle.link_rows.specs.Replies.{refuse}
use Rattle.link_rows.specs.declared.Endpoint.{Endpoint}
use Rattle.link_rows.proofs.Laws.{row_keeps_lem, row_rule, served-row}
use Rattle.link_replies.specs.Calls.{make_reply}
use Rattle.link_changes.proofs.Kept.{fresh-rules}
use Rattle.link_bytes.specs.Store.{row_bytes, zeros}
use Rattle.link_calls.specs.Calls.{making, make_endpoint, make_store}
use Rattle.link_history.specs.Calls.{Call, World, step, start, after}
use Rattle.link_history.specs.Ledger.{Ledger, blank, note, ledger}
use Rattle.link_history.specs.Statement.{Shown, Holds, gives, given}
use Rattle.link_history.proofs.Invariant.{undropped, Inv}
use Rattle.link_history.proofs.Steps.{unread_length}
use Rattle.link_history.proofs.Answers.{next}

-- a fresh endpoint and its zeroed store show the blank ledger
fresh_inv : (began : Bool) (store : List ℕ) → length store ≡ 32768 → Inv blank (fresh_endpoint began) store
unfolding blank fresh_endpoint
fresh_inv began store l = record {
  whole = l;
  rules = fresh-rules began;
  rows = refl;
  last = refl;
  each = λ id sv. rw (get_or-replicate 32 (row_of id) fresh_row fresh_row (served-row id sv)) (record { status = refl; latest = refl; unread = refl; credit = record { input = λ q. refl; output = λ q. refl }; whole = λ q. refl });
  none = refl;
  above = λ s h. refl;
  sound = λ s. record { balance = refl; order = undropped refl };
  gone = λ s h. refl;
  unserved = λ id u. refl;
}

pub start_inv : (began : Bool) (store : List ℕ) → length store ≡ store_length → Inv blank (start began store).endpoint (start began store).store
unfolding start making make_endpoint make_store make_reply refuse
start_inv began store l = rw l (fresh_inv began (zeros 32768) (length-replicate {A = ℕ} 32768 0))

-- after a list of calls
pub record Came (l : Ledger) (w : World) (cs : List Call) : Type 0 where
  pub inv : Inv (ledger w cs l) (after w cs).endpoint (after w cs).store
  pub left : (s : ℕ) → ((ledger w cs l).account s).left ≡ (l.account s).left ++ given s w cs

pub came : (cs : List Call) (l : Ledger) (w : World) → Inv l w.endpoint w.store → Came l w cs
unfolding ledger after given
came [] l w i = record { inv = i; left = λ s. sym (append-nil (l.account s).left) }
came (c ∷ cs) l w i =
    let n = next l w i c in
    let r = came cs (note w c l) (step w c).world n.inv in
    record {
      inv = r.inv;
      left = λ s. r.left s ∙ ap (λ (y : List ℕ). y ++ given s (step w c).world cs) (n.left s) ∙ append_assoc (l.account s).left (gives s c (step w c)) (given s (step w c).world cs);
    }

-- by the row rules, a row that is not open has no credit to send, and a closed one none to receive
row_mute : (e : Endpoint) (r : ℕ) → Rules e ≡ true → is_open (row_at e r).status ≡ false → (row_at e r).output ≡ 0
row_mute e r h q = eqb-true (row_at e r).output 0 (rw q at (row_rule e.last e.down (row_at e r) 1 (row_keeps_lem e r h)))

row_over : (e : Endpoint) (r : ℕ) → Rules e ≡ true → is_closed (row_at e r).status ≡ true → (row_at e r).input ≡ 0
row_over e r h q = eqb-true (row_at e r).input 0 (rw q at (row_rule e.last e.down (row_at e r) 3 (row_keeps_lem e r h)))

-- what a row shows, in the words of the statement
shows : {l : Ledger} {e : Endpoint} {store : List ℕ} → Inv l e store → (id : ℕ) → is_served id ≡ true → Shown l id (row_for e id) (row_bytes store (row_of id))
shows i id sv =
    let r = i.each id sv in
    record {
      status = r.status;
      latest = r.latest;
      count = sym (rw r.latest at (unread_length i id sv));
      unread = rw r.latest at r.unread;
    }

pub holds : (began : Bool) (store : List ℕ) → length store ≡ store_length → (cs : List Call) → Holds (ledger (start began store) cs blank) (after (start began store) cs) (λ s. given s (start began store) cs)
unfolding blank
holds began store l cs =
    let c = came cs blank (start began store) (start_inv began store l) in
    record {
      bytes = λ s. rw (c.left s) at (c.inv.sound s).balance;
      left = c.left;
      shown = shows c.inv;
      gone = λ s h. c.inv.gone s (λ id sv v. h id sv (sym (c.inv.each id sv).latest ∙ v));
      unserved = c.inv.unserved;
      last = c.inv.last;
      credit = λ id sv q. let r = c.inv.each id sv in rw r.latest at (r.credit.input (ap is_closed r.status ∙ q));
      output = λ id sv q. let r = c.inv.each id sv in rw r.latest at (r.credit.output (ap is_open r.status ∙ q));
      unsent = λ id sv q. let r = c.inv.each id sv in row_mute (after (start began store) cs).endpoint (row_of id) c.inv.rules (ap is_open r.status ∙ q);
      ended = λ id sv q. let r = c.inv.each id sv in row_over (after (start began store) cs).endpoint (row_of id) c.inv.rules (ap is_closed r.status ∙ q);
      named = λ d. (next (ledger (start began store) cs blank) (after (start began store) cs) c.inv d).named;
    }
