-- What crosses to C: an exported call that keeps its promise does what the step of the list says.
use Prim.Native.Nat.{ℕ}
use mathlib.Core.Path.{◌≡◌, refl, ap, ◌∙◌}
use mathlib.Core.Bool.{Bool, true, false, cond}
use mathlib.Core.List.{List}
use lib.Dec.{eqb}
use lib.ListN.{length}
use native.Mathlib.Omega.{arith}
use borrow.Author.Tests.{ne_eqb}
use Rattle.link_rows.specs.Limits.{store_length}
use Rattle.link_rows.specs.Replies.{number_of}
use Rattle.link_changes.specs.Outcome.{Outcome}
use Rattle.link_calls.specs.Calls.{making}
use Rattle.link_receive.specs.Run.{Run}
use Rattle.link_history.specs.Calls.{single, several}
use Rattle.message_read.specs.Reading.{Reading}
use Rattle.boundary_message.specs.Answers.{xid_asked}
use Rattle.boundary_link.specs.Mirror.{is_endpoint, endpoint_in, numbers_of}
use Rattle.boundary_link.specs.Promise.{Leaves, Runs, Makes, is_whole}
use Rattle.boundary_link.proofs.Next.{Next, all_next, made_next}
use Rattle.boundary_link.proofs.None.{Unchanged, Unrun, no_endpoint}
use Rattle.claims.specs.Claims.{ExactXid, Crosses, ExactBoundary}

pub exact_xid : (a : Reading) (m : List ℕ) → ExactXid a m
unfolding xid_asked
exact_xid a m = record {
  format = refl;
  gtrid = refl;
  bqual = refl;
  other = λ w h. rw (ne_eqb w 0 (omega arith), ne_eqb w 1 (omega arith), ne_eqb w 2 (omega arith)) refl;
}

module _ (lent store out : List ℕ) (n w : ℕ) (numbers' store' out' : List ℕ) where
  -- a call whose outcome is o
  crossed : (o : Outcome) → (is_endpoint lent ≡ true → Next lent o.endpoint) → (is_endpoint lent ≡ false → Unchanged lent store out o)
      → Leaves o lent n w numbers' store' out' → Crosses (single o) lent store out n w numbers' store' out'
  crossed o next none l = record {
    number = l.number;
    written = l.written;
    store = l.store;
    out = l.out;
    numbers = l.numbers;
    endpoint = λ h. (ap is_endpoint l.numbers ∙ (next h).0, ap endpoint_in l.numbers ∙ (next h).1);
    none = λ h. let u = none h in (l.number ∙ u.number, l.numbers ∙ u.numbers, l.store ∙ u.store, l.out ∙ u.out);
  }

  -- a run
  crossed_run : (s : Run) → (is_endpoint lent ≡ true → Next lent s.endpoint) → (is_endpoint lent ≡ false → Unrun lent store out s)
      → (accepted' used' : ℕ) → Runs s lent n accepted' used' w numbers' store' out' → Crosses (several s) lent store out n w numbers' store' out'
  crossed_run s next none accepted' used' l = record {
    number = l.number;
    written = l.written;
    store = l.store;
    out = l.out;
    numbers = l.numbers;
    endpoint = λ h. (ap is_endpoint l.numbers ∙ (next h).0, ap endpoint_in l.numbers ∙ (next h).1);
    none = λ h. let u = none h in (l.number ∙ u.number, l.numbers ∙ u.numbers, l.store ∙ u.store, l.out ∙ u.out);
  }

  made : (began : Bool) → Makes began lent store n numbers' store'
      → (is_whole lent ≡ true
      → (n ≡ number_of (making began store).reply)
      × (numbers' ≡ numbers_of (making began store).endpoint)
      × (is_endpoint numbers' ≡ true)
      × (endpoint_in numbers' ≡ (making began store).endpoint)
      × (store' ≡ (making began store).store))
      × (is_whole lent ≡ false → (n ≡ cond (eqb (length store) store_length) 3 2) × (numbers' ≡ lent) × (store' ≡ store))
  made began l = (
    λ h.
        let e : numbers' ≡ numbers_of (making began store).endpoint = rw h at l.numbers in
        (rw h at l.number, e, ap is_endpoint e ∙ (made_next began store).0, ap endpoint_in e ∙ (made_next began store).1, rw h at l.store),
    λ h. (rw h at l.number, rw h at l.numbers, rw h at l.store),
  )

  pub exact_boundary : ExactBoundary lent store out n w numbers' store' out'
  exact_boundary = record {
    opening = λ id s p. (crossed _ (λ h. (all_next lent h store out).opened id) (λ h. (no_endpoint lent h store out).opened id) p.leaves, p.session);
    close = λ id s. crossed _ (λ h. (all_next lent h store out).closed id s) (λ h. (no_endpoint lent h store out).closed id s);
    request = λ id s k. crossed _ (λ h. (all_next lent h store out).requested id s k) (λ h. (no_endpoint lent h store out).requested id s k);
    transmit = λ id s b. crossed _ (λ h. (all_next lent h store out).transmitted id s b) (λ h. (no_endpoint lent h store out).transmitted id s b);
    read = λ id s. crossed _ (λ h. (all_next lent h store out).read id s) (λ h. (no_endpoint lent h store out).read id s);
    receive = λ b s u p. (crossed _ (λ h. (all_next lent h store out).received b) (λ h. (no_endpoint lent h store out).received b) p.leaves, p.session, p.used);
    run = λ k b a u p. (crossed_run _ (λ h. (all_next lent h store out).ran k b) (λ h. (no_endpoint lent h store out).ran k b) a u p, p.accepted, p.used);
    make = made;
  }
