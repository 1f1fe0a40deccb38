-- Each of our calls, accepted or refused, leaves an endpoint that keeps the row rules where it was given one.
use mathlib.Core.Path.{◌≡◌, refl}
use mathlib.Core.Bool.{Bool, true}
use mathlib.Core.List.{List}
use Prim.Native.Nat.{ℕ}
use lib.ListN.{length}
use Rattle.link_rows.specs.Rows.{fresh_endpoint, row_of, row_for, with_row}
use Rattle.link_rows.specs.Rules.{Rules, row_keeps}
use Rattle.link_rows.specs.declared.Row.{Row}
use Rattle.link_rows.specs.declared.Endpoint.{Endpoint}
use Rattle.link_rows.proofs.Laws.{row_keeps_lem}
use Rattle.link_replies.specs.Calls.{make_reply, open_reply, close_reply, request_reply, transmit_reply, read_reply}
use Rattle.link_replies.proofs.Done.{open_done, close_done, request_done, transmit_done}
use Rattle.link_changes.specs.Changes.{pending_row, granted_row, spent_row, read_row}
use Rattle.link_changes.proofs.Kept.{RowKept, row_changed, row_opened, all_down, fresh-rules, pending_kept, granted_kept, spent_kept, read_kept}
use Rattle.link_calls.specs.Calls.{make_endpoint, open_endpoint, close_endpoint, request_endpoint, transmit_endpoint, read_endpoint, making, opening, closing, requesting, transmitting, reading}
use Rattle.link_calls.proofs.Decided.{by_reply}

-- a fresh endpoint, up or down
pub make_keeps : (began : Bool) (store : List ℕ) → Rules (making began store).endpoint ≡ true
unfolding making make_endpoint
make_keeps began store = by_reply (λ r. Rules (make_endpoint began r) ≡ true) (make_reply (length store)) (λ v q. fresh-rules began) (λ why. all_down (fresh_endpoint began) (fresh-rules began))

module _ (e : Endpoint) (h : Rules e ≡ true) (store : List ℕ) (id : ℕ) (out : List ℕ) where
  pub open_keeps : Rules (opening e store id out).endpoint ≡ true
  unfolding opening open_endpoint
  open_keeps =
      by_reply (λ r. Rules (open_endpoint e id r) ≡ true) (open_reply e (length store) id (length out))
      (λ v q. let d = open_done e (length store) id (length out) q in row_opened e (row_of id) d.spare d.passed.up h)
      (λ why. h)

  -- the other calls change the row that the identifier has
  changed_keeps : (row : Row) → row.session ≡ (row_for e id).session → RowKept e.last e.down row → Rules (with_row e (row_of id) row) ≡ true
  changed_keeps row q k = row_changed e (row_of id) row q k h

  kept : row_keeps e.last e.down (row_for e id) ≡ true
  kept = row_keeps_lem e (row_of id) h

  module _ (session : ℕ) where
    pub close_keeps : Rules (closing e store id session out).endpoint ≡ true
    unfolding closing close_endpoint
    close_keeps =
        by_reply (λ r. Rules (close_endpoint e id r) ≡ true) (close_reply e (length store) id session (length out))
        (λ v q. changed_keeps (pending_row (row_for e id)) refl (pending_kept e.last e.down (row_for e id) kept (close_done e (length store) id session (length out) q).alive))
        (λ why. h)

    pub request_keeps : (amount : ℕ) → Rules (requesting e store id session amount out).endpoint ≡ true
    unfolding requesting request_endpoint
    request_keeps amount =
        by_reply (λ r. Rules (request_endpoint e id amount r) ≡ true) (request_reply e (length store) id session amount (length out))
        (λ v q. let d = request_done e (length store) id session amount (length out) q in changed_keeps (granted_row (row_for e id) amount) refl (granted_kept e.last e.down (row_for e id) kept amount d.alive d.fits))
        (λ why. h)

    pub transmit_keeps : (bytes : List ℕ) → Rules (transmitting e store id session bytes out).endpoint ≡ true
    unfolding transmitting transmit_endpoint
    transmit_keeps bytes =
        by_reply (λ r. Rules (transmit_endpoint e id (length bytes) r) ≡ true) (transmit_reply e (length store) id session (length bytes) (length out))
        (λ v q. changed_keeps (spent_row (row_for e id) (length bytes)) refl (spent_kept e.last e.down (row_for e id) kept (length bytes) (transmit_done e (length store) id session (length bytes) (length out) q).alive))
        (λ why. h)

    pub read_keeps : Rules (reading e store id session out).endpoint ≡ true
    unfolding reading read_endpoint
    read_keeps =
        by_reply (λ r. Rules (read_endpoint e id r) ≡ true) (read_reply e (length store) id session (length out))
        (λ v q. changed_keeps (read_row (row_for e id) v.written) refl (read_kept e.last e.down (row_for e id) kept v.written))
        (λ why. h)
