-- Two receives whose records differ in other sessions' data and in nobody's bytes alone, on stores that agree on this session's rows.
use mathlib.Core.Path.{◌≡◌, refl, sym, ap, ◌∙◌}
use mathlib.Core.Bool.{true, false}
use mathlib.Core.List.{List}
use Prim.Native.Nat.{ℕ, ◌+◌, ◌≤◌}
use lib.ListN.{length}
use Rattle.link_rows.specs.Limits.{TRANSMIT}
use Rattle.link_rows.specs.declared.Endpoint.{Endpoint}
use Rattle.link_record_replies.specs.Records.{is, not_positive}
use Rattle.link_changes.specs.Outcome.{Outcome}
use Rattle.link_bytes.specs.Records.{head_of, data_of}
use Rattle.link_receive.specs.Receive.{receiving}
use Rattle.link_history.specs.Ledger.{Ledger, latest_of}
use Rattle.link_history.specs.Statement.{another}
use Rattle.link_history.proofs.Invariant.{Inv}
use Rattle.link_history.proofs.Agree.{Agree, record_agree}
use Rattle.link_history.proofs.Trimmed.{trimmed, by_head, received_as}

-- an outcome with another store
abbrev pub swap : Outcome → List ℕ → Outcome
swap o x = record { reply = o.reply; endpoint = o.endpoint; store = x; out = o.out }

-- this session's data of a whole record is the same
abbrev pub Own : ℕ → Ledger → List ℕ → List ℕ → Type 0
Own s l b d = 7 + (head_of b).count ≤ length b → is TRANSMIT (head_of b) ≡ true → not_positive (head_of b).count ≡ false → another s (latest_of l (head_of b).id) ≡ false → data_of (head_of b) b ≡ data_of (head_of b) d

module _ (e : Endpoint) (x y b d out : List ℕ) where
  -- one head in both: the receives differ in the store alone
  head_swap : length x ≡ length y → by_head e (head_of b) d y out ≡ swap (receiving e x b out) (by_head e (head_of b) d y out).store
  unfolding receiving
  head_swap n = rw n refl

  head_agree : (s : ℕ) (l : Ledger) → Inv l e x → length y ≡ 32768 → Agree s e x y → length b ≡ length d → Own s l b d
      → Agree s (receiving e x b out).endpoint (receiving e x b out).store (by_head e (head_of b) d y out).store
  unfolding receiving head_of
  head_agree s l i ly a ld own =
      rw (ly ∙ sym i.whole)
      (record_agree s e x y i.rows i.whole ly i.rules a (head_of b) b d refl ld
      (λ k t p sv n. own k t p (ap (λ (z : ℕ). another s z) (sym (i.each (head_of b).id sv).latest) ∙ n)) (length out))

  -- the same head as far as the record goes
  module _ (h : trimmed (head_of b) ≡ trimmed (head_of d)) where
    pub receive_swap : length x ≡ length y → receiving e y d out ≡ swap (receiving e x b out) (receiving e y d out).store
    receive_swap n = rw (received_as e y b d out h) (head_swap n)

    pub receive_agree : (s : ℕ) (l : Ledger) → Inv l e x → length y ≡ 32768 → Agree s e x y → length b ≡ length d → Own s l b d
        → Agree s (receiving e x b out).endpoint (receiving e x b out).store (receiving e y d out).store
    receive_agree s l i ly a ld own = rw (received_as e y b d out h) (head_agree s l i ly a ld own)
