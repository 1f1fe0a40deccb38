-- What a receive answers and leaves depends on the head only as far as the record goes: on no identifier where the opcode is
-- unknown, and on no count where the record has none. The bytes in their place are nobody's.
use mathlib.Core.Path.{◌≡◌, refl, sym, ap, ◌∙◌}
use mathlib.Core.Bool.{Bool, true, false, cond}
use mathlib.Core.List.{List}
use Prim.Native.Nat.{ℕ}
use lib.ListN.{length}
use Rattle.link_rows.specs.Limits.{REQUEST, TRANSMIT}
use Rattle.link_rows.specs.Replies.{refuse, Reply}
use Rattle.link_rows.specs.declared.Endpoint.{Endpoint}
use Rattle.link_rows.specs.declared.Record.{Record}
use Rattle.link_record_replies.specs.Records.{is, has_count, is_known, head_tests, row_tests, last_tests, seen_reply, receive_reply}
use Rattle.link_changes.specs.Outcome.{Outcome}
use Rattle.link_bytes.specs.Records.{head_of}
use Rattle.link_receive.specs.Receive.{received_row, receive_endpoint, receive_store, receive_out, receiving}
use Rattle.link_receive.proofs.Taken.{receive_done}
use Rattle.std.specs.Prelude.{Ok, Err}
use Rattle.link_rows.specs.declared.Done.{Done}

-- a head without what the record does not have
abbrev pub trimmed : Record → Record
trimmed h = record { available = h.available; opcode = h.opcode; id = cond (is_known h) h.id 0; count = cond (has_count h) h.count 0 }

-- two heads that are the same as far as their records go
under : (p : Bool) (x y : ℕ) → (p ≡ true → x ≡ y) → cond p x 0 ≡ cond p y 0
under true x y h = h refl
under false x y h = refl

pub same_trimmed : (g h : Record) → g.available ≡ h.available → g.opcode ≡ h.opcode → (is_known h ≡ true → g.id ≡ h.id) → (has_count h ≡ true → g.count ≡ h.count) → trimmed g ≡ trimmed h
same_trimmed g h a o i c = rw (a, o, under (is_known h) g.id h.id i, under (has_count h) g.count h.count c) refl

-- the outcome of a record with this head
abbrev pub by_head : Endpoint → Record → List ℕ → List ℕ → List ℕ → Outcome
by_head e h bytes store out =
    let reply : Reply = receive_reply e (length store) h (length out) in
    record { reply = reply; endpoint = receive_endpoint e h reply; store = receive_store e h reply bytes store; out = receive_out e h reply out }

module _ (e : Endpoint) (h : Record) where
  reply_trimmed : (store_len out_len : ℕ) → receive_reply e store_len (trimmed h) out_len ≡ receive_reply e store_len h out_len
  unfolding receive_reply seen_reply head_tests row_tests last_tests refuse
  reply_trimmed store_len out_len = go (is_known h) refl (is REQUEST h) refl (is TRANSMIT h) refl
    where
      go : (k : Bool) → is_known h ≡ k → (q : Bool) → is REQUEST h ≡ q → (t : Bool) → is TRANSMIT h ≡ t → receive_reply e store_len (trimmed h) out_len ≡ receive_reply e store_len h out_len
      go false ke q qe t te = rw ke refl
      go true ke true qe t te = rw (ke, qe) refl
      go true ke false qe true te = rw (ke, qe, te) refl
      go true ke false qe false te = rw (ke, qe, te) refl

  -- what an accepted record leaves
  left_trimmed : is_known h ≡ true → (v : Done) (bytes store out : List ℕ)
      → ◌≡◌ {A = Outcome} (record { reply = Ok v; endpoint = receive_endpoint e (trimmed h) (Ok v); store = receive_store e (trimmed h) (Ok v) bytes store; out = receive_out e (trimmed h) (Ok v) out })
      (record { reply = Ok v; endpoint = receive_endpoint e h (Ok v); store = receive_store e h (Ok v) bytes store; out = receive_out e h (Ok v) out })
  unfolding receive_endpoint received_row receive_store receive_out
  left_trimmed ke v bytes store out = go (is REQUEST h) refl (is TRANSMIT h) refl
    where
      go : (q : Bool) → is REQUEST h ≡ q → (t : Bool) → is TRANSMIT h ≡ t
          → ◌≡◌ {A = Outcome} (record { reply = Ok v; endpoint = receive_endpoint e (trimmed h) (Ok v); store = receive_store e (trimmed h) (Ok v) bytes store; out = receive_out e (trimmed h) (Ok v) out })
          (record { reply = Ok v; endpoint = receive_endpoint e h (Ok v); store = receive_store e h (Ok v) bytes store; out = receive_out e h (Ok v) out })
      go true qe t te = rw (ke, qe) refl
      go false qe true te = rw (ke, qe, te) refl
      go false qe false te = rw (ke, qe, te) refl

  outcome_trimmed : (bytes store out : List ℕ) → by_head e (trimmed h) bytes store out ≡ by_head e h bytes store out
  unfolding receive_endpoint receive_store receive_out
  outcome_trimmed bytes store out = rw (reply_trimmed (length store) (length out)) (go (receive_reply e (length store) h (length out)) refl)
    where
      go : (r : Reply) → receive_reply e (length store) h (length out) ≡ r
          → ◌≡◌ {A = Outcome} (record { reply = r; endpoint = receive_endpoint e (trimmed h) r; store = receive_store e (trimmed h) r bytes store; out = receive_out e (trimmed h) r out })
          (record { reply = r; endpoint = receive_endpoint e h r; store = receive_store e h r bytes store; out = receive_out e h r out })
      go (Ok v) q = left_trimmed (receive_done e (length store) h (length out) q).1.known v bytes store out
      go (Err why) q = refl

-- a receive of these bytes, by the head of others that are the same as far as the record goes
pub received_as : (e : Endpoint) (store b d out : List ℕ) → trimmed (head_of b) ≡ trimmed (head_of d) → receiving e store d out ≡ by_head e (head_of b) d store out
unfolding receiving
received_as e store b d out h =
    sym (outcome_trimmed e (head_of d) d store out)
    ∙ ap (λ (z : Record). by_head e z d store out) (sym h)
    ∙ outcome_trimmed e (head_of b) d store out
