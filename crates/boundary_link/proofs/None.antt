-- Numbers that are no endpoint: every call on them is answered 2 or 3, and leaves numbers, store and output as they were.
use Prim.Native.Nat.{ℕ}
use mathlib.Core.Path.{◌≡◌, refl, ap, ◌∙◌}
use mathlib.Core.Bool.{Bool, true, false, not, cond}
use mathlib.Core.List.{List}
use lib.Dec.{eqb}
use lib.ListN.{length}
use Rattle.link_rows.specs.Limits.{store_length}
use Rattle.link_rows.specs.Rules.{every, rules, Rules}
use Rattle.link_rows.specs.Replies.{Reply, refuse, number_of}
use Rattle.link_rows.specs.declared.Endpoint.{Endpoint}
use Rattle.link_rows.specs.declared.Refusal.{Refusal}
use Rattle.link_rows.specs.declared.Refusal.TheVariants.{StoreLength, RowRules}
use Rattle.std.specs.Prelude.{Err}
use Rattle.link_replies.specs.Calls.{checked, ready, open_reply, close_reply, request_reply, transmit_reply, read_reply}
use Rattle.link_record_replies.specs.Records.{receive_reply}
use Rattle.link_changes.specs.Outcome.{Outcome}
use Rattle.link_calls.specs.Calls.{open_store, open_out, close_store, close_out, request_out, transmit_out, read_store, read_out, opening, closing, requesting, transmitting, reading}
use Rattle.link_receive.specs.Receive.{receive_store, receive_out, receiving}
use Rattle.link_receive.specs.Run.{Run, start_of, running}
use Rattle.boundary_link.specs.Mirror.{is_endpoint, broken, endpoint_in, numbers_after}

-- the refusal: 2 where the store has another length, else 3
abbrev pub why : List ℕ → Refusal
why store = cond (eqb (length store) store_length) RowRules StoreLength

-- an outcome that is that refusal, and changes nothing
pub record Unchanged (lent lent_store lent_out : List ℕ) (o : Outcome) : Type 0 where
  pub reply : o.reply ≡ Err (why lent_store)
  pub number : number_of o.reply ≡ cond (eqb (length lent_store) store_length) 3 2
  pub numbers : numbers_after lent o.endpoint ≡ lent
  pub store : o.store ≡ lent_store
  pub out : o.out ≡ lent_out

-- the same of a run: it accepts nothing
pub record Unrun (lent lent_store lent_out : List ℕ) (s : Run) : Type 0 where
  pub stop : s.stop ≡ Err (why lent_store)
  pub number : number_of s.stop ≡ cond (eqb (length lent_store) store_length) 3 2
  pub accepted : s.accepted ≡ 0
  pub used : s.used ≡ 0
  pub written : s.written ≡ 0
  pub numbers : numbers_after lent s.endpoint ≡ lent
  pub store : s.store ≡ lent_store
  pub out : s.out ≡ lent_out

-- every call
pub record AllUnchanged (lent store out : List ℕ) : Type 0 where
  pub opened : (id : ℕ) → Unchanged lent store out (opening (endpoint_in lent) store id out)
  pub closed : (id session : ℕ) → Unchanged lent store out (closing (endpoint_in lent) store id session out)
  pub requested : (id session amount : ℕ) → Unchanged lent store out (requesting (endpoint_in lent) store id session amount out)
  pub transmitted : (id session : ℕ) (bytes : List ℕ) → Unchanged lent store out (transmitting (endpoint_in lent) store id session bytes out)
  pub read : (id session : ℕ) → Unchanged lent store out (reading (endpoint_in lent) store id session out)
  pub received : (bytes : List ℕ) → Unchanged lent store out (receiving (endpoint_in lent) store bytes out)
  pub ran : (n : ℕ) (bytes : List ℕ) → Unrun lent store out (running n (endpoint_in lent) store bytes out)

broken-rules : Rules broken ≡ false
unfolding Rules rules every broken
broken-rules = refl

number_is : (b : Bool) → number_of (Err (cond b RowRules StoreLength)) ≡ cond b 3 2
number_is true = refl
number_is false = refl

-- the tests 2 and 3 decide, whatever would follow
checked-is : (e : Endpoint) (n : ℕ) (rest : Reply) → Rules e ≡ false → checked e n rest ≡ Err (cond (eqb n store_length) RowRules StoreLength)
unfolding checked refuse
checked-is e n rest h = rw h (go (eqb n store_length))
  where
    go : (b : Bool) → refuse StoreLength (not b) (refuse RowRules true rest) ≡ Err (cond b RowRules StoreLength)
    go true = refl
    go false = refl

module _ (lent : List ℕ) (h : is_endpoint lent ≡ false) where
  none : endpoint_in lent ≡ broken
  unfolding endpoint_in
  none = rw h refl

  rules_fail : Rules (endpoint_in lent) ≡ false
  rules_fail = ap Rules none ∙ broken-rules

  same : (e : Endpoint) → numbers_after lent e ≡ lent
  unfolding numbers_after
  same e = rw h refl

  module _ (store out : List ℕ) where
    is : (o : Outcome) → o.reply ≡ Err (why store) → o.store ≡ store → o.out ≡ out → Unchanged lent store out o
    is o r s t = record { reply = r; number = ap number_of r ∙ number_is (eqb (length store) store_length); numbers = same o.endpoint; store = s; out = t }

    checked_why : (rest : Reply) → checked (endpoint_in lent) (length store) rest ≡ Err (why store)
    checked_why rest = checked-is (endpoint_in lent) (length store) rest rules_fail

    run_is : (n : ℕ) (bytes : List ℕ) → running n (endpoint_in lent) store bytes out ≡ start_of (Err (why store)) (endpoint_in lent) store out
    unfolding running ready
    run_is n bytes = rw checked_why refl

    pub no_endpoint : AllUnchanged lent store out
    unfolding opening closing requesting transmitting reading receiving open_reply close_reply request_reply transmit_reply read_reply receive_reply ready open_store open_out close_store close_out request_out transmit_out read_store read_out receive_store receive_out
    no_endpoint = record {
      opened = λ id. is _ (checked_why _) (rw checked_why refl) (rw checked_why refl);
      closed = λ id session. is _ (checked_why _) (rw checked_why refl) (rw checked_why refl);
      requested = λ id session amount. is _ (checked_why _) refl (rw checked_why refl);
      transmitted = λ id session bytes. is _ (checked_why _) refl (rw checked_why refl);
      read = λ id session. is _ (checked_why _) (rw checked_why refl) (rw checked_why refl);
      received = λ bytes. is _ (checked_why _) (rw checked_why refl) (rw checked_why refl);
      ran = λ n bytes. rw (run_is n bytes) (record { stop = refl; number = number_is (eqb (length store) store_length); accepted = refl; used = refl; written = refl; numbers = same (endpoint_in lent); store = refl; out = refl });
    }
