-- Calls, what each answers and leaves, and lists of them. Each call gets what the last one left.
use Rattle.std.specs.Prelude.{ℕ, Bool, List, [], ◌∷◌}
use Rattle.link_rows.specs.Replies.{used_by, written_by, Reply}
use Rattle.link_rows.specs.declared.Endpoint.{Endpoint}
use Rattle.link_changes.specs.Outcome.{Outcome}
use Rattle.link_calls.specs.Calls.{making, opening, closing, requesting, transmitting, reading}
use Rattle.link_receive.specs.Receive.{receiving}
use Rattle.link_receive.specs.Run.{Run, running}

-- a call, with its arguments other than endpoint and store; the last one is the output as it is lent
pub data Call : Type 0 where
  Opening : (id : ℕ) → (out : List ℕ) → Call
  Closing : (id session : ℕ) → (out : List ℕ) → Call
  Requesting : (id session amount : ℕ) → (out : List ℕ) → Call
  Transmitting : (id session : ℕ) → (bytes out : List ℕ) → Call
  Reading : (id session : ℕ) → (out : List ℕ) → Call
  Receiving : (bytes out : List ℕ) → Call
  Running : (n : ℕ) → (bytes out : List ℕ) → Call

-- what the calls work on
pub record World : Type 0 where
  pub endpoint : Endpoint
  pub store : List ℕ

-- all that a call reports. A run's reply is the one that stopped it, and done 0 0 0 where none did; accepted is run's alone
pub record Answer : Type 0 where
  pub reply : Reply
  pub accepted : ℕ
  pub used : ℕ
  pub written : ℕ

-- a call's answer, and what it leaves
pub record Step : Type 0 where
  pub answer : Answer
  pub world : World
  pub out : List ℕ

-- a call other than run: the values of its reply are what it reports, and its accepted count is 0
abbrev pub single : Outcome → Step
single o = record {
  answer = record { reply = o.reply; accepted = 0; used = used_by o.reply; written = written_by o.reply };
  world = record { endpoint = o.endpoint; store = o.store };
  out = o.out;
}

-- a run: what it reports is its own, beside the reply that stopped it
abbrev pub several : Run → Step
several r = record {
  answer = record { reply = r.stop; accepted = r.accepted; used = r.used; written = r.written };
  world = record { endpoint = r.endpoint; store = r.store };
  out = r.out;
}

-- a call, by the definition that its contract cites
abbrev pub step : World → Call → Step
step w (Opening id out) = single (opening w.endpoint w.store id out)
step w (Closing id session out) = single (closing w.endpoint w.store id session out)
step w (Requesting id session amount out) = single (requesting w.endpoint w.store id session amount out)
step w (Transmitting id session bytes out) = single (transmitting w.endpoint w.store id session bytes out)
step w (Reading id session out) = single (reading w.endpoint w.store id session out)
step w (Receiving bytes out) = single (receiving w.endpoint w.store bytes out)
step w (Running n bytes out) = several (running n w.endpoint w.store bytes out)

-- a fresh endpoint of either kind, with the store that it was made with
unfoldable pub start : Bool → List ℕ → World
start began store = record { endpoint = (making began store).endpoint; store = (making began store).store }

-- what a list of calls leaves
unfoldable pub after : World → List Call → World
after w [] = w
after w (c ∷ cs) = after (step w c).world cs
