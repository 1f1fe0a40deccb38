-- What this crate's private functions ask of, and promise to, their callers. No contract of a public call cites it.
use Rattle.std.specs.Prelude.{ℕ, ◌+◌, ◌≤◌, ◌≡◌, List, ◌++◌, length, drop}
use Rattle.link_rows.specs.Replies.{used_by, written_by}
use Rattle.link_rows.specs.declared.Endpoint.{Endpoint}
use Rattle.link_rows.specs.declared.Answer.{Answer}
use Rattle.link_receive.specs.declared.Ran.{Ran}
use Rattle.link_history.specs.Calls.{World, Step}
use Rattle.link_history.specs.Calls as calls
use Rattle.link_script.specs.declared.Did.{Did}
use Rattle.link_script.specs.declared.Entry.{Entry}
use Rattle.link_script.specs.Script.{entry_length, record_length, entry_of, head_in}
use Rattle.link_script.specs.Play.{performed, record_of}

-- a call that reports d and leaves store' and out' is the step s
pub record Does (s : Step) (d : Did) (store' out' : List ℕ) : Type 0 where
  pub reply : d.reply ≡ s.answer.reply
  pub accepted : d.accepted ≡ s.answer.accepted
  pub used : d.used ≡ s.answer.used
  pub written : d.written ≡ s.answer.written
  pub endpoint : d.endpoint ≡ s.world.endpoint
  pub store : store' ≡ s.world.store
  pub out : out' ≡ s.out

-- what a call other than run reports, and what a run does
abbrev pub did_of : Answer → Did
did_of a = record { reply = a.reply; accepted = 0; used = used_by a.reply; written = written_by a.reply; endpoint = a.endpoint }

abbrev pub did_run : Ran → Did
did_run r = record { reply = r.stop; accepted = r.accepted; used = r.used; written = r.written; endpoint = r.endpoint }

-- the answer in it
abbrev pub answer_of : Did → calls.Answer
answer_of d = record { reply = d.reply; accepted = d.accepted; used = d.used; written = d.written }

-- the entry at the front of the bytes is there whole, and its record has room
pub record Fits (entry : Entry) (bytes left : List ℕ) : Type 0 where
  pub head : head_in (length bytes) entry ≡ entry_of bytes
  pub whole : entry_length + entry.size ≤ length bytes
  pub room : record_length + entry.room ≤ length left

-- an entry that is taken is performed, and its record stands at the front of what is left of the transcript
pub record Performs (w : World) (bytes left : List ℕ) (e' : Endpoint) (store' out' : List ℕ) : Type 0 where
  pub endpoint : e' ≡ (performed w bytes).world.endpoint
  pub store : store' ≡ (performed w bytes).world.store
  pub out : out' ≡ record_of w bytes ++ drop (record_length + (entry_of bytes).room) left
