-- The promises of the exported functions. lent is the numbers that were lent as the endpoint, n the number returned; what has a stroke
-- stands afterwards in the numbers, the store, the output and the results.
use Rattle.std.specs.Prelude.{ℕ, ◌≡◌, Bool, cond, List, eqb, length}
use Rattle.link_rows.specs.Limits.{store_length}
use Rattle.link_rows.specs.Replies.{number_of, session_of, used_by, written_by}
use Rattle.link_changes.specs.Outcome.{Outcome}
use Rattle.link_calls.specs.Calls.{making}
use Rattle.link_receive.specs.Run.{Run, stop_number}
use Rattle.boundary_link.specs.Mirror.{number_count, numbers_of, numbers_after}

-- a call that reports written leaves the outcome o
pub record Leaves (o : Outcome) (lent : List ℕ) (n written' : ℕ) (numbers' store' out' : List ℕ) : Type 0 where
  pub number : n ≡ number_of o.reply
  pub written : written' ≡ written_by o.reply
  pub numbers : numbers' ≡ numbers_after lent o.endpoint
  pub store : store' ≡ o.store
  pub out : out' ≡ o.out

-- an opening reports the session number too
pub record Opens (o : Outcome) (lent : List ℕ) (n session' written' : ℕ) (numbers' store' out' : List ℕ) : Type 0 where
  pub leaves : Leaves o lent n written' numbers' store' out'
  pub session : session' ≡ session_of o.reply

-- a receive reports that and the record's bytes
pub record Receives (o : Outcome) (lent : List ℕ) (n session' used' written' : ℕ) (numbers' store' out' : List ℕ) : Type 0 where
  pub leaves : Leaves o lent n written' numbers' store' out'
  pub session : session' ≡ session_of o.reply
  pub used : used' ≡ used_by o.reply

-- a run reports its counts, and returns the number that stopped it
pub record Runs (s : Run) (lent : List ℕ) (n accepted' used' written' : ℕ) (numbers' store' out' : List ℕ) : Type 0 where
  pub number : n ≡ stop_number s
  pub accepted : accepted' ≡ s.accepted
  pub used : used' ≡ s.used
  pub written : written' ≡ s.written
  pub numbers : numbers' ≡ numbers_after lent s.endpoint
  pub store : store' ≡ s.store
  pub out : out' ≡ s.out

-- 163 numbers are lent, whatever they are
abbrev pub is_whole : List ℕ → Bool
is_whole numbers = eqb (length numbers) number_count

-- making needs only room for an endpoint: with another count of numbers it is refused, 2 before 3, and changes nothing
pub record Makes (began : Bool) (lent lent_store : List ℕ) (n : ℕ) (numbers' store' : List ℕ) : Type 0 where
  pub number : n ≡ cond (is_whole lent) (number_of (making began lent_store).reply) (cond (eqb (length lent_store) store_length) 3 2)
  pub numbers : numbers' ≡ cond (is_whole lent) (numbers_of (making began lent_store).endpoint) lent
  pub store : store' ≡ cond (is_whole lent) (making began lent_store).store lent_store
