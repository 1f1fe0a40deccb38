-- The promise of a run.
use Rattle.std.specs.Prelude.{◌≡◌, List, ℕ}
use Rattle.link_receive.specs.declared.Ran.{Ran}
use Rattle.link_receive.specs.Run.{Run}

-- a call that reports a and leaves store' and out' is the run s
pub record Runs (s : Run) (a : Ran) (store' out' : List ℕ) : Type 0 where
  pub accepted : a.accepted ≡ s.accepted
  pub used : a.used ≡ s.used
  pub written : a.written ≡ s.written
  pub stop : a.stop ≡ s.stop
  pub endpoint : a.endpoint ≡ s.endpoint
  pub store : store' ≡ s.store
  pub out : out' ≡ s.out
