-- Demand 3: no data crosses sessions, over every list of calls.
use mathlib.Core.Path.{◌≡◌}
use mathlib.Core.Bool.{Bool}
use mathlib.Core.List.{List}
use Prim.Native.Nat.{ℕ}
use lib.ListN.{length}
use Rattle.link_rows.specs.Limits.{store_length}
use Rattle.link_history.specs.Statement.{NoCrossing}
use Rattle.link_history.proofs.History.{holds}
use Rattle.link_history.proofs.Substitution.{substitution}

pub no_crossing : (began : Bool) (store : List ℕ) → length store ≡ store_length → NoCrossing began store
no_crossing began store whole = record { holds = holds began store whole; substitution = substitution began store whole }
