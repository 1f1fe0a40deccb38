-- The promise of an exported call, from what its callees promise. o is the call's outcome as a function of the endpoint.
use Prim.Native.Nat.{ℕ}
use mathlib.Core.Path.{◌≡◌}
use mathlib.Core.List.{List}
use Rattle.link_rows.specs.Replies.{number_of, session_of, used_by, written_by}
use Rattle.link_rows.specs.declared.Endpoint.{Endpoint}
use Rattle.link_rows.specs.declared.Answer.{Answer}
use Rattle.link_changes.specs.Outcome as outcome
use Rattle.link_changes.specs.Outcome.{Outcome}
use Rattle.link_receive.specs.declared.Ran.{Ran}
use Rattle.link_receive.specs.Run.{Run}
use Rattle.link_receive.specs.Ran as ran
use Rattle.boundary_link.specs.Mirror.{endpoint_in, numbers_after}
use Rattle.boundary_link.specs.Promise.{Leaves, Opens, Receives, Runs}

module _ (lent numbers' store' out' : List ℕ) (e : Endpoint) (i : e ≡ endpoint_in lent) where
  module _ (o : Endpoint → Outcome) (a : Answer) (l : outcome.Leaves (o e) a store' out') (n w : ℕ) (p : w ≡ written_by a.reply) (f : (n ≡ number_of a.reply) × (numbers' ≡ numbers_after lent a.endpoint)) where
    pub leaves : Leaves (o (endpoint_in lent)) lent n w numbers' store' out'
    leaves = rw (← i) (record { number = rw (← l.reply) f.0; written = rw (← l.reply) p; numbers = rw (← l.endpoint) f.1; store = l.store; out = l.out })

    pub opens : (s : ℕ) → s ≡ session_of a.reply → Opens (o (endpoint_in lent)) lent n s w numbers' store' out'
    opens s q = record { leaves = leaves; session = rw (← i, ← l.reply) q }

    pub receives : (s u : ℕ) → s ≡ session_of a.reply → u ≡ used_by a.reply → Receives (o (endpoint_in lent)) lent n s u w numbers' store' out'
    receives s u q r = record { leaves = leaves; session = rw (← i, ← l.reply) q; used = rw (← i, ← l.reply) r }

  pub runs : (o : Endpoint → Run) (a : Ran) → ran.Runs (o e) a store' out' → (n : ℕ) → (n ≡ number_of a.stop) × (numbers' ≡ numbers_after lent a.endpoint) → Runs (o (endpoint_in lent)) lent n a.accepted a.used a.written numbers' store' out'
  runs o a l n f = rw (← i) (record { number = rw (← l.stop) f.0; accepted = l.accepted; used = l.used; written = l.written; numbers = rw (← l.endpoint) f.1; store = l.store; out = l.out })
