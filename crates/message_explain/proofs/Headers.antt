-- The two ways out of explaining.
use Prim.Native.Nat.{ℕ, ◌-◌}
use mathlib.Core.Path.{◌≡◌}
use mathlib.Core.List.{List}
use lib.ListN.{take, drop}
use Rattle.std.specs.Prelude.{Option, Ok, Err}
use Rattle.wire.specs.declared.Refused.{Refused}
use Rattle.message_read.specs.Passing.{Passage, passing}
use Rattle.message_read.specs.declared.Tested.{Tested}
use Rattle.message_read.proofs.Passing.{refused_opening, passed-opening, the_payload}
use Rattle.message_walk.specs.Walk.{walk}
use Rattle.message_walk.specs.Reasons.{reason_of}
use Rattle.message_walk.specs.declared.Reason.{Reason}
use Rattle.message_explain.specs.Explaining.{header_reason, explaining}

-- passing over the message came to c
module _ (v : ℕ) (m : List ℕ) (r : Option Reason) (c : Passage) (ec : c ≡ passing v m) where
  pub explained_before : (g : Refused) → c ≡ Err g → r ≡ header_reason g.fault v m → r ≡ explaining v m
  unfolding explaining
  explained_before g h e = rw (refused_opening v m c ec g h) e

  pub explained_payload : (t : Tested) → c ≡ Ok t → r ≡ reason_of (take (t.used - 32) (drop 32 m)) (walk (take (t.used - 32) (drop 32 m)) t.kind)
      → r ≡ explaining v m
  unfolding explaining
  explained_payload t h e = rw (passed-opening v m c ec t h) (rw (the_payload v m c ec t h) at e)
