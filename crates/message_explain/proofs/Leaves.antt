-- The reason from where passing over the fields of a payload of type t stops.
use Prim.Native.Nat.{ℕ}
use mathlib.Core.Path.{◌≡◌, ap, ◌∙◌}
use mathlib.Core.List.{List}
use Rattle.std.specs.Prelude.{Option, None, Some, Ok, Err}
use Rattle.wire.specs.Numbers.{Bytes}
use Rattle.message_layout.specs.declared.Source.TheVariants as source
use Rattle.payload_read.specs.declared.Stop.{Stop}
use Rattle.payload_read.specs.Stops.{Passed, stop_of}
use Rattle.message_walk.specs.declared.Reason.{Reason}
use Rattle.message_walk.specs.Walk.{walk}
use Rattle.message_walk.specs.Reasons.{left_over, reason_of}
use Rattle.message_explain.specs.Inner.{refused_at}
use Rattle.message_explain.proofs.Stopping.{stop_reason, stop_explains}

module _ (s : List ℕ) (bytes : Bytes s) (t : ℕ) (a : Passed) (ea : a ≡ stop_of t s) where
  explains : (r : Option Reason) → r ≡ stop_reason (source.Message t) None s a → r ≡ reason_of s (walk s t)
  explains r e = e ∙ ap (stop_reason (source.Message t) None s) ea ∙ stop_explains s bytes t

  pub stop_end : (p : ℕ) → a ≡ Ok p → (r : Option Reason) → r ≡ left_over s p → r ≡ reason_of s (walk s t)
  stop_end p e r z = explains r (rw e z)

  pub stop_field : (x : Stop) → a ≡ Err x → (r : Reason) → r ≡ refused_at (source.Message t) None s x → Some r ≡ reason_of s (walk s t)
  stop_field x e r z = explains (Some r) (rw e (ap Some z))
