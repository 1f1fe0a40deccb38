-- What a message holds under a role, from what reading it and finding the field gave.
use Rattle.std.proofs.Common.{◌≡◌, ℕ, ◌≤◌, List, length, refl, sym, ◌∙◌, arith, Option, Ok}
use Rattle.message_layout.specs.declared.Source.TheVariants as source
use Rattle.message_read.specs.Reading.{Reading, reading, payload_of}
use Rattle.message_read.specs.declared.Accepted.{Accepted}
use Rattle.message_read.proofs.Exact.{accepted_passed}
use Rattle.message_read.proofs.Payload.{payload-is}
use Rattle.message_fields.specs.Fields.{field_in, sought_in}
use Rattle.message_fields.specs.declared.Found.{Found}

-- q is what reading m at version v answered: it is accepted
module _ (v : ℕ) (m : List ℕ) (q : Reading) (read : q ≡ reading v m) (a : Accepted) (ok : q ≡ Ok a) where
  pub correlation_in_lem : 24 ≤ length m
  correlation_in_lem = omega (arith, (accepted_passed v m a.kind a.used (sym read ∙ ok)).whole_header)

  -- its payload is s, and g was found in that under role r
  pub under_is : (s : List ℕ) → s ≡ payload_of (Ok a) m → (r : ℕ) (g : Option Found) → g ≡ field_in r (source.Message a.kind) s
      → Ok (s, g) ≡ sought_in (reading v m) r m
  under_is s payload r g found =
      let p = payload ∙ payload-is (Ok a) m a.kind a.used refl v (sym ok ∙ read) in
      rw (← read, ok, found, p) refl
