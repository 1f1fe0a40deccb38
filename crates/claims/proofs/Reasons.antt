-- T-08's claims: from the truth of every reason, and from what a step goes to.
use Prim.Native.Nat.{ℕ}
use mathlib.Core.Path.{◌≡◌, refl}
use mathlib.Core.List.{List}
use Rattle.std.specs.Prelude.{Option}
use Rattle.wire.specs.Numbers.{Bytes}
use Rattle.message_read.specs.Reading as reads
use Rattle.message_read.specs.Reading.{reading}
use Rattle.message_walk.specs.declared.Reason.{Reason}
use Rattle.message_walk.proofs.Stepping.{from_start, step_field, step_done}
use Rattle.message_explain.specs.Explaining.{explaining}
use Rattle.message_explain.specs.Truth.{True, accepted, version, header, payload, unknown, other_version, large, short, value, left}
use Rattle.message_explain.proofs.Truth.{truth}
use Rattle.message_explain.proofs.Only.{no_reason, only}
use Rattle.explain_line.specs.Parts.{reason_number, field_word}
use Rattle.claims.proofs.Names.{named}
use Rattle.claims.specs.Claims.{Explains, Named, Walks}

module _ (v : ℕ) (m : List ℕ) where
  -- every true reason has the reading's number
  same_number : (r : Option Reason) → True v m r → reason_number r ≡ reads.number_of (reading v m)
  same_number r (accepted t n h) = rw h
  same_number r (version h a) = rw h
  same_number r (header h a) = rw h
  same_number r (payload h a b c) = rw h
  same_number r (unknown h a) = rw h
  same_number r (other_version h a) = rw h
  same_number r (large h a) = rw h
  same_number r (short x h a b c d) = rw h
  same_number r (value x h a b c d e f) = rw h
  same_number r (left p n h a b c) = rw h

  pub explains : Bytes m → Explains v m
  explains bytes = record {
    number = same_number (explaining v m) (truth v m bytes);
    none = λ t n h. no_reason v m t n h (explaining v m) (truth v m bytes);
    truth = truth v m bytes;
    only = only v m bytes;
  }

pub walks : (s : List ℕ) → Walks s
walks s = record { start = from_start s; field = λ x next y h. step_field s x y next h; done = step_done s }

pub names : Named
unfolding field_word
names = record { field = named; header = refl; payload = refl; type = refl; size = refl }
