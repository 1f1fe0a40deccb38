-- Passing over a message: what it says of the tests before the fields, and that reading follows from where it stops.
use Prim.Native.Nat.{ℕ, ◌+◌, ◌-◌, ◌≤◌}
use native.Mathlib.Omega.{arith}
use mathlib.Core.Path.{◌≡◌, sym, ap, ◌∙◌}
use mathlib.Core.List.{List}
use lib.ListN.{length, take, drop}
use Rattle.std.specs.Prelude.{Ok, Err}
use Rattle.wire.specs.Reading.{Outcome, read_end}
use Rattle.wire.specs.declared.Refused.{Refused}
use Rattle.message_layout.specs.Message.{size_in, payload_in}
use Rattle.payload_read.specs.Stops.{stop_of}
use Rattle.payload_read.specs.Outcomes.{outcome_of}
use Rattle.payload_read.proofs.Outcomes.{stop_reads}
use Rattle.message_read.specs.Reading.{Reading, accepted, answer, opening, reading}
use Rattle.message_read.specs.Passing.{Passage, tested_as, passed, passing}
use Rattle.message_read.specs.declared.Accepted.{Accepted}
use Rattle.message_read.specs.declared.Tested.{Tested}
use Rattle.message_read.proofs.Opening.{opened, opened-reading, turned-reading}

-- ---- behind the tests, whose answer is q

module _ (v : ℕ) (m : List ℕ) (q : Reading) (eq : q ≡ opening v m) (a : Accepted) (e : q ≡ Ok a) where
  pub opened-header : 32 ≤ a.used
  opened-header = let z = (opened v m a (sym eq ∙ e)).2 in omega (arith, z)

  pub opened_inside : a.used ≤ length m
  opened_inside = (opened v m a (sym eq ∙ e)).3

-- ---- taken apart again: passing came to c

was_refused : (q : Reading) (m : List ℕ) (r : Refused) → passed q m ≡ Err r → q ≡ Err r
was_refused (Err g) m r h = cc
was_refused (Ok a) m r h = absurd (let z : ◌≡◌ {A = ℕ} 0 1 = cc in omega arith)

was_passed : (q : Reading) (m : List ℕ) (t : Tested) → passed q m ≡ Ok t → (q ≡ Ok (accepted t.kind t.used)) × (t.fields ≡ stop_of t.kind (take (t.used - 32) (drop 32 m)))
was_passed (Err g) m t h = absurd (let z : ◌≡◌ {A = ℕ} 0 1 = cc in omega arith)
was_passed (Ok a) m t h =
    let z : tested_as a.kind a.used (stop_of a.kind (take (a.used - 32) (drop 32 m))) ≡ t = cc in
    let k : a.kind ≡ t.kind = ap (λ (x : Tested). x.kind) z in
    let u : a.used ≡ t.used = ap (λ (x : Tested). x.used) z in
    (ap (λ (x : Tested). Ok (accepted x.kind x.used)) z, sym (ap (λ (x : Tested). x.fields) z) ∙ rw (k, u))

module _ (v : ℕ) (m : List ℕ) (c : Passage) (ec : c ≡ passing v m) where
  pub refused_opening : (r : Refused) → c ≡ Err r → opening v m ≡ Err r
  unfolding passing
  refused_opening r e = was_refused (opening v m) m r (sym ec ∙ e)

  pub not_passed : (r : Refused) → c ≡ Err r → Err r ≡ reading v m
  not_passed r e = sym (turned-reading v m r (refused_opening r e))

  module _ (t : Tested) (e : c ≡ Ok t) where
    was : (opening v m ≡ Ok (accepted t.kind t.used)) × (t.fields ≡ stop_of t.kind (take (t.used - 32) (drop 32 m)))
    unfolding passing
    was = was_passed (opening v m) m t (sym ec ∙ e)

    ends : t.used ≡ 32 + size_in m
    ends = (opened v m (accepted t.kind t.used) was.0).2

    pub passed-opening : opening v m ≡ Ok (accepted t.kind t.used)
    passed-opening = was.0

    pub behind-header : 32 ≤ t.used
    behind-header = omega (arith, ends)

    pub in_message_lem : t.used ≤ length m
    in_message_lem = (opened v m (accepted t.kind t.used) was.0).3

    pub the_payload : take (t.used - 32) (drop 32 m) ≡ payload_in m
    the_payload = let z : t.used - 32 ≡ size_in m = omega (arith, ends) in rw z

    pub passed_stop : t.fields ≡ stop_of t.kind (take (t.used - 32) (drop 32 m))
    passed_stop = was.1

    pub fields_read : (f o : Outcome) → f ≡ outcome_of (take (t.used - 32) (drop 32 m)) t.fields → o ≡ read_end (take (t.used - 32) (drop 32 m)) f
        → answer t.kind t.used o ≡ reading v m
    fields_read f o ef eo =
        let z : f ≡ _ = ef ∙ ap (outcome_of (take (t.used - 32) (drop 32 m))) was.1 ∙ stop_reads (take (t.used - 32) (drop 32 m)) t.kind in
        rw (eo, z, the_payload) (sym (opened-reading v m (accepted t.kind t.used) was.0))
