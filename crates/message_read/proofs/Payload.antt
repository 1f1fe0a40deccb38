-- The payload that an answer gives is that of the message that was read.
use Prim.Native.Nat.{ℕ, ◌-◌}
use native.Mathlib.Omega.{arith}
use mathlib.Core.Path.{◌≡◌, sym, ap, ◌∙◌}
use mathlib.Core.List.{List}
use lib.ListN.{take, drop}
use Rattle.std.specs.Prelude.{Ok}
use Rattle.message_layout.specs.Message.{header_size, size_in, payload_in}
use Rattle.message_read.specs.Reading.{Reading, accepted, reading, payload_of}
use Rattle.message_read.proofs.Exact.{Passed, accepted_passed}

-- of an accepted message: as many bytes as header.size says
pub payload-is : (r : Reading) (m : List ℕ) (t n : ℕ) → r ≡ Ok (accepted t n) → (v : ℕ) → r ≡ reading v m → payload_of r m ≡ payload_in m
payload-is r m t n ok v e =
    let p : Passed v m t n = accepted_passed v m t n (sym e ∙ ok) in
    let z : n - header_size ≡ size_in m = omega (arith, p.used) in
    rw ok (ap (λ (k : ℕ). take k (drop header_size m)) z)
