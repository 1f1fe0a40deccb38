-- What an answer of success tells.
use Rattle.std.specs.Prelude.{Ok}
use Prim.Native.Nat.{ℕ, ◌+◌, ◌≤◌}
use lib.ListN.{length, length-append}
use mathlib.Core.List.{List}
use Rattle.wire.specs.Values.{encode, encode_field, encode_item}
use Rattle.wire.proofs.Parts.{both}
use Rattle.wire.proofs.Bytes.{length-bytes_of}
use Rattle.message_lent.specs.Requests.{Request, message, header_of}
use mathlib.Core.Path.{◌≡◌, refl, ap, ◌∙◌}
use mathlib.Core.Bool.{Bool, not, true, false}
use native.Mathlib.Omega.{arith}
use lib.Dec.{ltb}
use borrow.Author.Tests.{ltb-false, not-false, eqb-true}
use Rattle.wire.specs.declared.Fault.{Fault}
use Rattle.wire.specs.declared.Fault.TheVariants.{NoSuchVersion, NotInVersion, TooLarge, NotAllowed, OutputShort, ListsDiffer}
use Rattle.message_layout.specs.Table.{versions_of, holds, served}
use Rattle.message_layout.specs.Message.{header_size, size_most, payload, bytes_of_message}
use Rattle.message_verdict.specs.Writing.{Written, refuse, agreeing, verdict}

passed : (b : Bool) (f : Fault) (r : Written) (n : ℕ) → refuse b f r ≡ Ok n → (b ≡ false) × (r ≡ Ok n)
passed true f r n h = absurd (let z : ◌≡◌ {A = ℕ} 0 1 = cc in omega arith)
passed false f r n h = (refl, h)

pub record Passed (v t : ℕ) (agree allowed : Bool) (size room n : ℕ) : Type 0 where
  pub version : served v ≡ true
  pub held : holds (versions_of t) v ≡ true
  pub agrees : agree ≡ true
  pub allows : allowed ≡ true
  pub small : size ≤ size_most
  pub fits : header_size + size ≤ room
  pub used : n ≡ header_size + size

pub success : (v t : ℕ) (agree allowed : Bool) (size room n : ℕ) → verdict v t agree allowed size room ≡ Ok n → Passed v t agree allowed size room n
unfolding verdict
success v t agree allowed size room n h =
    let p40 = passed (not (served v)) NoSuchVersion _ n h in
    let p42 = passed (not (holds (versions_of t) v)) NotInVersion _ n p40.1 in
    let p48 = passed (not agree) ListsDiffer _ n p42.1 in
    let p45 = passed (not allowed) NotAllowed _ n p48.1 in
    let p43 = passed (ltb size_most size) TooLarge _ n p45.1 in
    let p47 = passed (ltb room (header_size + size)) OutputShort _ n p43.1 in
    let e : ◌≡◌ {A = Written} (Ok (header_size + size)) (Ok n) = p47.1 in
    record {
      version = not-false (served v) p40.0;
      held = not-false (holds (versions_of t) v) p42.0;
      agrees = not-false agree p48.0;
      allows = not-false allowed p45.0;
      small = ltb-false size_most size p43.0;
      fits = ltb-false room (header_size + size) p47.0;
      used = cc;
    }

-- ---- the length of a whole message

header-length : (t : ℕ) (c : List ℕ) (n : ℕ) → length c ≡ 16 → length (header_of t c n) ≡ header_size
unfolding encode encode_field encode_item
header-length t c n h = simp (length-append, length-bytes_of, h)

pub message-length : (q : Request) → agreeing q ≡ true → length (bytes_of_message (message q)) ≡ header_size + length (payload (message q))
unfolding bytes_of_message agreeing
message-length q h =
    let c : length q.correlation ≡ 16 = eqb-true (length q.correlation) 16 (both _ _ h).0 in
    length-append (header_of q.kind q.correlation (length (payload (message q)))) (payload (message q))
    ∙ ap (λ (k : ℕ). k + length (payload (message q))) (header-length q.kind q.correlation (length (payload (message q))) c)
