-- The round trip, for every type at once: about `writing` and `written`, which are what the eleven writers answer and leave in the output, and `reading`,
-- which is what `read` answers.
use Rattle.std.specs.Prelude.{Ok}
use Prim.Native.Nat.{ℕ, ◌+◌, ◌≤◌}
use native.Mathlib.Omega.{arith}
use mathlib.Core.Path.{◌≡◌, refl, sym, ap, ◌∙◌, subst}
use mathlib.Core.Bool.{true, false}
use mathlib.Core.List.{List, ◌++◌}
use lib.ListN.{length, take, drop}
use lib.Seq.{length-take-le, take_at, drop_at}
use lib.Dec.{eqb, ltb}
use borrow.Author.Tests.{eqb-true, eq-eqb, le-ltb}
use Rattle.wire.specs.Numbers.{Bytes}
use Rattle.wire.specs.Values.{FieldVals}
use Rattle.wire.proofs.Parts.{both}
use Rattle.message_layout.specs.Table.{layout}
use Rattle.message_layout.specs.Message.{Message, payload, bytes_of_message, ValidAt, header_size, size_most, message_in}
use Rattle.message_read.specs.Reading.{accepted, reading}
use Rattle.message_read.proofs.Exact.{accepted_valid, valid_accepted, valid_read_back}
use Rattle.message_lent.specs.Lent.{all_agree}
use Rattle.message_lent.specs.Requests.{Request, message}
use Rattle.message_lent.specs.Lending.{RequestTyped, lend}
use Rattle.message_lent.proofs.Valid.{AllAgreed, all_agreed, lent_valid}
use Rattle.message_lent.proofs.Lend.{AllBack, all_back}
use Rattle.message_verdict.specs.Writing.{agreeing, allowing, verdict, writing, written, part_of}
use Rattle.message_verdict.proofs.Verdict.{Passed, success, message-length}

-- ---- what is written is valid

pub passed : (v : ℕ) (q : Request) (room n : ℕ) → writing v q room ≡ Ok n
    → Passed v q.kind (agreeing q) (allowing q) (length (payload (message q))) room n
unfolding writing
passed v q room n h = success v q.kind (agreeing q) (allowing q) (length (payload (message q))) room n h

-- the columns of each list of a request that was answered with success have as many items as the list has elements
pub written_agreed : (v : ℕ) (q : Request) (room n : ℕ) → writing v q room ≡ Ok n → AllAgreed (layout q.kind) q.lent
unfolding agreeing
written_agreed v q room n h =
    all_agreed (layout q.kind) q.lent (both (eqb (length q.correlation) 16) (all_agree (layout q.kind) q.lent) (passed v q room n h).agrees).1

-- a request that was answered with success stands for a message that is valid at that version, of as many bytes as were reported
pub written_valid : (v : ℕ) (q : Request) (room n : ℕ) → RequestTyped q → writing v q room ≡ Ok n
    → ValidAt v (message q) × (n ≡ length (bytes_of_message (message q))) × (n ≤ room)
unfolding agreeing allowing
written_valid v q room n t h =
    let s = passed v q room n h in
    let z = both (eqb (length q.correlation) 16) (all_agree (layout q.kind) q.lent) s.agrees in
    let l : length (bytes_of_message (message q)) ≡ header_size + length (payload (message q)) = message-length q s.agrees in (
      record {
        version = s.version;
        held = s.held;
        correlated = (eqb-true (length q.correlation) 16 z.0, t.0.1);
        fields = lent_valid (layout q.kind) q.lent t.1 z.1 s.allows;
        small = s.small;
      },
      s.used ∙ sym l,
      omega (arith, s.used, s.fits),
    )

-- ---- what is written is read

-- what a writer accepted is read as accepted, with the same type and used length, and gives the same values back; the part handed back is the message
pub written_read_lem : (v : ℕ) (q : Request) (out : List ℕ) (n : ℕ) → RequestTyped q → writing v q (length out) ≡ Ok n
    → (reading v (written v q out) ≡ Ok (accepted q.kind n))
    × (message_in (written v q out) ≡ message q)
    × (part_of (writing v q (length out)) (written v q out) ≡ bytes_of_message (message q))
    × (drop n (written v q out) ≡ drop n out)
unfolding written
written_read_lem v q out n t h =
    let w = written_valid v q (length out) n t h in
    let x : Message = message q in
    let l : length (bytes_of_message x) ≡ n = sym w.1 in
    let s = passed v q (length out) n h in
    rw h
    ((
      valid_accepted v x w.0 (drop n out) ∙ ap (λ (k : ℕ). Ok (accepted q.kind k)) (sym s.used),
      valid_read_back v x w.0 (drop n out),
      take_at (bytes_of_message x) (drop n out) n l,
      drop_at (bytes_of_message x) (drop n out) n l,
    ))

-- ---- what was read is written again

-- from an accepted message, any request that stands for its values, and whose lists agree and numbers are allowed, is answered with success where there
-- is room, and writes the same bytes
pub read_written_lem : (v : ℕ) (m : List ℕ) (t n : ℕ) → Bytes m → reading v m ≡ Ok (accepted t n)
    → (q : Request) → message q ≡ message_in m → agreeing q ≡ true → allowing q ≡ true → (out : List ℕ) → n ≤ length out
    → (writing v q (length out) ≡ Ok n) × (written v q out ≡ take n m ++ drop n out)
unfolding written writing verdict
read_written_lem v m t n b h q e a k out r =
    let y = accepted_valid v m t n b h in
    let ok : ValidAt v (message q) = subst (λ (x : Message). ValidAt v x) (sym e) y.0 in
    let w : bytes_of_message (message q) ≡ take n m = ap bytes_of_message e ∙ y.1 in
    let l : header_size + length (payload (message q)) ≡ n = sym (message-length q a) ∙ ap length w ∙ length-take-le n m y.3 in
    let s : ltb size_most (length (payload (message q))) ≡ false = le-ltb size_most (length (payload (message q))) ok.small in
    let f : ltb (length out) (header_size + length (payload (message q))) ≡ false = le-ltb (length out) (header_size + length (payload (message q))) (omega arith) in
    rw (ok.version, ok.held, a, k, s, f, l) ((refl, ap (λ (x : List ℕ). x ++ drop n out) w))

-- a valid message's values, lent as they are, are such a request
lend_back : (v : ℕ) (x : Message) → ValidAt v x → (message (lend x) ≡ x) × (agreeing (lend x) ≡ true) × (allowing (lend x) ≡ true)
unfolding agreeing allowing
lend_back v x ok =
    let r : AllBack (layout x.kind) x.values = all_back (layout x.kind) x.values ok.fields in (
      ap (λ (w : FieldVals (layout x.kind)). record { kind = x.kind; correlation = x.correlation; values = w }) r.value,
      rw (eq-eqb (length x.correlation) 16 ok.correlated.0) r.agree,
      r.allow,
    )

-- so writing what was read from an accepted message gives its bytes again
pub read_rewritten : (v : ℕ) (m : List ℕ) (t n : ℕ) → Bytes m → reading v m ≡ Ok (accepted t n) → (out : List ℕ) → n ≤ length out
    → (writing v (lend (message_in m)) (length out) ≡ Ok n) × (written v (lend (message_in m)) out ≡ take n m ++ drop n out)
read_rewritten v m t n b h out r =
    let y = accepted_valid v m t n b h in
    let z = lend_back v (message_in m) y.0 in
    read_written_lem v m t n b h (lend (message_in m)) z.0 z.1 z.2 out r
