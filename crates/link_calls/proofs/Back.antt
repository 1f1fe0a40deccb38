-- Records read back: whatever follows a record that was written, the head found at the front of the bytes is that record's, and so are its size and its
-- data; and what an accepted call of ours writes is such a record.
use mathlib.Core.Path.{◌≡◌, refl, sym, ap, ◌∙◌}
use mathlib.Core.Bool.{Bool, true, false}
use mathlib.Core.List.{List, ◌++◌}
use Prim.Native.Nat.{ℕ, ◌+◌, ◌<◌}
use native.Mathlib.Omega.{arith}
use borrow.Author.Tests.{ltb-true, ne_eqb}
use lib.Dec.{leb, ltb}
use lib.ListN.{length, take, drop}
use lib.Seq.{take_at}
use Rattle.link_rows.specs.Limits.{OPEN, CLOSE, REQUEST, TRANSMIT, long_length}
use Rattle.link_rows.specs.Rows.{is_served, row_of}
use Rattle.link_rows.specs.declared.Endpoint.{Endpoint}
use Rattle.link_rows.proofs.Laws.{and_right, row_credit}
use Rattle.link_replies.proofs.Done.{open_done, close_done, request_done, transmit_done}
use Rattle.link_bytes.specs.Records.{head_of, short_record, long_record}
use Rattle.link_bytes.proofs.Round.{short_opcode, short-id, long-id, long-count}
use Rattle.link_calls.specs.Back.{Begins, Counts, Carries}
use Rattle.link_calls.specs.Calls.{open_out, close_out, request_out, transmit_out, opening, closing, requesting, transmitting}
use Rattle.link_rows.specs.declared.Done.{Done}
use Rattle.std.specs.Prelude.{Ok}

-- a record without a count
pub short_back : (opcode id : ℕ) (rest : List ℕ) → id < 65536 → (opcode ≡ REQUEST → ⊥) → (opcode ≡ TRANSMIT → ⊥) → Begins (short_record opcode id ++ rest) opcode id (length (short_record opcode id))
unfolding head_of
short_back opcode id rest h r t = record {
  opcode = short_opcode opcode id rest h;
  id = short-id opcode id rest h;
  size = rw (ne_eqb opcode TRANSMIT t, ne_eqb opcode REQUEST r) refl;
}

-- a REQUEST
pub request_back : (id n : ℕ) (rest : List ℕ) → id < 65536 → n < 4294967296 → Counts (long_record REQUEST id n ++ rest) REQUEST id n (length (long_record REQUEST id n))
unfolding head_of
request_back id n rest h k = record {
  begins = record { opcode = refl; id = long-id REQUEST id rest h n k; size = refl };
  count = long-count REQUEST id rest h n k;
}

-- a TRANSMIT with its data
pub transmit_back : (id : ℕ) (data' rest : List ℕ) → id < 65536 → length data' < 4294967296 → Carries ((long_record TRANSMIT id (length data') ++ data') ++ rest) id data'
unfolding head_of
transmit_back id data' rest h k =
    let c : (head_of (long_record TRANSMIT id (length data') ++ (data' ++ rest))).count ≡ length data' = long-count TRANSMIT id (data' ++ rest) h (length data') k in
    record {
      counts = record {
        begins = record { opcode = refl; id = long-id TRANSMIT id (data' ++ rest) h (length data') k; size = ap (λ (n : ℕ). long_length + n) c };
        count = c;
      };
      carried = ap (λ (n : ℕ). take n (data' ++ rest)) c ∙ take_at data' rest (length data') refl;
    }

-- an identifier that is served has two bytes
served_small : (id : ℕ) → is_served id ≡ true → id < 65536
unfolding is_served
served_small id h = go (ltb id 16) refl
  where
    go : (b : Bool) → ltb id 16 ≡ b → id < 65536
    go true q = omega (arith, ltb-true id 16 q)
    go false q = omega (arith, ltb-true id 0x8010 (and_right (leb 0x8000 id) (ltb id 0x8010) (rw q at h)))

-- our calls, where they are answered 0: their output begins with the record of that identifier, amount or data, and as many bytes as are reported are its
module _ (e : Endpoint) (store : List ℕ) (id : ℕ) (out : List ℕ) {v : Done} where
  pub open_sends : (opening e store id out).reply ≡ Ok v → Begins (opening e store id out).out OPEN id v.written
  unfolding opening open_out
  open_sends q =
      let d = open_done e (length store) id (length out) q in
      let b = short_back OPEN id (drop 3 out) (served_small id d.served) (λ x. omega arith) (λ x. omega arith) in
      record { opcode = rw q b.opcode; id = rw q b.id; size = rw q (b.size ∙ sym d.written) }

  pub close_sends : (session : ℕ) → (closing e store id session out).reply ≡ Ok v → Begins (closing e store id session out).out CLOSE id v.written
  unfolding closing close_out
  close_sends session q =
      let d = close_done e (length store) id session (length out) q in
      let b = short_back CLOSE id (drop 3 out) (served_small id d.named.served) (λ x. omega arith) (λ x. omega arith) in
      record { opcode = rw q b.opcode; id = rw q b.id; size = rw q (b.size ∙ sym d.written) }

  pub request_sends : (session amount : ℕ) → (requesting e store id session amount out).reply ≡ Ok v → Counts (requesting e store id session amount out).out REQUEST id amount v.written
  unfolding requesting request_out
  request_sends session amount q =
      let d = request_done e (length store) id session amount (length out) q in
      let b = request_back id amount (drop 7 out) (served_small id d.named.served) (omega (arith, d.fits)) in
      record {
        begins = record { opcode = rw q b.begins.opcode; id = rw q b.begins.id; size = rw q (b.begins.size ∙ sym d.written) };
        count = rw q b.count;
      }

  pub transmit_sends : (session : ℕ) (bytes : List ℕ) → (transmitting e store id session bytes out).reply ≡ Ok v → Carries (transmitting e store id session bytes out).out id bytes × (v.written ≡ long_length + length bytes)
  unfolding transmitting transmit_out
  transmit_sends session bytes q =
      let d = transmit_done e (length store) id session (length bytes) (length out) q in
      let b = transmit_back id bytes (drop (length (long_record TRANSMIT id (length bytes) ++ bytes)) out) (served_small id d.named.served) (omega (arith, d.granted, row_credit e (row_of id) d.passed.rules)) in (
        record {
          counts = record {
            begins = record { opcode = rw q b.counts.begins.opcode; id = rw q b.counts.begins.id; size = rw q b.counts.begins.size };
            count = rw q b.counts.count;
          };
          carried = rw q b.carried;
        },
        d.written,
      )
