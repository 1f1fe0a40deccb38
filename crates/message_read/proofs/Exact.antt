-- Demand 2 for messages, as theorems about `reading`, which is what `read` answers: a message is accepted exactly when it is the encoding of a
-- valid message at that version and fills header.size; accepted bytes encode again to themselves; a valid message is read back unchanged.
use Prim.Native.Nat.{ℕ, ◌+◌, ◌^◌, ◌≤◌, ◌<◌}
use native.Mathlib.Omega.{arith}
use mathlib.Core.Path.{◌≡◌, refl, sym, ap, ◌∙◌}
use mathlib.Core.Logic.{◌↔◌}
use mathlib.Core.Bool.{Bool, true, false, cond, ◌&&◌}
use mathlib.Core.List.{List, [], ◌∷◌, ◌++◌, append_assoc, append-nil}
use lib.ListN.{length, take, drop, length-append, length-drop, take-append-drop}
use lib.Seq.{take-add, drop-drop, take-append_seam, drop-append_seam, length-take-le}
use lib.Dec.{eqb, ltb}
use borrow.Author.Tests.{le-ltb, ltb-true, eqb-true}
use Rattle.wire.specs.Numbers.{Bytes, bytes_of}
use Rattle.wire.specs.Values.{FieldVals, encode_item, encode_field, encode}
use Rattle.wire.specs.Decoding.{item_at, after_item, field_at, after_field, decode}
use Rattle.std.specs.Prelude.{Option, Some, None, Ok, Err}
use Rattle.wire.specs.Reading.{Outcome, read_fields, read_end}
use Rattle.wire.proofs.Bytes.{bytes_take, bytes_drop, length-bytes_of, bytes_of-number}
use Rattle.wire.proofs.Parts.{any_allowed}
use Rattle.wire.proofs.RoundTrip.{front_read, valid_read, accepted_encoded}
use Rattle.message_layout.specs.Table.{Row, table, layout, versions_in, versions_of, known, holds, served}
use Rattle.message_layout.specs.Message.{header, header_size, size_most, Message, payload, bytes_of_message, ValidAt, type_in, correlation_in, size_in, payload_in, message_from, message_in}
use Rattle.message_layout.specs.declared.Versions.{Versions}
use Rattle.message_read.specs.Reading.{accepted, answer, reading}
use Rattle.message_read.specs.declared.Accepted.{Accepted}
use Rattle.message_read.proofs.Opening.{never, tests_passed}

answered : (k u : ℕ) (o : Outcome) (t n : ℕ) → answer k u o ≡ Ok (accepted t n) → (e : ℕ) × (o ≡ Ok e) × (k ≡ t) × (u ≡ n)
unfolding answer
answered k u (Ok e) t n h =
    let z : accepted k u ≡ accepted t n = cc in
    (e, refl, ap (λ (x : Accepted). x.kind) z, ap (λ (x : Accepted). x.used) z)
answered k u (Err r) t n h = never h

-- ---- accepted bytes are a valid message

-- what acceptance says, test by test
pub record Passed (v : ℕ) (m : List ℕ) (t n : ℕ) : Type 0 where
  pub version : served v ≡ true
  pub whole_header : header_size ≤ length m
  pub held : holds (versions_of (type_in m)) v ≡ true
  pub small : size_in m ≤ size_most
  pub whole : header_size + size_in m ≤ length m
  pub kind : type_in m ≡ t
  pub used : header_size + size_in m ≡ n
  pub fields : (e : ℕ) × (read_end (payload_in m) (read_fields (layout (type_in m)) (payload_in m) (Ok 0)) ≡ Ok e)

pub accepted_passed : (v : ℕ) (m : List ℕ) (t n : ℕ) → reading v m ≡ Ok (accepted t n) → Passed v m t n
unfolding reading
accepted_passed v m t n h =
    let p = tests_passed v m _ (accepted t n) h in
    let a = answered (type_in m) (header_size + size_in m) _ t n p.1 in
    record {
      version = p.0.version;
      whole_header = p.0.whole_header;
      held = p.0.held;
      small = p.0.small;
      whole = p.0.whole;
      kind = a.2;
      used = a.3;
      fields = (a.0, a.1);
    }

module _ (m : List ℕ) (b : Bytes m) (l : header_size ≤ length m) where
  -- the header's bytes are those of its three fields
  front : take header_size m ≡ bytes_of 8 (type_in m) ++ (correlation_in m ++ (bytes_of 8 (size_in m) ++ []))
  front =
      take-add 8 24 m
      ∙ ap (λ (x : List ℕ). take 8 m ++ x)
      (take-add 16 8 (drop 8 m)
      ∙ ap (λ (x : List ℕ). take 16 (drop 8 m) ++ x) (ap (take 8) (drop-drop 16 8 m) ∙ sym (bytes_of-number 8 m 24 b l) ∙ sym (append-nil (bytes_of 8 (size_in m)))))
      ∙ ap (λ (x : List ℕ). x ++ (correlation_in m ++ (bytes_of 8 (size_in m) ++ []))) (sym (bytes_of-number 8 m 0 b (omega arith)))

-- accepted bytes hold a valid message, of the type answered, and its encoding is those bytes, to the last one that header.size counts
pub accepted_valid : (v : ℕ) (m : List ℕ) (t n : ℕ) → Bytes m → reading v m ≡ Ok (accepted t n)
    → ValidAt v (message_in m) × (bytes_of_message (message_in m) ≡ take n m) × (type_in m ≡ t) × (n ≤ length m)
unfolding bytes_of_message encode encode_field encode_item
accepted_valid v m t n b h =
    let p : Passed v m t n = accepted_passed v m t n h in
    let s : List ℕ = payload_in m in
    let e = accepted_encoded (layout (type_in m)) s p.fields.0 (bytes_take (size_in m) (drop header_size m) (bytes_drop header_size m b)) p.fields.1 in
    let k : length s ≡ size_in m = length-take-le (size_in m) (drop header_size m) (simp length-drop (omega arith)) in
    let z : length (payload (message_in m)) ≡ size_in m = ap length e.0 ∙ k in
    let y : n ≡ header_size + size_in m = sym p.used in (
      record {
        version = p.version;
        held = p.held;
        correlated =
            (length-take-le 16 (drop 8 m) (simp length-drop (omega (arith, p.whole_header))), bytes_take 16 (drop 8 m) (bytes_drop 8 m b));
        fields = e.1;
        small = rw z p.small;
      },
      rw (y, z, e.0) (sym (take-add header_size (size_in m) m ∙ ap (λ (x : List ℕ). x ++ s) (front m b p.whole_header))),
      p.kind,
      omega (arith, p.whole),
    )

-- ---- a valid message is accepted and read back

-- every type of the table fits a u64
abbrev all_fit : List Row → Bool
all_fit [] = true
all_fit (r ∷ rs) = ltb r.message 0x1_0000_0000_0000_0000 && all_fit rs

held_fits : (rs : List Row) → all_fit rs ≡ true → (t v : ℕ) → holds (versions_in rs t) v ≡ true → t < 256 ^ 8
held_fits [] a t v h = let z : ◌≡◌ {A = Bool} false true = h in absurd (let y : ◌≡◌ {A = ℕ} 0 1 = cc in omega arith)
held_fits (r ∷ rs) a t v h =
    go (eqb t r.message) refl (ltb r.message 0x1_0000_0000_0000_0000) refl a h (λ b k. held_fits rs b t v k)
  where
    go : (c : Bool) → eqb t r.message ≡ c → (d : Bool) → ltb r.message 0x1_0000_0000_0000_0000 ≡ d → (d && all_fit rs) ≡ true
        → holds (cond c (Some (record { first = r.first; last = r.last })) (versions_in rs t)) v ≡ true
        → (all_fit rs ≡ true → holds (versions_in rs t) v ≡ true → t < 256 ^ 8) → t < 256 ^ 8
    go true e true d b k rest =
        let l : r.message < 0x1_0000_0000_0000_0000 = ltb-true r.message 0x1_0000_0000_0000_0000 d in
        omega (arith, eqb-true t r.message e)
    go false e true d b k rest = rest b k
    go true e false d b k rest = let z : ◌≡◌ {A = Bool} false true = b in absurd (let y : ◌≡◌ {A = ℕ} 0 1 = cc in omega arith)
    go false e false d b k rest = let z : ◌≡◌ {A = Bool} false true = b in absurd (let y : ◌≡◌ {A = ℕ} 0 1 = cc in omega arith)

type_fits : (t v : ℕ) → holds (versions_of t) v ≡ true → t < 256 ^ 8
unfolding versions_of
type_fits t v h = held_fits table refl t v h

known-held : (vs : Option Versions) (v : ℕ) → holds vs v ≡ true → known vs ≡ true
known-held None v h = h
known-held (Some x) v h = refl

module _ (v : ℕ) (x : Message) (ok : ValidAt v x) (rest : List ℕ) where
  abbrev p : List ℕ
  p = payload x

  abbrev head : List ℕ
  head = encode header ((x.kind, (x.correlation, (length (payload x), tt))))

  abbrev m : List ℕ
  m = bytes_of_message x ++ rest

  split : m ≡ head ++ (p ++ rest)
  unfolding bytes_of_message
  split = append_assoc (encode header ((x.kind, (x.correlation, (length (payload x), tt))))) (payload x) rest

  head_values : decode header m 0 ≡ ((x.kind, (x.correlation, (length (payload x), tt))))
  head_values =
      let t : x.kind < 256 ^ 8 = type_fits x.kind v ok.held in
      let n : length (payload x) < 256 ^ 8 = omega (arith, ok.small) in
      rw split
      (front_read header ((x.kind, (x.correlation, (length (payload x), tt))))
      (((t, any_allowed x.kind t), (ok.correlated, ((n, any_allowed (length (payload x)) n), tt)))) (p ++ rest))

  its_type : type_in m ≡ x.kind
  unfolding decode field_at item_at after_field after_item
  its_type = ap (λ (d : FieldVals header). d.0) head_values

  its_correlation : correlation_in m ≡ x.correlation
  unfolding decode field_at item_at after_field after_item
  its_correlation = ap (λ (d : FieldVals header). d.1.0) head_values

  its_size : size_in m ≡ length p
  unfolding decode field_at item_at after_field after_item
  its_size = ap (λ (d : FieldVals header). d.1.1.0) head_values

  head_length : length head ≡ header_size
  unfolding encode encode_field encode_item
  head_length = simp (length-append, length-bytes_of, ok.correlated.0)

  after_head : take (length p) (drop header_size m) ≡ p
  after_head =
      let d : drop header_size m ≡ p ++ rest = rw (← head_length, split) (drop-append_seam head (p ++ rest)) in
      rw d (take-append_seam p rest)

  its_payload : payload_in m ≡ p
  its_payload = rw its_size after_head

  pub valid_read_back : message_in m ≡ x
  valid_read_back =
      ap (λ (t : ℕ). message_from t (correlation_in m) (payload_in m)) its_type
      ∙ ap (λ (c : List ℕ). message_from x.kind c (payload_in m)) its_correlation
      ∙ ap (λ (s : List ℕ). message_from x.kind x.correlation s) its_payload
      ∙ ap (λ (w : FieldVals (layout x.kind)). record { kind = x.kind; correlation = x.correlation; values = w }) (valid_read (layout x.kind) x.values ok.fields).1

  pub bytes-length : length (bytes_of_message x) ≡ header_size + length (payload x)
  unfolding bytes_of_message
  bytes-length = length-append head p ∙ ap (λ (k : ℕ). k + length p) head_length

  length_m : length m ≡ header_size + length p + length rest
  length_m = ap length split ∙ simp (length-append, head_length) (omega arith)

  payload_read : read_end p (read_fields (layout x.kind) p (Ok 0)) ≡ Ok (length p)
  payload_read = (valid_read (layout x.kind) x.values ok.fields).0

  pub valid_accepted : reading v m ≡ Ok (accepted x.kind (header_size + length (payload x)))
  unfolding reading answer
  valid_accepted =
      let k : known (versions_of x.kind) ≡ true = known-held (versions_of x.kind) v ok.held in
      let a : ltb (length m) header_size ≡ false = le-ltb (length m) header_size (omega (arith, length_m)) in
      let b : ltb size_most (length p) ≡ false = le-ltb size_most (length p) ok.small in
      let c : ltb (length m) (header_size + length p) ≡ false = le-ltb (length m) (header_size + length p) (omega (arith, length_m)) in
      rw (ok.version, a, its_type, k, ok.held, its_size, b, c, after_head, payload_read)

-- ---- the theorem

-- a message is accepted, with type t and used length n, exactly when the bytes are the encoding of a valid message of type t, n bytes long, and
-- perhaps more bytes, which are not looked at
pub exactly_when : (v : ℕ) (m : List ℕ) (t n : ℕ) → Bytes m
    → (reading v m ≡ Ok (accepted t n))
    ↔ ((x : Message) × (rest : List ℕ) × ValidAt v x × (m ≡ bytes_of_message x ++ rest) × (t ≡ x.kind) × (n ≡ length (bytes_of_message x)))
exactly_when v m t n b = (to, from)
  where
    to : reading v m ≡ Ok (accepted t n)
        → (x : Message) × (rest : List ℕ) × ValidAt v x × (m ≡ bytes_of_message x ++ rest) × (t ≡ x.kind) × (n ≡ length (bytes_of_message x))
    to h =
        let a = accepted_valid v m t n b h in (
          message_in m,
          drop n m,
          a.0,
          sym (take-append-drop n m) ∙ ap (λ (s : List ℕ). s ++ drop n m) (sym a.1),
          sym a.2,
          sym (ap length a.1 ∙ length-take-le n m a.3),
        )

    from : (x : Message) × (rest : List ℕ) × ValidAt v x × (m ≡ bytes_of_message x ++ rest) × (t ≡ x.kind) × (n ≡ length (bytes_of_message x))
        → reading v m ≡ Ok (accepted t n)
    from h =
        let x : Message = h.0 in
        ap (reading v) h.3 ∙ valid_accepted v x h.2 h.1
        ∙ ap (λ (k : ℕ). Ok (accepted x.kind k)) (sym (h.5 ∙ bytes-length v x h.2 h.1))
        ∙ ap (λ (k : ℕ). Ok (accepted k n)) (sym h.4)
