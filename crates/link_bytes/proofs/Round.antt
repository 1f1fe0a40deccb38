-- What is written is read back: the head of a record that one end writes is the head that the other end finds.
use mathlib.Core.Path.{◌≡◌, refl, sym, ◌∙◌}
use mathlib.Core.List.{List, ◌++◌}
use Prim.Native.Nat.{ℕ, ◌+◌, ◌*◌, ◌/◌, ◌%◌, ◌<◌}
use native.Mathlib.Nat.{div-div-eq-div-mul}
use native.Mathlib.Omega.{arith}
use Rattle.link_bytes.specs.Records.{head_of, short_record, long_record}

two : (n : ℕ) → n < 65536 → 256 * (n / 256 % 256) + n % 256 ≡ n
two n h = omega arith

div_mod : (n : ℕ) → n ≡ 256 * (n / 256) + n % 256
div_mod n = omega arith

-- four digits, each of which is a byte
steps : (n a b c : ℕ) → n ≡ 256 * a + n % 256 → a ≡ 256 * b + a % 256 → b ≡ 256 * c + b % 256 → c < 256 → 16777216 * (c % 256) + 65536 * (b % 256) + 256 * (a % 256) + n % 256 ≡ n
steps n a b c p q r h = omega arith

four : (n : ℕ) → n < 4294967296 → 16777216 * (n / 16777216 % 256) + 65536 * (n / 65536 % 256) + 256 * (n / 256 % 256) + n % 256 ≡ n
four n h =
    let a : n / 65536 ≡ n / 256 / 256 = sym (div-div-eq-div-mul n 256 256) in
    let b : n / 16777216 ≡ n / 256 / 256 / 256 = sym (div-div-eq-div-mul (n / 256) 256 256 ∙ div-div-eq-div-mul n 256 65536) in
    rw (a, b) (steps n (n / 256) (n / 256 / 256) (n / 256 / 256 / 256) (div_mod n) (div_mod (n / 256)) (div_mod (n / 256 / 256)) (omega arith))

module _ (opcode id : ℕ) (rest : List ℕ) (h : id < 65536) where
  pub short_opcode : (head_of (short_record opcode id ++ rest)).opcode ≡ opcode
  unfolding head_of
  short_opcode = refl

  pub short-id : (head_of (short_record opcode id ++ rest)).id ≡ id
  unfolding head_of
  short-id = two id h

  module _ (n : ℕ) (k : n < 4294967296) where
    pub long_opcode : (head_of (long_record opcode id n ++ rest)).opcode ≡ opcode
    unfolding head_of
    long_opcode = refl

    pub long-id : (head_of (long_record opcode id n ++ rest)).id ≡ id
    unfolding head_of
    long-id = two id h

    pub long-count : (head_of (long_record opcode id n ++ rest)).count ≡ n
    unfolding head_of
    long-count = four n k
