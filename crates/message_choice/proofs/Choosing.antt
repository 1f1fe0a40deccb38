-- Laws of choosing a version.
use Rattle.std.proofs.Common.{◌≡◌, ℕ, zero, suc, ◌+◌, ◌-◌, ◌≤◌, ◌<◌, max, List, length, take, drop, get_or, refl, ap, arith, drop-cons, Option, Ok, Err}
use Rattle.std.proofs.lemmas.List.{drop_all, length-drop}
use lib.Seq.{take_all, drop-drop}
use borrow.Author.Tests.{le-leb, lt-leb}
use native.Mathlib.Decide.{dec_le}
use Rattle.wire.specs.Numbers.{number_at}
use Rattle.wire.specs.declared.Refused.{Refused}
use Rattle.message_read.specs.Reading.{Reading}
use Rattle.message_layout.specs.Message.{payload_in}
use Rattle.message_layout.specs.Roles.{ProtocolVersions}
use Rattle.message_layout.specs.declared.Source.TheVariants as source
use Rattle.message_fields.specs.Fields.{field_in, within, sought_in}
use Rattle.message_fields.specs.declared.Found.{Found}
use Rattle.message_fields.proofs.Within.{after_within}
use Rattle.message_choice.specs.Choice.{counted, chosen, numbers_at, offers_at, offers_in}

-- ---- the choice

-- what is chosen of the rest and the best so far
pub choose_next : (offers : List ℕ) (i best b : ℕ) → i < length offers → b ≡ max best (counted (get_or offers i 0))
    → max b (chosen (drop (i + 1) offers)) ≡ max best (chosen (drop i offers))
unfolding chosen
choose_next offers i best b h e =
    let z : i + 1 ≡ suc i = omega arith in
    rw (drop-cons offers i 0 h, z) (omega arith)

pub choose_all : (offers : List ℕ) (i best k : ℕ) → length offers ≤ i → max best (chosen (drop i offers)) ≡ k → best ≡ k
unfolding chosen
choose_all offers i best k h e = let f : max best 0 ≡ k = rw (drop_all i offers h) at e in omega arith

-- ---- numbers from a place on

none_left : (s : List ℕ) (n : ℕ) → length s < 8 → chosen (numbers_at n s 0) ≡ 0
unfolding numbers_at chosen
none_left s zero h = refl
none_left s (suc n) h = rw (lt-leb 8 (length s) h) refl

-- they are those at the front of what follows the place
pub numbers_front : (n : ℕ) (s : List ℕ) (p : ℕ) → numbers_at n s p ≡ numbers_at n (drop p s) 0
unfolding numbers_at
numbers_front zero s p = refl
numbers_front (suc n) s p = go (dec_le (p + 8) (length s)) (length-drop p s) (numbers_front n s (p + 8)) (numbers_front n (drop p s) 8)
  where
    go : Dec (p + 8 ≤ length s) → length (drop p s) ≡ length s - p → numbers_at n s (p + 8) ≡ numbers_at n (drop (p + 8) s) 0
        → numbers_at n (drop p s) 8 ≡ numbers_at n (drop 8 (drop p s)) 0 → numbers_at (suc n) s p ≡ numbers_at (suc n) (drop p s) 0
    go (yes h) l e f = rw (le-leb (p + 8) (length s) h, le-leb 8 (length (drop p s)) (omega arith), e, f, drop-drop 8 p s) refl
    go (no h) l e f = rw (lt-leb (p + 8) (length s) (omega arith), lt-leb 8 (length (drop p s)) (omega arith)) refl

one_left : (s : List ℕ) (n : ℕ) → 8 ≤ length s → chosen (numbers_at (suc n) s 0) ≡ max (counted (number_at 8 s 0)) (chosen (numbers_at n (drop 8 s) 0))
unfolding numbers_at chosen
one_left s n h = rw (le-leb 8 (length s) h, numbers_front n s 8) refl

pub walk_from : (n : ℕ) (s : List ℕ) (p q : ℕ) → q ≡ within s p → max 0 (chosen (numbers_at (n - 0) (take (length s - q) (drop q s)) 0)) ≡ chosen (numbers_at n s p)
walk_from n s p q e = let z : n - 0 ≡ n = omega arith in rw (z, after_within s p q e, numbers_front n s p) (omega arith)

-- a walk that has i of n numbers behind it, and stands at rest: k is what is chosen of all
module _ (n i best k : ℕ) (rest : List ℕ) (walk : max best (chosen (numbers_at (n - i) rest 0)) ≡ k) where
  pub walk_all : n ≤ i → best ≡ k
  unfolding chosen numbers_at
  walk_all h = let z : n - i ≡ 0 = omega arith in let e : max best 0 ≡ k = rw z at walk in omega arith

  pub walk_stop : length rest < 8 → best ≡ k
  walk_stop h = let e : chosen (numbers_at (n - i) rest 0) ≡ 0 = none_left rest (n - i) h in omega arith

  pub walk_next : i < n → 8 ≤ length rest → (x b : ℕ) → x ≡ number_at 8 rest 0 → b ≡ max best (counted x)
      → max b (chosen (numbers_at (n - (i + 1)) (take (length rest - 8) (drop 8 rest)) 0)) ≡ k
  walk_next h l x b ex eb =
      let z : n - i ≡ suc (n - (i + 1)) = omega arith in
      let o : chosen (numbers_at (n - i) rest 0) ≡ max (counted (number_at 8 rest 0)) (chosen (numbers_at (n - (i + 1)) (drop 8 rest) 0)) = rw z (one_left rest (n - (i + 1)) l) in
      let c : counted x ≡ counted (number_at 8 rest 0) = ap counted ex in
      let t : take (length rest - 8) (drop 8 rest) ≡ drop 8 rest = take_all (length rest - 8) (drop 8 rest) (omega (arith, length-drop 8 rest)) in
      rw t (omega arith)

-- ---- what the call answers of a message m that was read as a

module _ (m : List ℕ) where
  pub offers_refused : (a : Reading) (e : Refused) → Err e ≡ sought_in a ProtocolVersions m → 0 ≡ chosen (offers_in a m)
  unfolding chosen
  offers_refused (Ok a) e h = cc
  offers_refused (Err x) e h = refl
