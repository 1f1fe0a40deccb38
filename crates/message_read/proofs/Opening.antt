-- The tests before the fields, as laws: what a message that passes them is, which of them refuses one that does not, and what that says of its reading.
use Prim.Native.Nat.{ℕ, ◌+◌, ◌≤◌, ◌<◌}
use native.Mathlib.Omega.{arith}
use mathlib.Core.Path.{◌≡◌, refl, sym, ap, subst}
use mathlib.Core.Bool.{Bool, true, false, not}
use mathlib.Core.List.{List}
use lib.ListN.{length}
use lib.Dec.{ltb}
use borrow.Author.Tests.{le-ltb, ltb-true, ltb-false, not-false}
use Rattle.std.specs.Prelude.{Option, Ok, Err}
use Rattle.wire.specs.Reading.{refused, read_fields, read_end}
use Rattle.wire.specs.declared.Refused.{Refused}
use Rattle.wire.specs.declared.Fault.{Fault}
use Rattle.wire.specs.declared.Fault.TheVariants.{NotWhole, NoSuchVersion, UnknownType, NotInVersion, TooLarge}
use Rattle.message_layout.specs.Table.{layout, versions_of, known, holds, served}
use Rattle.message_layout.specs.Message.{header_size, size_most, type_in, size_in, payload_in}
use Rattle.message_layout.specs.declared.Versions.{Versions}
use Rattle.message_read.specs.Reading.{Reading, accepted, refuse, answer, tested, opening, reading}
use Rattle.message_read.specs.declared.Accepted.{Accepted}

-- no refusal is an acceptance
pub never : {A : Type 0} {r : Refused} {a : Accepted} → ◌≡◌ {A = Reading} (Err r) (Ok a) → A
never {A} {r} {a} h = let k : ◌≡◌ {A = ℕ} 0 1 = cc in absurd (omega arith)

not_true : (b : Bool) → not b ≡ true → b ≡ false
not_true true h = sym h
not_true false h = refl

-- ---- one test

-- what was accepted passed the test
passed : (b : Bool) (f : Fault) (r : Reading) {a : Accepted} → refuse b f r ≡ Ok a → (b ≡ false) × (r ≡ Ok a)
passed true f r h = never h
passed false f r h = (refl, h)

-- what was refused was refused by the test, without a place, or after it
stopped : {A : Type 0} (b : Bool) (f : Fault) (r : Reading) {x : Refused} → refuse b f r ≡ Err x
    → (b ≡ true → refused f 0 ≡ x → A) → (b ≡ false → r ≡ Err x → A) → A
stopped true f r h here after = here refl (cc)
stopped false f r h here after = after refl h

-- what comes after the test matters where the refusal is not the test's
alike : (b : Bool) (f : Fault) (r s : Reading) {x : Refused} → (r ≡ Err x → s ≡ Err x) → refuse b f r ≡ Err x → refuse b f s ≡ Err x
alike true f r s k h = h
alike false f r s k h = k h

-- ---- all of them

-- a message that passes them, test by test
pub record Opened (v : ℕ) (m : List ℕ) : Type 0 where
  pub version : served v ≡ true
  pub whole_header : header_size ≤ length m
  pub familiar : known (versions_of (type_in m)) ≡ true
  pub held : holds (versions_of (type_in m)) v ≡ true
  pub small : size_in m ≤ size_most
  pub whole : header_size + size_in m ≤ length m

-- a message that does not: the fault is that of the first test that it fails, and it passes those before
pub data Turned (v : ℕ) (m : List ℕ) : Fault → Type 0 where
  no_version : served v ≡ false → Turned v m NoSuchVersion
  short-header : served v ≡ true → length m < header_size → Turned v m NotWhole
  no_type : served v ≡ true → header_size ≤ length m → known (versions_of (type_in m)) ≡ false → Turned v m UnknownType
  not_held : served v ≡ true → header_size ≤ length m → known (versions_of (type_in m)) ≡ true → holds (versions_of (type_in m)) v ≡ false → Turned v m NotInVersion
  large : served v ≡ true → header_size ≤ length m → holds (versions_of (type_in m)) v ≡ true → size_most < size_in m → Turned v m TooLarge
  short-payload : served v ≡ true → header_size ≤ length m → holds (versions_of (type_in m)) v ≡ true → size_in m ≤ size_most → length m < header_size + size_in m → Turned v m NotWhole

module _ (v : ℕ) (m : List ℕ) where
  abbrev vs : Option Versions
  vs = versions_of (type_in m)

  -- whatever comes after them: where that is accepted, all were passed
  pub tests_passed : (rest : Reading) (a : Accepted) → tested v m rest ≡ Ok a → Opened v m × (rest ≡ Ok a)
  tests_passed rest a h =
      let p40 = passed (not (served v)) NoSuchVersion _ h in
      let p1 = passed (ltb (length m) header_size) NotWhole _ p40.1 in
      let p41 = passed (not (known vs)) UnknownType _ p1.1 in
      let p42 = passed (not (holds vs v)) NotInVersion _ p41.1 in
      let p43 = passed (ltb size_most (size_in m)) TooLarge _ p42.1 in
      let q1 = passed (ltb (length m) (header_size + size_in m)) NotWhole _ p43.1 in (
        record {
          version = not-false (served v) p40.0;
          whole_header = ltb-false (length m) header_size p1.0;
          familiar = not-false (known vs) p41.0;
          held = not-false (holds vs v) p42.0;
          small = ltb-false size_most (size_in m) p43.0;
          whole = ltb-false (length m) (header_size + size_in m) q1.0;
        },
        q1.1,
      )

  -- where all are passed, what comes after them decides
  pub tests_pass : Opened v m → (rest : Reading) → tested v m rest ≡ rest
  tests_pass o rest =
      rw (
        o.version,
        le-ltb (length m) header_size o.whole_header,
        o.familiar,
        o.held,
        le-ltb size_most (size_in m) o.small,
        le-ltb (length m) (header_size + size_in m) o.whole,
      )

  -- ---- accepted

  module _ (a : Accepted) (h : opening v m ≡ Ok a) where
    pub opened : Opened v m × (a.kind ≡ type_in m) × (a.used ≡ header_size + size_in m) × (a.used ≤ length m)
    unfolding opening
    opened =
        let p = tests_passed (Ok (accepted (type_in m) (header_size + size_in m))) a h in
        let z : accepted (type_in m) (header_size + size_in m) ≡ a = cc in
        let e : a.used ≡ header_size + size_in m = sym (ap (λ (x : Accepted). x.used) z) in
        (p.0, sym (ap (λ (x : Accepted). x.kind) z), e, omega (arith, p.0.whole))

    -- the fields decide
    pub opened-reading : reading v m ≡ answer a.kind a.used (read_end (payload_in m) (read_fields (layout a.kind) (payload_in m) (Ok 0)))
    unfolding reading
    opened-reading = rw (opened.1, opened.2) (tests_pass opened.0 _)

  -- ---- refused

  module _ (r : Refused) (h : opening v m ≡ Err r) where
    -- which test it was
    pub turned : Turned v m r.fault × (r.place ≡ 0)
    unfolding opening
    turned =
        stopped (not (served v)) NoSuchVersion _ h (by (λ b. no_version (not_true (served v) b)))
        (λ a h1. let s = not-false (served v) a in
        stopped (ltb (length m) header_size) NotWhole _ h1 (by (λ b. short-header s (ltb-true (length m) header_size b)))
        (λ a h41. let w = ltb-false (length m) header_size a in
        stopped (not (known vs)) UnknownType _ h41 (by (λ b. no_type s w (not_true (known vs) b)))
        (λ a h42. let k = not-false (known vs) a in
        stopped (not (holds vs v)) NotInVersion _ h42 (by (λ b. not_held s w k (not_true (holds vs v) b)))
        (λ a h43. let i = not-false (holds vs v) a in
        stopped (ltb size_most (size_in m)) TooLarge _ h43 (by (λ b. large s w i (ltb-true size_most (size_in m) b)))
        (λ a g1. let n = ltb-false size_most (size_in m) a in
        stopped (ltb (length m) (header_size + size_in m)) NotWhole _ g1 (by (λ b. short-payload s w i n (ltb-true (length m) (header_size + size_in m) b)))
        (λ _ k. never (sym k)))))))
      where
        by : {b : Bool} {g : Fault} → (b ≡ true → Turned v m g) → b ≡ true → refused g 0 ≡ r → Turned v m r.fault × (r.place ≡ 0)
        by t b e = (subst (Turned v m) (ap (λ (x : Refused). x.fault) e) (t b), sym (ap (λ (x : Refused). x.place) e))

    -- what comes after them is not looked at
    pub tests_turned : (rest : Reading) → tested v m rest ≡ Err r
    unfolding opening
    tests_turned rest =
        alike (not (served v)) NoSuchVersion _ _
        (alike (ltb (length m) header_size) NotWhole _ _
        (alike (not (known vs)) UnknownType _ _
        (alike (not (holds vs v)) NotInVersion _ _
        (alike (ltb size_most (size_in m)) TooLarge _ _
        (alike (ltb (length m) (header_size + size_in m)) NotWhole _ _ (λ k. never (sym k))))))) h

    -- no field is read
    pub turned-reading : reading v m ≡ Err r
    unfolding reading
    turned-reading = tests_turned _
