-- The tests of a reading, one law for each way out of the code.
use Prim.Native.Nat.{ℕ, ◌+◌, ◌≤◌, ◌<◌}
use mathlib.Core.Path.{◌≡◌, sym, ap, ◌∙◌}
use mathlib.Core.Bool.{Bool, true, false}
use mathlib.Core.List.{List}
use lib.ListN.{length}
use borrow.Author.Tests.{lt-ltb, le-ltb}
use Rattle.std.specs.Prelude.{Option, Some, None, Ok, Err}
use Rattle.wire.specs.Reading.{refused}
use Rattle.wire.specs.declared.Fault.TheVariants.{NotWhole, NoSuchVersion, UnknownType, NotInVersion}
use Rattle.message_layout.specs.Table.{versions_of, holds, served}
use Rattle.message_layout.specs.Message.{type_in, size_in}
use Rattle.message_layout.specs.declared.Versions.{Versions}
use Rattle.message_read.specs.Reading.{Reading, accepted, size_tested, opening}

module _ (v : ℕ) (m : List ℕ) (r : Reading) (b : Bool) (test : b ≡ served v) where
  pub not_served : b ≡ false → r ≡ Err (refused NoSuchVersion 0) → r ≡ opening v m
  unfolding opening
  not_served h e = rw (← test, h) e

  module _ (ok : b ≡ true) where
    pub header-short : length m < 32 → r ≡ Err (refused NotWhole 0) → r ≡ opening v m
    unfolding opening
    header-short h e = rw (← test, ok, lt-ltb (length m) 32 h) e

    module _ (whole : 32 ≤ length m) (t : ℕ) (et : t ≡ type_in m) (vs : Option Versions) (ev : vs ≡ versions_of t) where
      here : versions_of (type_in m) ≡ vs
      here = ap versions_of (sym et) ∙ sym ev

      pub type_unknown : vs ≡ None → r ≡ Err (refused UnknownType 0) → r ≡ opening v m
      unfolding opening
      type_unknown h e = rw (← test, ok, le-ltb (length m) 32 whole, here, h) e

      module _ (x : Versions) (is : vs ≡ Some x) (c : Bool) (within : c ≡ holds (Some x) v) where
        pub not_held : c ≡ false → r ≡ Err (refused NotInVersion 0) → r ≡ opening v m
        unfolding opening
        not_held h e = rw (← test, ok, le-ltb (length m) 32 whole, here, is, ← within, h) e

        pub in_version : c ≡ true → r ≡ size_tested m (Ok (accepted t (32 + size_in m))) → r ≡ opening v m
        unfolding opening
        in_version h e = rw (← test, ok, le-ltb (length m) 32 whole, here, is, ← within, h) (rw (← et) e)
