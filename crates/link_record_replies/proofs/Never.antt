-- 29 does not arise where the row rules hold: 27 comes first, and what is granted fits the row.
use mathlib.Core.Path.{◌≡◌, refl}
use mathlib.Core.Bool.{Bool, true, false, ◌&&◌}
use Prim.Native.Nat.{◌+◌}
use native.Mathlib.Omega.{arith}
use borrow.Author.Tests.{ltb-false, le-ltb}
use lib.Dec.{ltb}
use Rattle.link_rows.specs.Limits.{TRANSMIT, row_length}
use Rattle.link_rows.specs.Rows.{is_open, row_of, row_for}
use Rattle.link_rows.specs.Rules.{Rules}
use Rattle.link_rows.specs.declared.Endpoint.{Endpoint}
use Rattle.link_rows.specs.declared.Record.{Record}
use Rattle.link_rows.proofs.Laws.{row_room}
use Rattle.link_record_replies.specs.Records.{is}

pub never_full : (e : Endpoint) (h : Record) → Rules e ≡ true → (is TRANSMIT h && ltb (row_for e h.id).input h.count) ≡ false
    → (is TRANSMIT h && is_open (row_for e h.id).status && ltb row_length ((row_for e h.id).unread + h.count)) ≡ false
never_full e h k g = go (is TRANSMIT h) (is_open (row_for e h.id).status) g
  where
    go : (t o : Bool) → (t && ltb (row_for e h.id).input h.count) ≡ false → (t && o && ltb row_length ((row_for e h.id).unread + h.count)) ≡ false
    go true true q = le-ltb row_length ((row_for e h.id).unread + h.count) (omega (arith, row_room e (row_of h.id) k, ltb-false (row_for e h.id).input h.count q))
    go true false q = refl
    go false o q = refl
