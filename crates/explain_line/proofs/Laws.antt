-- The parts of a line, put at a cursor, and how long they are.
use Prim.Native.Nat.{ℕ, ◌≤◌}
use native.Mathlib.Omega.{arith}
use mathlib.Core.Path.{◌≡◌, ap}
use mathlib.Core.Bool.{Bool, true, false}
use mathlib.Core.List.{List}
use lib.ListN.{length}
use Rattle.std.specs.Prelude.{Option, None, Some}
use Rattle.std.specs.Option.{is_some}
use Rattle.message_walk.specs.declared.FieldName.{FieldName}
use Rattle.message_walk.specs.declared.Reason.{Reason}
use Rattle.text.specs.Text.{words}
use Rattle.text.specs.Puts.{Put, Line}
use Rattle.text.specs.Cursors.{Puts}
use Rattle.text.specs.declared.cursor.Cursor.{Cursor}
use Rattle.text.proofs.Chain.{chain, put_none, fitting}
use Rattle.explain_line.specs.Parts.{reason_number, field_word, numbers_of}
use Rattle.explain_line.specs.declared.parts.Numbers.{Numbers}
use Rattle.explain_line.specs.Lines.{numbered, field_part, element_part, detail_part, parts, explain_line}
use Rattle.explain_line.proofs.Lengths.{parts-short, line_short}

-- ---- at a cursor

module _ (t : Bool) where
  pub field_put : (x : Option FieldName) {a b c : Cursor} → t ≡ is_some x → t ≡ true → Puts (words " field ") a b
      → Put (field_word x) b.out.now b.at c.out.now c.at → c.out.ghost_name ≡ b.out.ghost_name → Puts (field_part x) a c
  unfolding field_part
  field_put None h e f g s = cc
  field_put (Some n) h e f g s = chain f (record { put = g; same = s })

  pub no_field : (x : Option FieldName) (a : Cursor) → t ≡ is_some x → t ≡ false → Puts (field_part x) a a
  unfolding field_part
  no_field None a h e = put_none a a.inside
  no_field (Some n) a h e = cc

module _ (x : Option Reason) where
  pub parts_put : (r : Reason) {a b c d : Cursor} → x ≡ Some r → Puts (field_part r.field) a b → Puts (element_part r.index) b c
      → Puts (detail_part r.detail) c d → Puts (parts x) a d
  unfolding parts
  parts_put r e f g h = rw e (chain f (chain g h))

  pub no_parts : (a : Cursor) → x ≡ None → Puts (parts x) a a
  unfolding parts
  no_parts a e = rw e (put_none a a.inside)

  pub all_short : (r : Reason) → x ≡ Some r → length (element_part r.index) ≤ 29 → length (detail_part r.detail) ≤ 53 → length (parts x) ≤ 137
  unfolding parts
  all_short r e h k = rw e (parts-short r.field r.index r.detail h k)

  pub none_short : x ≡ None → length (parts x) ≤ 137
  unfolding parts
  none_short e = rw e (omega arith)

  -- the line, whose number is among those of the reason
  pub line_put : (q : Numbers) {a b c d : Cursor} → q ≡ numbers_of x → Puts (numbered (words "answer ") q.number) a b → Puts (parts x) b c
      → length (parts x) ≤ 137 → Puts (words "\n") c d → (o : List ℕ) → a.out.now ≡ o → a.at ≡ 0 → length o ≡ 160 → Line (explain_line x) o d.out.now d.at
  unfolding explain_line
  line_put q e f g h k o i z l =
      let n : q.number ≡ reason_number x = ap (λ (y : Numbers). y.number) e in
      fitting (explain_line x) (omega (arith, line_short x h)) (rw (← n, ← i, ← z) (chain f (chain g k)).put)
