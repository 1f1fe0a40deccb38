-- The lines, by what the calls answered.
use Prim.Native.Nat.{ℕ}
use mathlib.Core.Path.{◌≡◌}
use mathlib.Core.Bool.{Bool}
use mathlib.Core.List.{List}
use lib.ListN.{length}
use Rattle.message_read.specs.Reading.{reading}
use Rattle.message_verdict.specs.Writing.{Written, number_of, used_of}
use Rattle.text.specs.Text.{words, decimal}
use Rattle.text.specs.Same.{same_bytes}
use Rattle.text.specs.Cursors.{Puts}
use Rattle.text.specs.Puts.{Put}
use Rattle.text.specs.declared.cursor.Cursor.{Cursor}
use Rattle.text.proofs.Chain.{chain}
use Rattle.roundtrip_report.specs.Reports.{is_read, answer_text, head_text, outcome_text, report_line, large_line}

-- a writer's answer, by its numbers
pub answered : (a : Written) (n u : ℕ) {c d e f g : Cursor} → n ≡ number_of a → u ≡ used_of a
    → Puts (words " answer ") c d → Puts (decimal n) d e → Puts (words " used ") e f → Puts (decimal u) f g
    → Puts (answer_text a) c g
answered a n u e d f g h i = rw (← e, ← d) (chain f (chain g (chain h i)))

-- a line that begins at the front of the buffer o and leaves it as o'
module _ (answer : Written) (o o' : List ℕ) {a : Cursor} (front : a.out.now ≡ o) (start : a.at ≡ 0) where
  pub reported : (kind n : ℕ) (message : List ℕ) (version : ℕ) (again : List ℕ) (is equal : Bool) {b c : Cursor}
      → is ≡ is_read (reading version message) kind (length message) → equal ≡ same_bytes message again
      → Puts (head_text kind n answer) a b → Puts (outcome_text is equal) b c → o' ≡ c.out.now
      → Put (report_line kind n answer message version again) o 0 o' c.at
  reported kind n message version again is equal e d f g z = rw (← front, ← start, z) (chain f (rw (e, d) at g)).put

  pub put_whole : (size : ℕ) {b c d e : Cursor}
      → Puts (words "3103 data ") a b → Puts (decimal size) b c → Puts (answer_text answer) c d → Puts (words "\n") d e → o' ≡ e.out.now
      → Put (large_line size answer) o 0 o' e.at
  put_whole size f g h i z = rw (← front, ← start, z) (chain f (chain g (chain h i))).put
