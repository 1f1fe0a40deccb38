use lib.ListN.{drop}
use mathlib.Core.Path.{◌≡◌}
use Rattle.payload_read.proofs.Walk.{row_read}
use Rattle.payload_read.proofs.optional.items.Given as goal

abbrev pub invariant-loop-field : goal.invariant-loop-field
invariant-loop-field l = row_read (drop l.field-index l.field-items) l.s l.o ≡ row_read l.field-items l.s l.initial.o
