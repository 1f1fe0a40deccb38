use Rattle.std.proofs.Common.{◌≡◌, drop, Ok}
use Rattle.message_fields.proofs.Seeking.{row_sought}
use Rattle.message_fields.proofs.seek.find.Given as goal

abbrev pub invariant-loop-field : goal.invariant-loop-field
invariant-loop-field l = row_sought l.role (drop l.field-index l.field-items) l.s (Ok l.at) ≡ row_sought l.role l.field-items l.s (Ok 0)
