use Rattle.explain_line.proofs.Laws.{field_put, no_field}
use Rattle.explain_line.proofs.put_field.Goals as goal

pub returns-then-is_some : goal.returns-then-is_some
returns-then-is_some c = search field_put

pub returns-else-is_some : goal.returns-else-is_some
returns-else-is_some c = search no_field
