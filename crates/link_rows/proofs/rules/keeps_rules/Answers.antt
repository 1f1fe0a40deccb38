use mathlib.Core.Path.{refl}
use Rattle.link_rows.proofs.Split.{rules_split}
use Rattle.link_rows.proofs.rules.keeps_rules.Goals as goal

pub returns : goal.returns
returns c = rw (rules_split, c.all_differ.ensures, c.each_keeps.ensures, c.sessions-ids.ensures) refl
