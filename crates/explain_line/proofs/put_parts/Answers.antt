use Rattle.explain_line.proofs.Laws.{parts_put, no_parts, all_short, none_short}
use Rattle.explain_line.proofs.put_parts.Goals as goal

pub returns-in-Some : goal.returns-in-Some
returns-in-Some c = record { put = search parts_put; reason_len_bound = search all_short }

pub returns-in_default : goal.returns-in_default
returns-in_default c = record { put = search no_parts; reason_len_bound = search none_short }
