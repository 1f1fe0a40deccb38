use native.Mathlib.Omega.{arith}
use Rattle.text.proofs.Chain.{text_fits, text_cut}
use Rattle.text.proofs.put_text.Goals as goal

pub returns-then-text-room : goal.returns-then-text-room
returns-then-text-room c = text_fits _ _ _ _ _ c.min-start.ensures (omega arith) c.copy.ensures (omega arith)

pub returns : goal.returns
returns c = text_cut _ _ _ _ c.min-start.ensures (omega arith) c.copy-2.ensures
