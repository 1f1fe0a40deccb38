use Prim.Native.Nat.{◌/◌}
use native.Mathlib.Omega.{arith}
use Rattle.payload_read.proofs.Versions.{versions_all, versions_some}
use Rattle.payload_read.proofs.lists.versions.Goals as goal

pub returns-then-n-fit : goal.returns-then-n-fit
returns-then-n-fit c = let a = c.args in
    versions_all a.s.now c.requires a.n a.n a.at (c.saturating_sub-fit.result / 8) (omega arith) (omega arith)

pub returns : goal.returns
returns c = let a = c.args in
    versions_some a.s.now c.requires a.n a.n a.at (c.saturating_sub-fit.result / 8) (omega arith) (omega arith)
