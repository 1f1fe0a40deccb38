-- Columns from element i on: their numbers from i + 1 on are those after the first of them.
use Rattle.std.proofs.Common.{◌≡◌, ℕ, ◌+◌, List, drop, sym}
use lib.Seq.{drop-drop}

pub drop_next : (ns : List ℕ) (i : ℕ) → drop (i + 1) ns ≡ drop 1 (drop i ns)
drop_next ns i = sym (drop-drop 1 i ns)
