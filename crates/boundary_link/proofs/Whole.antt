-- What numbers that are an endpoint have.
use Prim.Native.Nat.{ℕ, ◌≤◌}
use mathlib.Core.Path.{◌≡◌}
use mathlib.Core.Bool.{true, ◌&&◌}
use mathlib.Core.List.{List}
use borrow.Author.Tests.{eqb-true, leb-true}
use lib.Dec.{eqb, leb}
use lib.ListN.{length, get_or}
use Rattle.link_rows.specs.Rules.{every}
use Rattle.link_rows.proofs.Laws.{and_left, and_right}
use Rattle.boundary_link.specs.Mirror.{is_row, rows_in, is_endpoint}

module _ (numbers : List ℕ) (h : is_endpoint numbers ≡ true) where
  pub whole_length : length numbers ≡ 163
  unfolding is_endpoint
  whole_length = eqb-true _ _ (and_left (eqb (length numbers) 163) _ h)

  rest : (leb (get_or numbers 0 0) 1 && (leb (get_or numbers 1 0) 1 && every is_row (rows_in numbers))) ≡ true
  unfolding is_endpoint
  rest = and_right (eqb (length numbers) 163) _ h

  pub whole_began : get_or numbers 0 0 ≤ 1
  whole_began = leb-true _ _ (and_left (leb (get_or numbers 0 0) 1) _ rest)

  pub whole_down : get_or numbers 1 0 ≤ 1
  whole_down = leb-true _ _ (and_left (leb (get_or numbers 1 0) 1) _ (and_right (leb (get_or numbers 0 0) 1) _ rest))

  pub whole_rows : every is_row (rows_in numbers) ≡ true
  whole_rows = and_right (leb (get_or numbers 1 0) 1) _ (and_right (leb (get_or numbers 0 0) 1) _ rest)
