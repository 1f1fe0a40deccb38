-- What is put at a cursor.
use Rattle.std.specs.Prelude.{ℕ, ◌≡◌, List}
use Rattle.text.specs.Puts.{Put}
use Rattle.text.specs.declared.cursor.Cursor.{Cursor}

-- bytes put at a cursor, which then stands behind them in the same buffer
pub record Puts (bytes : List ℕ) (entry exit : Cursor) : Type 0 where
  pub put : Put bytes entry.out.now entry.at exit.out.now exit.at
  pub same : exit.out.ghost_name ≡ entry.out.ghost_name
