-- Bytes put one after the other into a lent buffer. A byte past its end is left out, so that a run of puts needs no test of its own.
use Rattle.std.specs.Prelude.{ℕ, ◌+◌, min, ◌≡◌, List, ◌++◌, length, drop}
use Rattle.std.proofs.lemmas.List.Edits.{sets}

-- bytes put from a place on: what the buffer becomes, and the place behind them
pub record Put (bytes : List ℕ) (entry : List ℕ) (at : ℕ) (exit : List ℕ) (r : ℕ) : Type 0 where
  pub buffer : exit ≡ sets entry at bytes
  pub place : r ≡ min (at + length bytes) (length entry)

-- a whole line at the front of a buffer, with nothing changed behind it, and its length
pub record Line (bytes : List ℕ) (entry : List ℕ) (exit : List ℕ) (r : ℕ) : Type 0 where
  pub buffer : exit ≡ bytes ++ drop (length bytes) entry
  pub size : r ≡ length bytes
