-- What the program play does with its input.
use Rattle.std.specs.Prelude.{false, List, ℕ}
use Rattle.link_changes.specs.Outcome.{Outcome}
use Rattle.link_calls.specs.Calls.{making}
use Rattle.link_receive.specs.Run.{Run, running, stop_number}
use Rattle.text.specs.Text.{words, two_numbers}

-- the greatest number of records
abbrev pub most_records : ℕ
most_records = 65536

-- a run over a fresh endpoint that did not begin the link, and the store that making it leaves
unfoldable pub playing : List ℕ → List ℕ → List ℕ → Run
playing store bytes out =
    let made : Outcome = making false store in
    running most_records made.endpoint made.store bytes out

-- the line of a number of records accepted and the number that stopped the run
abbrev pub ran_line : ℕ → ℕ → List ℕ
ran_line accepted stop = two_numbers (words "accepted ") accepted (words " answer ") stop

-- the line that the program prints of a run
abbrev pub play_line : Run → List ℕ
play_line run = ran_line run.accepted (stop_number run)
