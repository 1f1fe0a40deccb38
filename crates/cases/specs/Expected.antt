-- What the definitions that the contracts cite answer to the rows of the table, and the statement that it is what the table expects.
use Rattle.std.specs.Prelude.{ℕ, ◌≡◌, false, List, [], ◌∷◌, ◌++◌, length, drop, replicate}
use Rattle.message_read.specs.Reading.{Reading, reading, number_of, place_of, used_of}
use Rattle.message_choice.specs.Choice.{chosen}
use Rattle.link_rows.specs.Limits.{store_length}
use Rattle.link_rows.specs.Replies as link
use Rattle.link_changes.specs.Outcome.{Outcome}
use Rattle.link_calls.specs.Calls.{making}
use Rattle.link_history.specs.Calls.{Closing, Requesting, Receiving, World, Step, step, start}
use Rattle.link_history.specs.Calls as calls
use Rattle.cases.specs.Table.{Deed, ReadMessage, ChooseVersion, Make, Receive, Request, Close, ReadQueue, Row, bytes_in, numbers_in, table}

-- the output that a link call is lent
abbrev pub lent : List ℕ
lent = replicate 16 0xAA

-- what is answered, and the endpoint, store and output that are left
pub record Answered : Type 0 where
  pub number : ℕ
  pub place : ℕ
  pub value : ℕ
  pub world : World
  pub output : List ℕ

-- a message read: its number and place, with the used length as the value; the link is left as it was
abbrev pub of_reading : World → Reading → Answered
of_reading w x = record { number = number_of x; place = place_of x; value = used_of x; world = w; output = lent }

-- a version chosen: the number 0, with the version as the value; the link is left as it was
abbrev pub of_choice : World → ℕ → Answered
of_choice w v = record { number = 0; place = 0; value = v; world = w; output = lent }

-- a call of the link: its reply's number, with the bytes written as the value
abbrev pub of_step : Step → Answered
of_step s = record { number = link.number_of s.answer.reply; place = 0; value = s.answer.written; world = s.world; output = s.out }

-- making takes no output
abbrev pub of_made : Outcome → Answered
of_made o = record { number = link.number_of o.reply; place = 0; value = link.written_by o.reply; world = record { endpoint = o.endpoint; store = o.store }; output = lent }

-- a row, by the definitions: `reading`, `chosen`, and `step` for the calls of the link
abbrev pub answered : World → Row → Deed → Answered
answered w r ReadMessage = of_reading w (reading r.first (bytes_in r.bytes))
answered w r ChooseVersion = of_choice w (chosen (numbers_in r.bytes))
answered w r Make = of_made (making false w.store)
answered w r Receive = of_step (step w (Receiving (bytes_in r.bytes) lent))
answered w r Request = of_step (step w (Requesting 0x8000 r.first r.second lent))
answered w r Close = of_step (step w (Closing 0x8000 r.first lent))
answered w r ReadQueue = of_step (step w (calls.Reading 0x8000 r.first lent))

-- what the first row finds: a fresh endpoint and its store; the other end began the link
abbrev pub fresh : World
fresh = start false (replicate store_length 0)

-- the output that a row expects: its bytes, and behind them what was lent
abbrev pub expected_output : Row → List ℕ
expected_output r = bytes_in r.output ++ drop (length (bytes_in r.output)) lent

-- the answer to a row is the expected one
pub record Agrees (a : Answered) (r : Row) : Type 0 where
  pub number : a.number ≡ r.number
  pub place : a.place ≡ r.place
  pub value : a.value ≡ r.value
  pub output : a.output ≡ expected_output r

-- the answer to each of some rows is the expected one; w is what the row before them left
abbrev pub AllAgree : World → List Row → Type 0
AllAgree w [] = Unit
AllAgree w (r ∷ rs) = Agrees (answered w r r.deed) r × AllAgree (answered w r r.deed).world rs

-- the statement: all fourteen cases
abbrev pub FourteenCases : Type 0
FourteenCases = AllAgree fresh table
